-- What is written reads back: an integer and a count, whatever stands before and after.
use Prim.Native.Nat.{ℕ, suc, ◌+◌, ◌*◌, ◌/◌, ◌%◌, ◌≤◌, ◌<◌}
use mathlib.Core.Path.{◌≡◌, refl, ◌∙◌, ap}
use mathlib.Core.Bool.{Bool, true, false}
use mathlib.Core.List.{List, [], ◌∷◌, ◌++◌}
use native.Mathlib.Omega.{arith}
use native.Mathlib.Decide.{dec_lt}
use borrow.Author.Tests.{lt-ltb, le-ltb, le-leb, leb-true}
use lib.Dec.{ltb}
use lib.ListN.{length}
use lib.IntN.{ℤ, pos, negsuc, nat_abs}
use Rattle.memory.specs.declared.Remembered.{Remembered}
use Rattle.refusals.specs.declared.Taken.{Taken}
use Rattle.refusals.specs.Answers.{Answer, done, refused, Reads}
use Rattle.wire.specs.Taking.{byte_at}
use Rattle.wire.specs.Sending.{sent}
use Rattle.wire.proofs.Feeds.{Feeds, Plain, Stands, stands-between, sent-taken}
use Rattle.signs.specs.Signs.{signed_of, is_negative, most_magnitude, is_integer}
use Rattle.numbers.specs.Integers.{integer_from, integer_at, low_byte, in_range, low_of, spell_of, spell}
use Rattle.numbers.specs.Counts.{count_in, count_at}
use Rattle.numbers.proofs.Reading.{low-byte, high_byte}
use Rattle.numbers.proofs.Spelling.{spell_one, spell-two, spell-three}

-- none, one or two high bytes
pub ways : {P : Type 0} (h : ℕ) → (h ≡ 0 → P) → ((h ≡ 0 → ⊥) → h < 64 → P) → (64 ≤ h → P) → P
ways {P} h f g k = by (dec_lt h 1) (dec_lt h 64)
  where
    by : Dec (h < 1) → Dec (h < 64) → P
    by (yes a) d = f (omega arith)
    by (no a) (yes l) = g (λ e. a (omega arith)) l
    by (no a) (no l) = k (omega arith)

pub limit_least : (t : Bool) → most_magnitude t ≤ 32768
limit_least true = omega arith
limit_least false = omega arith

pub low_range : (m : ℕ) (t : Bool) → (32 ≤ low_of m t) × (low_of m t < 64)
low_range m true = omega arith
low_range m false = omega arith

-- the low byte gives back what it was made of
low_back : (h m : ℕ) (t : Bool) (p n : ℕ) → h ≡ m / 16 → low_byte h (low_of m t) p n ≡ in_range m t p n
low_back h m true p n e =
    let x : h * 16 + (32 + m % 16) % 16 ≡ m = omega arith in
    let y : ltb (32 + m % 16) 48 ≡ true = lt-ltb (32 + m % 16) 48 (omega arith) in
    rw (x, y)
low_back h m false p n e =
    let x : h * 16 + (48 + m % 16) % 16 ≡ m = omega arith in
    let y : ltb (48 + m % 16) 48 ≡ false = le-ltb (48 + m % 16) 48 (omega arith) in
    rw (x, y)

signed_back : (v : ℤ) → signed_of (nat_abs v) (is_negative v) ≡ v
signed_back (pos n) = refl
signed_back (negsuc n) = refl

-- ---- the bytes of a spelling, taken one by one

module _ (kept : Remembered) (s : List ℕ) where
  fed_low : (k h at p n m : ℕ) (t : Bool) → byte_at kept s at ≡ done (record { value = low_of m t; place = p; next = n }) → h ≡ m / 16 → m ≤ most_magnitude t → integer_from kept k h s at ≡ done (record { value = signed_of m t; place = p; next = n })
  fed_low k h at p n m t e x l =
      low-byte kept s at e k h (low_range m t).1 ∙ low_back h m t p n x ∙ rw (le-leb m (most_magnitude t) l)

  fed_high : (k h at p n x : ℕ) → byte_at kept s at ≡ done (record { value = 64 + x; place = p; next = n }) → x < 64 → integer_from kept (suc k) h s at ≡ integer_from kept k (h * 64 + x) s n
  fed_high k h at p n x e l =
      high_byte kept s at e k h (omega arith) ∙ ap (λ (y : ℕ). integer_from kept k (h * 64 + y) s n) (omega arith)

  module _ (at n m : ℕ) (t : Bool) (l : m ≤ most_magnitude t) where
    fed_one : m / 16 ≡ 0 → Feeds kept s at (low_of m t ∷ []) n → Reads (signed_of m t) n (integer_at kept s at)
    unfolding Reads
    fed_one h (p, (k, (e, z))) = rw (fed_low 2 0 at p k m t e (omega arith) l) (refl, z)

    fed_two : m / 16 < 64 → Feeds kept s at ((64 + m / 16 % 64) ∷ low_of m t ∷ []) n → Reads (signed_of m t) n (integer_at kept s at)
    unfolding Reads
    fed_two h (p, (k, (e, (p₂, (k₂, (e₂, z)))))) =
        rw (fed_high 1 0 at p k (m / 16 % 64) e (omega arith), fed_low 1 (0 * 64 + m / 16 % 64) k p₂ k₂ m t e₂ (omega arith) l) (refl, z)

    fed_three : Feeds kept s at ((64 + m / 16 / 64) ∷ (64 + m / 16 % 64) ∷ low_of m t ∷ []) n → Reads (signed_of m t) n (integer_at kept s at)
    unfolding Reads
    fed_three (p, (k, (e, (p₂, (k₂, (e₂, (p₃, (k₃, (e₃, z))))))))) =
        let q = limit_least t in
        rw (fed_high 1 0 at p k (m / 16 / 64) e (omega arith), fed_high 0 (0 * 64 + m / 16 / 64) k p₂ k₂ (m / 16 % 64) e₂ (omega arith), fed_low 0 ((0 * 64 + m / 16 / 64) * 64 + m / 16 % 64) k₂ p₃ k₃ m t e₃ (omega arith) l) (refl, z)

    magnitude_fed : Feeds kept s at (spell_of m t) n → Reads (signed_of m t) n (integer_at kept s at)
    magnitude_fed f =
        ways (m / 16)
        (λ h. fed_one h (rw (← spell_one m t refl h) at f))
        (λ h g. fed_two g (rw (← spell-two m t refl h g) at f))
        (λ h. fed_three (rw (← spell-three m t refl h) at f))

pub spell-plain : (m : ℕ) (t : Bool) → m ≤ most_magnitude t → Plain (spell_of m t)
spell-plain m t l =
    let q = limit_least t in
    let r = low_range m t in
    ways (m / 16)
    (λ h. rw (← spell_one m t refl h) (omega arith, tt))
    (λ h g. rw (← spell-two m t refl h g) (omega arith, (omega arith, tt)))
    (λ h. rw (← spell-three m t refl h) (omega arith, (omega arith, (omega arith, tt))))

-- ---- integers

module _ (kept : Remembered) (v : ℤ) (ok : is_integer v ≡ true) where
  fits : nat_abs v ≤ most_magnitude (is_negative v)
  fits = leb-true (nat_abs v) (most_magnitude (is_negative v)) ok

  pub integer-plain : Plain (spell v)
  integer-plain = spell-plain (nat_abs v) (is_negative v) fits

  pub integer-fed : (s : List ℕ) (at n : ℕ) → Feeds kept s at (spell v) n → Reads v n (integer_at kept s at)
  integer-fed s at n f = rw (signed_back v) at (magnitude_fed kept s at n (nat_abs v) (is_negative v) fits f)

  pub integer-back : (s : List ℕ) (at : ℕ) → Stands s at (sent kept (spell v)) → Reads v (at + length (sent kept (spell v))) (integer_at kept s at)
  integer-back s at st = integer-fed s at (at + length (sent kept (spell v))) (sent-taken kept s at (spell v) integer-plain st)

-- reading what is written gives the value and ends behind it, whatever stands before and after
pub integer-round : (kept : Remembered) (before after : List ℕ) (v : ℤ) → is_integer v ≡ true → Reads v (length before + length (sent kept (spell v))) (integer_at kept (before ++ (sent kept (spell v) ++ after)) (length before))
integer-round kept before after v ok =
    integer-back kept v ok (before ++ (sent kept (spell v) ++ after)) (length before) (stands-between before (sent kept (spell v)) after)

-- ---- counts

as-count : (most c n : ℕ) (a : Answer (Taken ℤ)) → c ≤ most → Reads (pos c) n a → Reads c n (count_in most a)
unfolding Reads count_in
as-count most c n (done r) h (e, z) = rw (e, le-leb c most h) (refl, z)
as-count most c n (refused x p) h z = absurd z

count-is_integer : (c : ℕ) → c ≤ 256 → is_integer (pos c) ≡ true
count-is_integer c h = le-leb c 32767 (omega arith)

pub count-back : (kept : Remembered) (s : List ℕ) (at c : ℕ) → c ≤ 256 → Stands s at (sent kept (spell (pos c))) → Reads c (at + length (sent kept (spell (pos c)))) (count_at kept s at)
count-back kept s at c h st =
    as-count 256 c (at + length (sent kept (spell (pos c)))) (integer_at kept s at) h (integer-back kept (pos c) (count-is_integer c h) s at st)

pub count-round : (kept : Remembered) (before after : List ℕ) (c : ℕ) → c ≤ 256 → Reads c (length before + length (sent kept (spell (pos c)))) (count_at kept (before ++ (sent kept (spell (pos c)) ++ after)) (length before))
count-round kept before after c h =
    count-back kept (before ++ (sent kept (spell (pos c)) ++ after)) (length before) c h (stands-between before (sent kept (spell (pos c))) after)
