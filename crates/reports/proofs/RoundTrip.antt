-- A report that is written reads back, whatever stands before and after.
use Prim.Native.Nat.{ℕ, ◌+◌, ◌-◌, ◌*◌, ◌/◌, ◌%◌, ◌≤◌, ◌<◌}
use mathlib.Core.Path.{◌≡◌, refl, ◌∙◌, ap}
use mathlib.Core.Bool.{Bool, true, false}
use mathlib.Core.List.{List, [], ◌∷◌, ◌++◌, map}
use native.Mathlib.Omega.{arith}
use borrow.Author.Tests.{lt-ltb, le-ltb, le-leb, leb-true}
use lib.Dec.{ltb, leb}
use lib.ListN.{length, get_or, take, drop, length-map, length-drop}
use lib.Seq.{ext_get_or, get_or-take, get_or-drop, length-take-le}
use lib.IntN.{ℤ, pos, negsuc, nat_abs}
use Rattle.refusals.specs.Answers.{done, Reads, ends_after}
use Rattle.refusals.proofs.Cases.{and_left, and_right}
use Rattle.refusals.proofs.Many.{every-split}
use Rattle.wire.proofs.Feeds.{Stands, stands-between, stands-left, stands-right}
use Rattle.signs.specs.Signs.{signed_of, is_negative}
use Rattle.numbers.specs.Integers.{low_of}
use Rattle.numbers.specs.Counts.{count_in}
use Rattle.ranges.proofs.Entries.{within-range}
use Rattle.characters.specs.Characters.{is_character, are_characters, as_bytes}
use Rattle.reports.specs.Reading.{byte_within, report_value, report_from, report_at, characters_end, string_at, entries_at}
use Rattle.reports.specs.Writing.{spell_report_of, spell_report, is_report, spell_string, is_string}

within-is : (least most : ℕ) (s : List ℕ) (at b : ℕ) → at < length s → get_or s at 0 ≡ b → least ≤ b → b ≤ most → byte_within least most s at ≡ done (record { value = b; place = at; next = at + 1 })
unfolding byte_within
within-is least most s at b i e l h = simp (e, lt-ltb at (length s) i, le-ltb b least l, le-ltb most b h)

-- a byte of what stands
byte_at : {s w : List ℕ} {at : ℕ} → Stands s at w → (i j : ℕ) → j ≡ at + i → i < length w → get_or s j 0 ≡ get_or w i 0
byte_at {s} st i j e h = ap (λ (k : ℕ). get_or s k 0) e ∙ st.same i h

-- ---- integer reports

low_most : (m : ℕ) (t : Bool) → (32 ≤ low_of m t) × (low_of m t ≤ 63)
low_most m true = omega arith
low_most m false = omega arith

value-back : (m : ℕ) (t : Bool) → m ≤ 65535 → report_value (32 + m / 1024) (32 + m / 16 % 64) (low_of m t) ≡ signed_of m t
value-back m true h =
    let x : (32 + m / 1024 - 32) * 1024 + (32 + m / 16 % 64 - 32) * 16 + (32 + m % 16) % 16 ≡ m = omega arith in
    let y : ltb (32 + m % 16) 48 ≡ true = lt-ltb (32 + m % 16) 48 (omega arith) in
    rw (x, y)
value-back m false h =
    let x : (32 + m / 1024 - 32) * 1024 + (32 + m / 16 % 64 - 32) * 16 + (48 + m % 16) % 16 ≡ m = omega arith in
    let y : ltb (48 + m % 16) 48 ≡ false = le-ltb (48 + m % 16) 48 (omega arith) in
    rw (x, y)

signed_back : (v : ℤ) → signed_of (nat_abs v) (is_negative v) ≡ v
signed_back (pos n) = refl
signed_back (negsuc n) = refl

magnitude_back : (s : List ℕ) (at m : ℕ) (t : Bool) → m ≤ 65535 → Stands s at (spell_report_of m t) → report_at s at ≡ done (record { value = signed_of m t; place = at + 1 + 1; next = at + 1 + 1 + 1 })
unfolding report_at report_from
magnitude_back s at m t h st =
    let l = low_most m t in
    let a = within-is 32 95 s at (32 + m / 1024) (omega (arith, st.room)) (byte_at st 0 at (omega arith) (omega arith)) (omega arith) (omega arith) in
    let b = within-is 32 95 s (at + 1) (32 + m / 16 % 64) (omega (arith, st.room)) (byte_at st 1 (at + 1) refl (omega arith)) (omega arith) (omega arith) in
    let c = within-is 32 63 s (at + 1 + 1) (low_of m t) (omega (arith, st.room)) (byte_at st 2 (at + 1 + 1) (omega arith) (omega arith)) l.0 l.1 in
    rw (le-ltb (length s) at (omega (arith, st.room)), a, b, c, value-back m t h)

pub report_back : (s : List ℕ) (at : ℕ) (v : ℤ) → is_report v ≡ true → Stands s at (spell_report v) → Reads v (at + 3) (report_at s at)
unfolding Reads
report_back s at v ok st =
    rw (magnitude_back s at (nat_abs v) (is_negative v) (leb-true (nat_abs v) 65535 ok) st) (signed_back v, omega arith)

pub report_round : (before after : List ℕ) (v : ℤ) → is_report v ≡ true → Reads v (length before + 3) (report_at (before ++ (spell_report v ++ after)) (length before))
report_round before after v ok = report_back (before ++ (spell_report v ++ after)) (length before) v ok (stands-between before (spell_report v) after)

-- ---- string reports

run-back : (vs : List ℤ) (s : List ℕ) (at : ℕ) → are_characters vs ≡ true → Stands s at (as_bytes vs) → characters_end (length vs) s at ≡ done (at + length vs)
unfolding ends_after
run-back [] s at ok st = ap done (omega arith)
run-back (v ∷ vs) s at ok st =
    let c = every-split is_character v vs ok in
    let r = within-range 32 127 v c.0 in
    let w = within-is 32 127 s at (nat_abs v) (omega (arith, st.room)) (byte_at st 0 at (omega arith) (omega arith)) r.0 r.1.0 in
    let z : at + 1 + length vs ≡ at + length (v ∷ vs) = omega arith in
    rw w (run-back vs s (at + 1) c.1 (stands-right s at (nat_abs v ∷ []) (as_bytes vs) st) ∙ ap done z)

-- what stands is the part of that length
pub stands-part : (s : List ℕ) (at : ℕ) (w : List ℕ) → Stands s at w → take (length w) (drop at s) ≡ w
stands-part s at w st =
    let l : length (take (length w) (drop at s)) ≡ length w = length-take-le (length w) (drop at s) (omega (arith, st.room, length-drop at s)) in
    ext_get_or 0 (take (length w) (drop at s)) w l (λ i h. get_or-take (length w) (drop at s) i 0 (omega arith) ∙ get_or-drop at s i 0 ∙ st.same i (omega arith))

entries-same : (vs : List ℤ) → are_characters vs ≡ true → map pos (as_bytes vs) ≡ vs
entries-same [] ok = refl
entries-same (v ∷ vs) ok =
    let c = every-split is_character v vs ok in
    let r = within-range 32 127 v c.0 in
    ap (λ (x : ℤ). x ∷ map pos (as_bytes vs)) r.1.1 ∙ ap (λ (l : List ℤ). v ∷ l) (entries-same vs c.1)

pub entries-back : (s : List ℕ) (at : ℕ) (vs : List ℤ) → are_characters vs ≡ true → Stands s at (as_bytes vs) → entries_at (length vs) s at ≡ vs
entries-back s at vs ok st =
    let n : length (as_bytes vs) ≡ length vs = length-map vs nat_abs in
    let p : take (length vs) (drop at s) ≡ as_bytes vs = rw n at (stands-part s at (as_bytes vs) st) in
    ap (map pos) p ∙ entries-same vs ok

module _ (s : List ℕ) (at : ℕ) (vs : List ℤ) (ok : is_string vs ≡ true) (st : Stands s at (spell_string vs)) where
  few : length vs ≤ 256
  unfolding is_string
  few = leb-true (length vs) 256 (and_left (leb (length vs) 256) (are_characters vs) ok)

  all : are_characters vs ≡ true
  unfolding is_string
  all = and_right (leb (length vs) 256) (are_characters vs) ok

  first : Stands s at (spell_report (pos (length vs)))
  unfolding spell_string
  first = stands-left s at (spell_report (pos (length vs))) (as_bytes vs) st

  rest : Stands s (at + 3) (as_bytes vs)
  unfolding spell_string
  rest = stands-right s at (spell_report (pos (length vs))) (as_bytes vs) st

  -- reading a written string gives its length and ends behind it
  pub string_back : (room : ℕ) → length vs ≤ room → string_at s at room ≡ done (record { count = length vs; next = at + 3 + length vs })
  unfolding string_at count_in
  string_back room h =
      let z : at + 1 + 1 + 1 ≡ at + 3 = omega arith in
      rw (magnitude_back s at (length vs) false (omega (arith, few)) first, le-leb (length vs) 256 few, z, run-back vs s (at + 3) all rest, le-leb (length vs) room h)

  -- and the entries are those that were written
  pub string_entries : entries_at (length vs) s (at + 3) ≡ vs
  string_entries = entries-back s (at + 3) vs all rest

-- a written string reads back with its number of entries and its entries, whatever stands before and after
pub string_round : (before after : List ℕ) (vs : List ℤ) (room : ℕ) → is_string vs ≡ true → length vs ≤ room → (string_at (before ++ (spell_string vs ++ after)) (length before) room ≡ done (record { count = length vs; next = length before + 3 + length vs })) × (entries_at (length vs) (before ++ (spell_string vs ++ after)) (length before + 3) ≡ vs)
string_round before after vs room ok h =
    let s = before ++ (spell_string vs ++ after) in
    let st = stands-between before (spell_string vs) after in
    (string_back s (length before) vs ok st room h, string_entries s (length before) vs ok st)
