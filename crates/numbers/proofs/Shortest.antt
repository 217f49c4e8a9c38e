-- Nothing shorter reads as the same number, and what reads as a number can be written.
use Prim.Native.Nat.{ℕ, zero, suc, ◌+◌, ◌*◌, ◌/◌, ◌%◌, ◌≤◌, ◌<◌}
use mathlib.Core.Path.{◌≡◌, refl, sym, ◌∙◌, ap}
use mathlib.Core.Bool.{Bool, true, false}
use mathlib.Core.List.{List, [], ◌∷◌, ◌++◌}
use native.Mathlib.Omega.{arith}
use borrow.Author.Tests.{lt-ltb, le-ltb, le-leb, eq-eqb, ne_eqb, leb-true, ltb-false}
use lib.Dec.{ltb, leb}
use lib.ListN.{length, length-append}
use lib.IntN.{ℤ, pos, negsuc, nat_abs}
use Rattle.memory.specs.declared.Remembered.{Remembered}
use Rattle.refusals.specs.declared.Taken.{Taken}
use Rattle.refusals.specs.Answers.{Answer, done}
use Rattle.refusals.proofs.Cases.{by_pick, by_then, Done, done-of, is-done, not_done, zero_one}
use Rattle.wire.specs.Taking.{byte_at}
use Rattle.wire.specs.Sending.{sent}
use Rattle.wire.proofs.Sendings.{sent-none, sent-append}
use Rattle.wire.proofs.Feeds.{took, took_least, one-most, one-cheap}
use Rattle.signs.specs.Signs.{signed_of, is_negative, most_magnitude, is_integer}
use Rattle.numbers.specs.Integers.{integer_from, integer_at, in_range, low_of, highs_of, spell_of, spell}
use Rattle.numbers.specs.Counts.{as_count, count_in, count_at}
use Rattle.numbers.proofs.RoundTrip.{ways, limit_least, low_range}

-- ---- what high bytes cost

highs_none : (h : ℕ) → h ≡ 0 → highs_of h ≡ []
unfolding highs_of
highs_none h e = rw (eq-eqb h 0 e)

highs_one : (h b : ℕ) → (h ≡ 0 → ⊥) → h < 64 → b ≡ 64 + h → highs_of h ≡ b ∷ []
unfolding highs_of
highs_one h b n l e = let z : 64 + h % 64 ≡ b = omega arith in rw (ne_eqb h 0 n, lt-ltb h 64 l, z)

highs_two : (h a b : ℕ) → 64 ≤ h → a ≡ 64 + h / 64 → b ≡ 64 + h % 64 → highs_of h ≡ a ∷ b ∷ []
unfolding highs_of
highs_two h a b l e f = rw (ne_eqb h 0 (λ q. omega arith), le-ltb h 64 l, ← e, ← f)

module _ (kept : Remembered) where
  abbrev cost : List ℕ → ℕ
  cost w = length (sent kept w)

  free : cost [] ≡ 0
  free = ap length (sent-none kept)

  pub both_cost : (v w : List ℕ) → cost (v ++ w) ≡ cost v + cost w
  both_cost v w = ap length (sent-append kept v w) ∙ length-append (sent kept v) (sent kept w)

  -- one more high byte costs no more than it did when it was read
  one_more : (h b : ℕ) → h < 64 → 64 ≤ b → b ≤ 127 → cost (highs_of (h * 64 + b % 64)) ≤ cost (highs_of h) + cost (b ∷ [])
  one_more h b l lo hi =
      ways h
      (λ e. ways (h * 64 + b % 64)
      (λ f. rw (highs_none (h * 64 + b % 64) f, free) (omega arith))
      (λ n g. rw (highs_one (h * 64 + b % 64) b n g (omega arith)) (omega arith))
      (λ g. absurd (omega arith)))
      (λ n g.
      let one = highs_one h (64 + h) n g refl in
      let two = highs_two (h * 64 + b % 64) (64 + h) b (omega arith) (omega arith) (omega arith) in
      rw (one, two) (omega (arith, both_cost ((64 + h) ∷ []) (b ∷ []))))
      (λ g. absurd (omega arith))

  -- the low byte is none that costs two
  spelled_cost : (m : ℕ) (t : Bool) → cost (spell_of m t) ≡ cost (highs_of (m / 16)) + 1
  unfolding spell_of
  spelled_cost m t =
      let r = low_range m t in
      both_cost (highs_of (m / 16)) (low_of m t ∷ []) ∙ ap (λ (k : ℕ). cost (highs_of (m / 16)) + k) (one-cheap kept (low_of m t) (λ q. omega (arith, r.1, q)))

  -- the first of two high bytes is at most 96, so no integer takes more than four
  highs_few : (h : ℕ) → h ≤ 2048 → cost (highs_of h) ≤ 3
  highs_few h l =
      ways h
      (λ e. rw (highs_none h e, free) (omega arith))
      (λ n g. rw (highs_one h (64 + h) n g refl) (omega (arith, one-most kept (64 + h))))
      (λ g. rw (highs_two h (64 + h / 64) (64 + h % 64) g refl refl)
      (omega (arith, both_cost ((64 + h / 64) ∷ []) ((64 + h % 64) ∷ []), one-most kept (64 + h % 64), one-cheap kept (64 + h / 64) (λ q. omega arith))))

  pub integer-few : (v : ℤ) → is_integer v ≡ true → cost (spell v) ≤ 4
  integer-few v ok =
      let q = leb-true (nat_abs v) (most_magnitude (is_negative v)) ok in
      omega (arith, spelled_cost (nat_abs v) (is_negative v), highs_few (nat_abs v / 16) (omega (arith, q, limit_least (is_negative v))))

magnitude_back : (m : ℕ) (t : Bool) → nat_abs (signed_of m t) ≡ m
magnitude_back zero true = refl
magnitude_back (suc m) true = refl
magnitude_back m false = refl

-- the sign costs nothing of its own
spelled_long : (kept : Remembered) (m : ℕ) (t : Bool) → cost kept (spell (signed_of m t)) ≡ cost kept (spell_of m t)
spelled_long kept m t =
    ap (λ (k : ℕ). cost kept (spell_of k (is_negative (signed_of m t)))) (magnitude_back m t) ∙ spelled_cost kept m (is_negative (signed_of m t)) ∙ sym (spelled_cost kept m t)

-- a magnitude in its range, with its sign, is an integer; minus nought is 0
integer-made : (m : ℕ) (t : Bool) → m ≤ most_magnitude t → is_integer (signed_of m t) ≡ true
integer-made zero true h = refl
integer-made (suc m) true h = le-leb (suc m) 32768 h
integer-made m false h = le-leb m 32767 h

-- what was read is an integer, reading went forward and stayed within, and its own spelling is no longer than what was read
pub record Shown (kept : Remembered) (s : List ℕ) (at : ℕ) (r : Taken ℤ) : Type 0 where
  pub writable : is_integer r.value ≡ true
  pub shortest : at + length (sent kept (spell r.value)) ≤ r.next
  pub forward : at < r.next
  pub within : r.next ≤ length s

module _ (kept : Remembered) (s : List ℕ) (at : ℕ) where
  abbrev Good : Answer (Taken ℤ) → Type 0
  Good = Done (Shown kept s at)

  in-range : (m : ℕ) (t : Bool) (p n : ℕ) → at + cost kept (spell_of m t) ≤ n → at < n → n ≤ length s → Good (in_range m t p n)
  in-range m t p n h f w =
      by_pick Good (leb m (most_magnitude t)) _ _
      (λ e. is-done (Shown kept s at) (record {
        writable = integer-made m t (leb-true m (most_magnitude t) e);
        shortest = rw (spelled_long kept m t) h;
        forward = f;
        within = w;
      }))
      (λ e. not_done (Shown kept s at) 4 p)

  -- behind high bytes of value h, which cost no more than was read of them up to from: the low byte
  low : (h from : ℕ) (b : Taken ℕ) → at + cost kept (highs_of h) ≤ from → byte_at kept s from ≡ done b → Good (in_range (h * 16 + b.value % 16) (ltb b.value 48) b.place b.next)
  low h from b f e =
      let t = took kept s from e in
      let m = h * 16 + b.value % 16 in
      let z : m / 16 ≡ h = omega arith in
      let c : cost kept (spell_of m (ltb b.value 48)) ≡ cost kept (highs_of h) + 1 = spelled_cost kept m (ltb b.value 48) ∙ ap (λ (k : ℕ). cost kept (highs_of k) + 1) z in
      in-range m (ltb b.value 48) b.place b.next (omega (arith, c, t.forward)) (omega (arith, t.forward)) t.within

  third : (h from : ℕ) → at + cost kept (highs_of h) ≤ from → Good (integer_from kept 0 h s from)
  unfolding integer_from
  third h from f =
      by_then Good (byte_at kept s from) _
      (λ b e. by_pick Good (ltb b.value 64) _ _ (λ l. low h from b f e) (λ l. not_done (Shown kept s at) 4 b.place))
      (λ x p e. not_done (Shown kept s at) x p)

  -- a high byte, or the low one
  before : (k h from : ℕ) → h < 64 → at + cost kept (highs_of h) ≤ from → ((g next : ℕ) → g < h * 64 + 64 → at + cost kept (highs_of g) ≤ next → Good (integer_from kept k g s next)) → Good (integer_from kept (suc k) h s from)
  unfolding integer_from
  before k h from l f rest =
      by_then Good (byte_at kept s from) _
      (λ b e. by_pick Good (ltb b.value 64) _ _
      (λ i. low h from b f e)
      (λ i.
      let t = took kept s from e in
      let c = one_more kept h b.value l (ltb-false b.value 64 i) t.most in
      rest (h * 64 + b.value % 64) b.next (omega arith) (omega (arith, c, took_least kept s from e))))
      (λ x p e. not_done (Shown kept s at) x p)

  first : Good (integer_at kept s at)
  first =
      let none : at + cost kept (highs_of 0) ≤ at = rw (highs_none 0 refl, free kept) (omega arith) in
      before 1 0 at (omega arith) none
      (λ h from l f. before 0 h from (omega arith) f (λ g next i. third g next))

pub integer-shown : (kept : Remembered) (s : List ℕ) (at : ℕ) {r : Taken ℤ} → integer_at kept s at ≡ done r → Shown kept s at r
integer-shown kept s at e = done-of (Shown kept s at) (first kept s at) e

-- whatever reads as a value took at least as many bytes as the writer gives
pub integer-shortest : (kept : Remembered) (s : List ℕ) (at : ℕ) {r : Taken ℤ} → integer_at kept s at ≡ done r → at + length (sent kept (spell r.value)) ≤ r.next
integer-shortest kept s at e = (integer-shown kept s at e).shortest

-- ---- counts

pub record Counted (kept : Remembered) (s : List ℕ) (at : ℕ) (r : Taken ℕ) : Type 0 where
  pub writable : r.value ≤ 256
  pub shortest : at + length (sent kept (spell (pos r.value))) ≤ r.next
  pub forward : at < r.next
  pub within : r.next ≤ length s

-- a count is spelled as the integer that it is
as_spelled : (kept : Remembered) (v : ℤ) (at n : ℕ) → is_negative v ≡ false → at + length (sent kept (spell v)) ≤ n → at + length (sent kept (spell (pos (nat_abs v)))) ≤ n
as_spelled kept (pos c) at n e h = h
as_spelled kept (negsuc c) at n e h = let k : ◌≡◌ {A = ℕ} 0 1 = cc in absurd (zero_one k)

pub count-shown : (kept : Remembered) (s : List ℕ) (at : ℕ) {r : Taken ℕ} → count_at kept s at ≡ done r → Counted kept s at r
unfolding count_in
count-shown kept s at e = done-of (Counted kept s at) shown e
  where
    shown : Done (Counted kept s at) (count_in 256 (integer_at kept s at))
    shown =
        by_then (Done (Counted kept s at)) (integer_at kept s at) (as_count 256)
        (λ i g. let f = integer-shown kept s at g in
        by_pick (Done (Counted kept s at)) (is_negative i.value) _ _
        (λ t. not_done (Counted kept s at) 5 i.place)
        (λ t. by_pick (Done (Counted kept s at)) (leb (nat_abs i.value) 256) _ _
        (λ u. is-done (Counted kept s at) (record {
          writable = leb-true (nat_abs i.value) 256 u;
          shortest = as_spelled kept i.value at i.next t f.shortest;
          forward = f.forward;
          within = f.within;
        }))
        (λ u. not_done (Counted kept s at) 5 i.place)))
        (λ x p g. not_done (Counted kept s at) x p)
