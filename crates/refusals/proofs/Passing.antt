-- Bytes that are passed over, as a turn of a loop passes one: what is left ends where the whole ends.
use Prim.Native.Nat.{ℕ, zero, suc, ◌+◌, ◌≤◌, ◌<◌}
use mathlib.Core.Path.{◌≡◌, refl, sym, ◌∙◌}
use mathlib.Core.Bool.{Bool, true, false}
use mathlib.Core.List.{List, [], ◌∷◌}
use native.Mathlib.Omega.{arith}
use native.Mathlib.Numerals.{add-one}
use borrow.Author.Tests.{ltb-true, ltb-false}
use lib.Dec.{ltb}
use lib.ListN.{length, get_or, drop, drop_of_length-le, length-drop}
use lib.Seq.{drop-cons}
use Rattle.refusals.specs.Answers.{in_front, past_front}
use Rattle.refusals.proofs.Cases.{by_pick}

pub record Passing (ok : ℕ → Bool) (s : List ℕ) (at i : ℕ) : Type 0 where
  pub same : past_front ok s i ≡ past_front ok s at

front-most : (ok : ℕ → Bool) (l : List ℕ) → in_front ok l ≤ length l
unfolding in_front
front-most ok [] = omega arith
front-most ok (b ∷ bs) =
    let h = front-most ok bs in
    by_pick (λ (n : ℕ). n ≤ suc (length bs)) (ok b) (suc (in_front ok bs)) 0 (λ t. omega arith) (λ t. omega arith)

module _ (ok : ℕ → Bool) (s : List ℕ) where
  -- a byte that passes, one that does not, and the end
  pub past_one : (i : ℕ) → i < length s → ok (get_or s i 0) ≡ true → past_front ok s i ≡ past_front ok s (i + 1)
  unfolding past_front in_front
  past_one i h e =
      let d : drop i s ≡ get_or s i 0 ∷ drop (i + 1) s = drop-cons s i 0 h ∙ rw (add-one i) in
      let z : i + suc (in_front ok (drop (i + 1) s)) ≡ i + 1 + in_front ok (drop (i + 1) s) = omega arith in
      rw (d, e) z

  pub past_here : (i : ℕ) → i < length s → ok (get_or s i 0) ≡ false → past_front ok s i ≡ i
  unfolding past_front in_front
  past_here i h e = let z : i + 0 ≡ i = omega arith in rw (drop-cons s i 0 h, e) z

  pub past_none : (i : ℕ) → length s ≤ i → past_front ok s i ≡ i
  unfolding past_front in_front
  past_none i h = let z : i + 0 ≡ i = omega arith in rw (drop_of_length-le s h) z

  -- passing over goes forward, and no farther than the end
  pub past_on : (at : ℕ) → at ≤ past_front ok s at
  unfolding past_front
  past_on at = omega arith

  pub past_within : (at : ℕ) → at ≤ length s → past_front ok s at ≤ length s
  unfolding past_front
  past_within at h = let q = front-most ok (drop at s) in omega (arith, q, length-drop at s)

  -- ---- one byte a turn

  pub passing_none : (at : ℕ) → Passing ok s at at
  passing_none at = record { same = refl }

  pub passing_more : (at i : ℕ) → Passing ok s at i → i < length s → ok (get_or s i 0) ≡ true → Passing ok s at (i + 1)
  passing_more at i f h e = record { same = sym (past_one i h e) ∙ f.same }

  pub passing_stop : (at i : ℕ) → Passing ok s at i → i < length s → ok (get_or s i 0) ≡ false → i ≡ past_front ok s at
  passing_stop at i f h e = sym (past_here i h e) ∙ f.same

  pub passing_end : (at i : ℕ) → Passing ok s at i → length s ≤ i → i ≡ past_front ok s at
  passing_end at i f h = sym (past_none i h) ∙ f.same

-- where bytes do not end, the byte behind those that were passed over does not pass
module _ (ok : ℕ → Bool) (s : List ℕ) where
  abbrev Stops : ℕ → Type 0
  Stops i = past_front ok s i < length s → ok (get_or s (past_front ok s i) 0) ≡ false

  stops-by : (i : ℕ) → i < length s → Stops (i + 1) → (b : Bool) → ok (get_or s i 0) ≡ b → Stops i
  stops-by i l next true e = rw (past_one ok s i l e) next
  stops-by i l next false e = rw (past_here ok s i l e) (λ h. e)

  stops : (k i : ℕ) → length s ≤ i + k → Stops i
  stops zero i l = λ h. absurd (omega (arith, l, h, past_on ok s i))
  stops (suc k) i l =
      by_pick (λ (b : Bool). Stops i) (ltb i (length s)) true false
      (λ t. stops-by i (ltb-true i (length s) t) (stops k (i + 1) (omega arith)) (ok (get_or s i 0)) refl)
      (λ t h. absurd (omega (arith, h, past_on ok s i, ltb-false i (length s) t)))

  pub past_stops : (at : ℕ) → Stops at
  past_stops at = stops (length s) at (omega arith)
