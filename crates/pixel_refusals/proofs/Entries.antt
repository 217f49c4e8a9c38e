-- Entries of a lent list as the code reads them: by index, one after the other, and one that passes a test for all.
use Prim.Native.Nat.{ℕ, zero, suc, ◌+◌, ◌≤◌, ◌<◌}
use mathlib.Core.Path.{◌≡◌, sym, ◌∙◌}
use mathlib.Core.Bool.{Bool, true}
use mathlib.Core.List.{List, [], ◌∷◌, map}
use native.Mathlib.Nat.{le_of_suc-le-suc, not-suc-le-zero}
use native.Mathlib.Numerals.{add-one}
use lib.ListN.{length, get_or, drop, drop_of_length-le, length-map, get_or-map}
use lib.Seq.{drop-cons}
use lib.IntN.{ℤ, pos, nat_abs}
use mir.Syntax.{w32}
use mir.Val.{SFits, to_z, of_z}
use mir.Facts.{to_z-of_z}
use Rattle.refusals.specs.Answers.{every}
use Rattle.refusals.proofs.Cases.{and_left, and_right}
use Rattle.ranges.specs.Ranges.{within}
use Rattle.ranges.proofs.Entries.{within-range}

module _ (l : List ℤ) (i : ℕ) where
  pub entry_at : {m : ℕ} → SFits w32 (get_or l i (pos 0)) → m ≡ nat_abs (to_z w32 (of_z w32 (get_or l i (pos 0)))) → m ≡ get_or (map nat_abs l) i 0
  entry_at f e = (rw (to_z-of_z f) at e) ∙ sym (get_or-map nat_abs l i (pos 0))

  -- a loop over the list: the entry that is next, and none left
  pub next-entry : i < length l → {k : ℕ} → k ≡ get_or (map nat_abs l) i 0 → drop i (map nat_abs l) ≡ k ∷ drop (i + 1) (map nat_abs l)
  next-entry h e = rw (e, add-one i) (drop-cons (map nat_abs l) i 0 (rw (length-map l nat_abs) h))

  pub no_entry : length l ≤ i → drop i (map nat_abs l) ≡ []
  no_entry h =
      let n : length (map nat_abs l) ≤ i = rw (length-map l nat_abs) h in
      drop_of_length-le (map nat_abs l) n

-- what passes for each passes for the one at i
pub every-at : {A : Type 0} (ok : A → Bool) (l : List A) (d : A) (i : ℕ) → every ok l ≡ true → i < length l → ok (get_or l i d) ≡ true
unfolding every
every-at ok [] d i e h = absurd (not-suc-le-zero h)
every-at ok (x ∷ xs) d zero e h = and_left (ok x) (every ok xs) e
every-at ok (x ∷ xs) d (suc i) e h = every-at ok xs d i (and_right (ok x) (every ok xs) e) (le_of_suc-le-suc h)

-- an entry of a list that is all within a range
pub entry_within : (least most : ℕ) (l : List ℤ) (i : ℕ) → every (within least most) l ≡ true → i < length l → (least ≤ get_or (map nat_abs l) i 0) × (get_or (map nat_abs l) i 0 ≤ most)
entry_within least most l i e h =
    let r = within-range least most (get_or l i (pos 0)) (every-at (within least most) l (pos 0) i e h) in
    rw (get_or-map nat_abs l i (pos 0)) (r.0, r.1.0)
