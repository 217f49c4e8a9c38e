-- The laws of a store, over any layout that is lawful: what a well-formed one is, and what looking up gives of two.
use Prim.Native.Nat.{ℕ, ◌≤◌}
use mathlib.Core.Path.{◌≡◌, refl, sym, ◌∙◌, ap}
use mathlib.Core.Bool.{true}
use mathlib.Core.List.{List, [], ◌∷◌}
use native.Mathlib.Omega.{arith}
use borrow.Author.Tests.{le-leb}
use lib.Dec.{leb, eqb}
use lib.ListN.{length}
use lib.IntN.{ℤ, nat_abs}
use Rattle.refusals.specs.Answers.{pick, demand}
use Rattle.macros.specs.Store.{Entry, Layout, size_of, stored, entries, well_formed, Rising, body_of, is_macro_number, or_else, body_in_either, look_refusal, find_refusal, looked_up}
use Rattle.macros.specs.Fronts.{Bytes}
use Rattle.macros.proofs.Layouts.{Lawful}
use Rattle.macros.proofs.Listing.{entries-rising, size-inside, entries-stored, stored-formed, formed-stored}

-- ---- "A store is entries in rising macro number, each number once. [..] The rest of the store is all zeros."

-- the store is these entries and then zeros
pub record Holds (L : Layout) (s : List ℕ) (es : List Entry) : Type 0 where
  pub rising : Rising L 0 es
  pub fit : size_of L es ≤ length s
  pub is : s ≡ stored L (length s) es

module _ (L : Layout) (lawful : Lawful L) (s : List ℕ) where
  -- the test passes exactly such stores
  pub formed-holds : Bytes s → well_formed L s ≡ true → Holds L s (entries L s)
  formed-holds h e = record { rising = entries-rising L lawful s h; fit = size-inside L lawful s h; is = formed-stored L lawful s h e }

  pub holds_formed : (es : List Entry) → Holds L s es → well_formed L s ≡ true
  holds_formed es h = ap (well_formed L) h.is ∙ stored-formed L lawful (length s) es h.rising h.fit

  -- and of one list of entries and no other
  pub holds_entries : (es : List Entry) → Holds L s es → entries L s ≡ es
  holds_entries es h = ap (entries L) h.is ∙ entries-stored L lawful (length s) es h.rising h.fit

  pub holds_one : (es fs : List Entry) → Holds L s es → Holds L s fs → es ≡ fs
  holds_one es fs h g = sym (holds_entries es h) ∙ holds_entries fs g

-- ---- as looking up sees them

module _ (L : Layout) (v w s t : List ℕ) (m : ℤ) where
  -- stores that are well formed alike and give the macro the same body
  pub looked_alike : well_formed L v ≡ well_formed L w → well_formed L s ≡ well_formed L t → body_of (nat_abs m) (entries L v) ≡ body_of (nat_abs m) (entries L w) → body_of (nat_abs m) (entries L s) ≡ body_of (nat_abs m) (entries L t)
      → looked_up L v s m ≡ looked_up L w t m
  unfolding looked_up find_refusal look_refusal body_in_either
  looked_alike a b c d = rw (a, b, c, d)

-- two well-formed stores and a number in its range: the body in the first, or else in the second
pub looked_so : (L : Layout) (v s : List ℕ) (n : ℤ) → well_formed L v ≡ true → well_formed L s ≡ true → is_macro_number n ≡ true → looked_up L v s n ≡ or_else (body_of (nat_abs n) (entries L v)) (body_of (nat_abs n) (entries L s))
unfolding looked_up find_refusal look_refusal body_in_either
looked_so L v s n a b c = rw (a, b, c) (go (or_else (body_of (nat_abs n) (entries L v)) (body_of (nat_abs n) (entries L s))))
  where
    go : (l : List ℕ) → pick (eqb (demand (leb 1 (length l)) 14 0) 0) l [] ≡ l
    go [] = refl
    go (x ∷ xs) = rw (le-leb 1 (length (x ∷ xs)) (omega arith))
