-- A body that is looked up is not longer than the store's layout allows.
use Prim.Native.Nat.{ℕ, zero, suc, ◌+◌, ◌≤◌}
use mathlib.Core.List.{List, [], ◌∷◌}
use native.Mathlib.Omega.{arith}
use lib.Dec.{eqb}
use lib.ListN.{length, drop}
use lib.IntN.{ℤ, nat_abs}
use Rattle.refusals.proofs.Cases.{by_pick}
use Rattle.macros.specs.Store.{Entry, Layout, three_bytes, is_store_entry, front_entries, entries, body_of, or_else, body_in_either, find_refusal, looked_up}
use Rattle.macros.proofs.Reading.{stands, body-long}

module _ (L : Layout) where
  pub short-of : (n k least : ℕ) (s : List ℕ) → length (body_of n (front_entries L k least s)) ≤ L.longest
  unfolding front_entries body_of
  short-of n zero least s = omega arith
  short-of n (suc k) least s =
      by_pick (λ (es : List Entry). length (body_of n es) ≤ L.longest) (is_store_entry L least s) _ _
      (λ t.
      let y = stands L least s t in
      by_pick (λ (b : List ℕ). length b ≤ L.longest) (eqb (L.number_in s) n) _ _
      (λ u. omega (arith, body-long L least s t, y.most))
      (λ u. short-of n k (L.number_in s + 1) (drop (L.size + L.length_in s) s)))
      (λ t. omega arith)

  short-either : (a b : List ℕ) → length a ≤ L.longest → length b ≤ L.longest → length (or_else a b) ≤ L.longest
  short-either [] b h g = g
  short-either (x ∷ a) b h g = h

  looked_short : (volatile saved : List ℕ) (number : ℤ) → length (looked_up L volatile saved number) ≤ L.longest
  unfolding looked_up body_in_either
  looked_short volatile saved number =
      by_pick (λ (b : List ℕ). length b ≤ L.longest) (eqb (find_refusal L volatile saved number) 0) _ _
      (λ t. short-either (body_of (nat_abs number) (entries L volatile)) (body_of (nat_abs number) (entries L saved)) (short-of (nat_abs number) (length volatile) 0 volatile) (short-of (nat_abs number) (length saved) 0 saved))
      (λ t. omega arith)

pub looked_up-short : (volatile saved : List ℕ) (number : ℤ) → length (looked_up three_bytes volatile saved number) ≤ 256
unfolding three_bytes
looked_up-short volatile saved number = looked_short three_bytes volatile saved number
