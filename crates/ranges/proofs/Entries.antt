-- Whether a number is within a range, as the code tests it, and what it is then.
use Prim.Native.Nat.{ℕ, ◌+◌, ◌≤◌, ◌<◌}
use mathlib.Core.Path.{◌≡◌, refl, sym, ◌∙◌}
use mathlib.Core.Bool.{Bool, true, false, ◌&&◌}
use borrow.Author.Tests.{le-leb, lt-leb, leb-true}
use mathlib.Core.List.{List}
use lib.Dec.{leb}
use lib.ListN.{length, get_or}
use lib.IntN.{ℤ, pos, negsuc, nat_abs}
use mir.Syntax.{w32}
use mir.Val.{SFits, to_z, of_z}
use mir.Facts.{to_z-of_z}
use Rattle.refusals.proofs.Cases.{zero_one, and_left, and_right}
use Rattle.refusals.proofs.Many.{Checking, checking_next}
use Rattle.signs.specs.Signs.{is_negative}
use Rattle.ranges.specs.Ranges.{within}

module _ (least most : ℕ) where
  by_size : (v : ℤ) → is_negative v ≡ false → within least most v ≡ leb least (nat_abs v) && leb (nat_abs v) most
  by_size (pos n) e = refl
  by_size (negsuc n) e = let k : ◌≡◌ {A = ℕ} 0 1 = cc in absurd (zero_one k)

  no_minus : (v : ℤ) → is_negative v ≡ true → false ≡ within least most v
  no_minus (pos n) e = let k : ◌≡◌ {A = ℕ} 0 1 = cc in absurd (zero_one k)
  no_minus (negsuc n) e = refl

  -- a signed argument comes back from a callee's contract as the machine reads it
  module _ (v : ℤ) (f : SFits w32 v) {b : Bool} (eb : b ≡ is_negative (to_z w32 (of_z w32 v))) where
    sign : {t : Bool} → b ≡ t → is_negative v ≡ t
    sign q = sym (rw (to_z-of_z f) at eb) ∙ q

    pub minus : b ≡ true → false ≡ within least most v
    minus t = no_minus v (sign t)

    module _ {m : ℕ} (t : b ≡ false) (em : m ≡ nat_abs (to_z w32 (of_z w32 v))) where
      size : m ≡ nat_abs v
      size = rw (to_z-of_z f) at em

      pub too_low : m < least → false ≡ within least most v
      too_low h = rw (by_size v (sign t), ← size, lt-leb least m h)

      pub not_low : least ≤ m → leb m most ≡ within least most v
      not_low h = rw (by_size v (sign t), ← size, le-leb least m h)

  -- what a number within the range is
  pub within-range : (v : ℤ) → within least most v ≡ true → (least ≤ nat_abs v) × ((nat_abs v ≤ most) × (pos (nat_abs v) ≡ v))
  within-range (pos n) e =
      (leb-true least n (and_left (leb least n) (leb n most) e), (leb-true n most (and_right (leb least n) (leb n most) e), refl))
  within-range (negsuc n) e = let k : ◌≡◌ {A = ℕ} 0 1 = cc in absurd (zero_one k)

pub ruleset ranges = (minus, too_low, not_low)

-- a signed argument, handed on to a test of one
pub handed_on : (least most : ℕ) (v : ℤ) {b : Bool} → SFits w32 v → b ≡ within least most (to_z w32 (of_z w32 v)) → b ≡ within least most v
handed_on least most v f e = rw (to_z-of_z f) at e

-- the same for an entry of a list
module _ (least most : ℕ) (list : List ℤ) (i : ℕ) where
  pub entry_next : {good b : Bool} → Checking (within least most) list i good → i < length list → SFits w32 (get_or list i (pos 0)) → b ≡ within least most (to_z w32 (of_z w32 (get_or list i (pos 0)))) → Checking (within least most) list (i + 1) (good && b)
  entry_next f h fits e = checking_next (within least most) list (pos 0) i f h (handed_on least most (get_or list i (pos 0)) fits e)
