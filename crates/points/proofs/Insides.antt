-- A point that the test lets through is inside.
use mathlib.Core.Path.{◌≡◌, sym, ◌∙◌}
use mathlib.Core.Bool.{Bool, true, false, not, ◌&&◌}
use borrow.Author.Tests.{leb-true, not-true, not-false}
use lib.Dec.{leb}
use Rattle.memory.specs.declared.Point.{Point}
use Rattle.memory.specs.Memory.{inside}
use Rattle.refusals.proofs.Cases.{and_left, and_right}
use Rattle.points.specs.Layout.{Inside}

pub insides : (p : Point) → inside p ≡ true → Inside p
insides p e = record {
  x-inside = leb-true p.x 4095 (and_left (leb p.x 4095) (leb p.y 4095) e);
  y-inside = leb-true p.y 4095 (and_right (leb p.x 4095) (leb p.y 4095) e);
}

pub tested : (p : Point) {t : Bool} → t ≡ inside p → not t ≡ false → Inside p
tested p {t} e h = insides p (sym e ∙ not-false t h)

-- two points, the last one and the one to be written

module _ (p q : Point) {t : Bool} (e : t ≡ inside p && inside q) where
  pub both_outside : not t ≡ true → inside p && inside q ≡ false
  both_outside j = sym e ∙ not-true t j

  pub both_inside : not t ≡ false → inside p && inside q ≡ true
  both_inside j = sym e ∙ not-false t j

  pub first_inside : not t ≡ false → Inside p
  first_inside j = insides p (and_left (inside p) (inside q) (both_inside j))

  pub second_inside : not t ≡ false → Inside q
  second_inside j = insides q (and_right (inside p) (inside q) (both_inside j))
