-- A point of two signed arguments: such an argument comes back from a callee's contract as the machine reads it.
use mathlib.Core.Path.{◌≡◌, ◌∙◌}
use lib.IntN.{ℤ}
use mir.Syntax.{w32}
use mir.Val.{SFits, to_z, of_z}
use mir.Facts.{to_z-of_z}
use Rattle.memory.specs.declared.Point.{Point}
use Rattle.coordinates.specs.Coordinates.{point_given}

pub point-given : (x y : ℤ) → SFits w32 x → SFits w32 y → {p : Point} → p ≡ point_given (to_z w32 (of_z w32 x)) (to_z w32 (of_z w32 y)) → p ≡ point_given x y
point-given x y fx fy e = e ∙ rw (to_z-of_z fx, to_z-of_z fy)
