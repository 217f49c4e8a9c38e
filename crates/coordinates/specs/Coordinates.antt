-- A point that comes as two numbers of any size. "Point. x and y 0..4095": another number stands for a place outside, whichever it is.
use Rattle.std.specs.Prelude.{ℕ, leb, ℤ, pos, negsuc}
use Rattle.memory.specs.declared.Point.{Point}
use Rattle.refusals.specs.Answers.{pick}

abbrev pub outside : ℕ
outside = 4096

unfoldable pub coordinate_of : ℤ → ℕ
coordinate_of (pos n) = pick (leb n 4095) n outside
coordinate_of (negsuc n) = outside

abbrev pub point_given : (x y : ℤ) → Point
point_given x y = record { x = coordinate_of x; y = coordinate_of y }
