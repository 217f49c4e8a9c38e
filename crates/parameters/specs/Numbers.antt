-- The fixed parameters as numbers: a point is x and y, a real its mantissa and its exponent.
use Rattle.std.specs.Prelude.{◌≤◌, ◌≡◌, List, [], ◌∷◌, ◌++◌, length, take, ℤ, pos}
use Rattle.memory.specs.declared.Point.{Point}
use Rattle.parameters.specs.declared.Numbers.{Numbers}
use Rattle.parameters.specs.Shapes.{Value, number, scaled, place}

-- "x and y"
abbrev pub point_numbers : Point → List ℤ
point_numbers p = pos p.x ∷ pos p.y ∷ []

abbrev pub numbers_of : List Value → List ℤ
numbers_of [] = []
numbers_of (number e v ∷ vs) = v ∷ numbers_of vs
numbers_of (scaled m x ∷ vs) = m ∷ x ∷ numbers_of vs
numbers_of (place p ∷ vs) = point_numbers p ++ numbers_of vs

-- four of them, and 0 in what is left
abbrev pub no_values : List ℤ
no_values = pos 0 ∷ pos 0 ∷ pos 0 ∷ pos 0 ∷ []

unfoldable pub four_of : List Value → List ℤ
four_of vs = take 4 (numbers_of vs ++ no_values)

-- r holds just the numbers of vs, and 0 in what is left
pub record Holds (vs : List Value) (r : Numbers) : Type 0 where
  pub same : take r.len r.values ≡ numbers_of vs
  pub within : r.len ≤ length r.values
  pub four : r.values ≡ four_of vs
