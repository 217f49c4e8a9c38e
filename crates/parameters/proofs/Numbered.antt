-- The fixed parameters as numbers, and the last point, by kind.
use Prim.Native.Nat.{ℕ}
use mathlib.Core.Path.{◌≡◌, refl, sym, ◌∙◌, ap}
use mathlib.Core.List.{[], ◌∷◌}
use native.Mathlib.Omega.{arith}
use lib.IntN.{ℤ, pos}
use Rattle.memory.specs.declared.Point.{Point}
use Rattle.parameters.specs.declared.Real.{Real}
use Rattle.parameters.specs.declared.Numbers.{Numbers}
use Rattle.parameters.specs.declared.Parameters.{Parameters}
use Rattle.parameters.specs.declared.Parameters.TheVariants.{OneInteger, TwoIntegers, ThreeIntegers, OnePoint, TwoPoints, AReal, AString, AnArray, IntegerThenArray, IntegerThenString, TwoCharacters}
use Rattle.parameters.specs.Shapes.{Pointed, values_of, last_point}
use Rattle.parameters.specs.Numbers.{four_of, Holds}

pub last_of : {p q : Parameters} {a : Pointed} → p ≡ q → last_point (values_of q) ≡ a → a ≡ last_point (values_of p)
last_of e g = sym (ap (λ x. last_point (values_of x)) e ∙ g)

abbrev held : (len : ℕ) (a b c d : ℤ) → Numbers
held len a b c d = record { values = a ∷ b ∷ c ∷ d ∷ []; len = len }

abbrev none : ℤ
none = pos 0

module _ {ps : Parameters} {r : Numbers} where
  pub of_one_integer : (x : ℤ) {a : ℤ} → ps ≡ OneInteger a → r ≡ held 1 x none none none → x ≡ a → Holds (values_of ps) r
  unfolding four_of
  of_one_integer x g h e = rw (g, h, e) (record { same = refl; within = omega arith; four = refl })

  pub of_integer_then_string : (x : ℤ) {a : ℤ} → ps ≡ IntegerThenString a → r ≡ held 1 x none none none → x ≡ a → Holds (values_of ps) r
  unfolding four_of
  of_integer_then_string x g h e = rw (g, h, e) (record { same = refl; within = omega arith; four = refl })

  pub of_integer_then_array : (x : ℤ) {a : ℤ} → ps ≡ IntegerThenArray a → r ≡ held 1 x none none none → x ≡ a → Holds (values_of ps) r
  unfolding four_of
  of_integer_then_array x g h e = rw (g, h, e) (record { same = refl; within = omega arith; four = refl })

  pub of_two_integers : (x y : ℤ) {a b : ℤ} → ps ≡ TwoIntegers a b → r ≡ held 2 x y none none → x ≡ a → y ≡ b → Holds (values_of ps) r
  unfolding four_of
  of_two_integers x y g h e f = rw (g, h, e, f) (record { same = refl; within = omega arith; four = refl })

  pub of_two_characters : (x y : ℤ) {a b : ℤ} → ps ≡ TwoCharacters a b → r ≡ held 2 x y none none → x ≡ a → y ≡ b → Holds (values_of ps) r
  unfolding four_of
  of_two_characters x y g h e f = rw (g, h, e, f) (record { same = refl; within = omega arith; four = refl })

  pub of_real : (x y : ℤ) {w : Real} → ps ≡ AReal w → r ≡ held 2 x y none none → x ≡ w.mantissa → y ≡ w.exponent → Holds (values_of ps) r
  unfolding four_of
  of_real x y g h e f = rw (g, h, e, f) (record { same = refl; within = omega arith; four = refl })

  pub of_one_point : (x y : ℤ) {u v : ℤ} {p : Point} → ps ≡ OnePoint p → u ≡ pos p.x → v ≡ pos p.y → r ≡ held 2 x y none none → x ≡ u → y ≡ v → Holds (values_of ps) r
  unfolding four_of
  of_one_point x y g e f h i j = rw (g, h, i, j, e, f) (record { same = refl; within = omega arith; four = refl })

  pub of_string : ps ≡ AString → r ≡ held 0 none none none none → Holds (values_of ps) r
  unfolding four_of
  of_string g h = rw (g, h) (record { same = refl; within = omega arith; four = refl })

  pub of_array : ps ≡ AnArray → r ≡ held 0 none none none none → Holds (values_of ps) r
  unfolding four_of
  of_array g h = rw (g, h) (record { same = refl; within = omega arith; four = refl })

module _ {ps : Parameters} where
  pub of_three_integers : (x y z : ℤ) {a b c : ℤ} → ps ≡ ThreeIntegers a b c → x ≡ a → y ≡ b → z ≡ c → Holds (values_of ps) (held 3 x y z none)
  unfolding four_of
  of_three_integers x y z g e f i = rw (g, e, f, i) (record { same = refl; within = omega arith; four = refl })

  pub of_two_points : (x y z w : ℤ) {a b c d : ℤ} {p q : Point} → ps ≡ TwoPoints p q → a ≡ pos p.x → b ≡ pos p.y → c ≡ pos q.x → d ≡ pos q.y → x ≡ a → y ≡ b → z ≡ c → w ≡ d → Holds (values_of ps) (held 4 x y z w)
  unfolding four_of
  of_two_points x y z w g ea eb ec ed i j k l = rw (g, i, j, k, l, ea, eb, ec, ed) (record { same = refl; within = omega arith; four = refl })

pub ruleset numbered = (of_one_integer, of_two_integers, of_three_integers, of_one_point, of_two_points, of_real, of_string, of_array, of_integer_then_array, of_integer_then_string, of_two_characters)
