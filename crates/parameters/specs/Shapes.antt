-- The kinds of parameters: fixed parts, and perhaps a string or an array behind them.
use Rattle.std.specs.Prelude.{List, [], ◌∷◌, ℤ, Option, Some, None}
use Rattle.memory.specs.declared.Point.{Point}
use Rattle.table.specs.Table.{ParameterKind}
use Rattle.table.specs.Table as K
use Rattle.parameters.specs.declared.Entry.{Entry}
use Rattle.parameters.specs.declared.Entry.TheVariants.{AnInteger, ACharacter}
use Rattle.parameters.specs.declared.Parameters.{Parameters}
use Rattle.parameters.specs.declared.Parameters.TheVariants.{OneInteger, TwoIntegers, ThreeIntegers, OnePoint, TwoPoints, AReal, AString, AnArray, IntegerThenArray, IntegerThenString, TwoCharacters}

pub data Part : Type 0 where
  single : Entry → Part
  real : Part
  point : Part

-- no string or array behind the fixed parts, or one of such entries
pub data Tailed : Type 0 where
  no_list : Tailed
  list_of : Entry → Tailed

pub record Shape : Type 0 where
  pub fixed : List Part
  pub tail : Tailed

abbrev fixed_only : List Part → Shape
fixed_only ps = record { fixed = ps; tail = no_list }

abbrev pub list_shape : Entry → Shape
list_shape e = record { fixed = []; tail = list_of e }

abbrev pub integer_then_list_shape : Entry → Shape
integer_then_list_shape e = record { fixed = single AnInteger ∷ []; tail = list_of e }

abbrev pub shape_of : ParameterKind → Shape
shape_of K.one_integer = fixed_only (single AnInteger ∷ [])
shape_of K.two_integers = fixed_only (single AnInteger ∷ single AnInteger ∷ [])
shape_of K.three_integers = fixed_only (single AnInteger ∷ single AnInteger ∷ single AnInteger ∷ [])
shape_of K.one_point = fixed_only (point ∷ [])
shape_of K.two_points = fixed_only (point ∷ point ∷ [])
shape_of K.a_real = fixed_only (real ∷ [])
shape_of K.a_string = list_shape ACharacter
shape_of K.an_array = list_shape AnInteger
shape_of K.integer_then_array = integer_then_list_shape AnInteger
shape_of K.integer_then_string = integer_then_list_shape ACharacter
shape_of K.two_characters = fixed_only (single ACharacter ∷ single ACharacter ∷ [])

-- the values of the fixed parts
pub data Value : Type 0 where
  number : Entry → ℤ → Value
  scaled : (mantissa exponent : ℤ) → Value
  place : Point → Value

-- what each case of the parameters holds
abbrev pub values_of : Parameters → List Value
values_of (OneInteger a) = number AnInteger a ∷ []
values_of (TwoIntegers a b) = number AnInteger a ∷ number AnInteger b ∷ []
values_of (ThreeIntegers a b c) = number AnInteger a ∷ number AnInteger b ∷ number AnInteger c ∷ []
values_of (OnePoint p) = place p ∷ []
values_of (TwoPoints p q) = place p ∷ place q ∷ []
values_of (AReal r) = scaled r.mantissa r.exponent ∷ []
values_of AString = []
values_of AnArray = []
values_of (IntegerThenArray a) = number AnInteger a ∷ []
values_of (IntegerThenString a) = number AnInteger a ∷ []
values_of (TwoCharacters a b) = number ACharacter a ∷ number ACharacter b ∷ []

-- and whether entries of a lent list go with it
abbrev pub tail_of : Parameters → Tailed
tail_of (OneInteger a) = no_list
tail_of (TwoIntegers a b) = no_list
tail_of (ThreeIntegers a b c) = no_list
tail_of (OnePoint p) = no_list
tail_of (TwoPoints p q) = no_list
tail_of (AReal r) = no_list
tail_of AString = list_of ACharacter
tail_of AnArray = list_of AnInteger
tail_of (IntegerThenArray a) = list_of AnInteger
tail_of (IntegerThenString a) = list_of ACharacter
tail_of (TwoCharacters a b) = no_list

-- "those of the last point": the last among the values, or the one before them
pub data Pointed : Type 0 where
  no_point : Pointed
  last : Point → Pointed

abbrev pub last_from : Pointed → List Value → Pointed
last_from before [] = before
last_from before (number e v ∷ vs) = last_from before vs
last_from before (scaled m x ∷ vs) = last_from before vs
last_from before (place p ∷ vs) = last_from (last p) vs

abbrev pub last_point : List Value → Pointed
last_point vs = last_from no_point vs

-- ---- what the answers say

abbrev pub tail_meant : Option Entry → Tailed
tail_meant None = no_list
tail_meant (Some e) = list_of e

abbrev pub point_meant : Option Point → Pointed
point_meant None = no_point
point_meant (Some p) = last p
