-- Document 01, "The commands": the letters of each and its kind of parameters. NL stands where document 01 prints NX, since "if an op
-- letter below differs from the summary table of document 000, the table wins".
use Rattle.std.specs.Prelude.{ℕ, Bool, false, ◌&&◌, ◌||◌, List, [], ◌∷◌, eqb, Option, Some, None}
use Rattle.refusals.specs.Answers.{pick}
use Rattle.table.specs.declared.Kind.{Kind}
use Rattle.table.specs.declared.Kind.TheVariants.{OneInteger, TwoIntegers, ThreeIntegers, OnePoint, TwoPoints, AReal, AString, AnArray, IntegerThenArray, IntegerThenString, TwoCharacters}

-- the kinds of parameters that it names
pub data ParameterKind : Type 0 where
  one_integer : ParameterKind
  two_integers : ParameterKind
  three_integers : ParameterKind
  one_point : ParameterKind
  two_points : ParameterKind
  a_real : ParameterKind
  a_string : ParameterKind
  an_array : ParameterKind
  integer_then_array : ParameterKind
  integer_then_string : ParameterKind
  two_characters : ParameterKind

-- "letters or a kind of parameters not in the table"
pub data Tabled : Type 0 where
  in_table : ParameterKind → Tabled
  not_in_table : Tabled

pub record TableRow : Type 0 where
  pub first : ℕ
  pub second : ℕ
  pub kind : ParameterKind

abbrev pub command : ℕ → ℕ → ParameterKind → TableRow
command a b k = record { first = a; second = b; kind = k }

abbrev pub table : List TableRow
table =
    -- "one integer": KA KH KI KX LL LV NL
    command 75 65 one_integer
    ∷ command 75 72 one_integer
    ∷ command 75 73 one_integer
    ∷ command 75 88 one_integer
    ∷ command 76 76 one_integer
    ∷ command 76 86 one_integer
    ∷ command 78 76 one_integer
    -- "two integers / three": NR / RU
    ∷ command 78 82 two_integers
    ∷ command 82 85 three_integers
    -- "one point / two points": LF LG RH / RS
    ∷ command 76 70 one_point
    ∷ command 76 71 one_point
    ∷ command 82 72 one_point
    ∷ command 82 83 two_points
    -- "real": MR
    ∷ command 77 82 a_real
    -- "string": LT
    ∷ command 76 84 a_string
    -- "integer array": RD RL
    ∷ command 82 68 an_array
    ∷ command 82 76 an_array
    -- "integer, then integer array": KD KO
    ∷ command 75 68 integer_then_array
    ∷ command 75 79 integer_then_array
    -- "integer, then string": RP
    ∷ command 82 80 integer_then_string
    -- "two characters, each 32 to 127": IQ
    ∷ command 73 81 two_characters
    ∷ []

-- the kind of the first row with these letters
abbrev pub kind_in : List TableRow → ℕ → ℕ → Tabled
kind_in [] a b = not_in_table
kind_in (e ∷ es) a b = pick (eqb a e.first && eqb b e.second) (in_table e.kind) (kind_in es a b)

unfoldable pub kind_of : ℕ → ℕ → Tabled
kind_of a b = kind_in table a b

-- "A first letter that begins no command"
abbrev pub begins_in : List TableRow → ℕ → Bool
begins_in [] a = false
begins_in (e ∷ es) a = eqb a e.first || begins_in es a

unfoldable pub begins : ℕ → Bool
begins a = begins_in table a

-- ---- what the answers say

abbrev pub kind_meant : Kind → ParameterKind
kind_meant OneInteger = one_integer
kind_meant TwoIntegers = two_integers
kind_meant ThreeIntegers = three_integers
kind_meant OnePoint = one_point
kind_meant TwoPoints = two_points
kind_meant AReal = a_real
kind_meant AString = a_string
kind_meant AnArray = an_array
kind_meant IntegerThenArray = integer_then_array
kind_meant IntegerThenString = integer_then_string
kind_meant TwoCharacters = two_characters

unfoldable pub found_of : Option Kind → Tabled
found_of (Some k) = in_table (kind_meant k)
found_of None = not_in_table
