-- What may be written. "It gives 8 for letters or a kind of parameters not in the table, a value or remembered point outside its range, or
-- more than 256 entries, then 7."
use Rattle.std.specs.Prelude.{ℕ, Bool, true, false, ◌&&◌, List, length, leb, eqb, ℤ}
use Rattle.memory.specs.declared.Remembered.{Remembered}
use Rattle.memory.specs.Memory.{inside}
use Rattle.refusals.specs.Answers.{every}
use Rattle.signs.specs.Signs.{is_integer}
use Rattle.ranges.specs.Ranges.{most_entries}
use Rattle.characters.specs.Characters.{is_character}
use Rattle.table.specs.Table.{ParameterKind, Tabled, in_table, not_in_table, kind_of}
use Rattle.table.specs.Table as K
use Rattle.parameters.specs.declared.Entry.{Entry}
use Rattle.parameters.specs.declared.Entry.TheVariants.{AnInteger, ACharacter}
use Rattle.parameters.specs.declared.Parameters.{Parameters}
use Rattle.parameters.specs.declared.Parameters.TheVariants.{OneInteger, TwoIntegers, ThreeIntegers, OnePoint, TwoPoints, AReal, TwoCharacters, AString, AnArray, IntegerThenString, IntegerThenArray}
use Rattle.parameters.specs.Shapes.{Tailed, no_list, list_of, Value, number, scaled, place, values_of, tail_of}
use Rattle.commands.specs.declared.Command.{Command}

abbrev pub kind_for : Parameters → ParameterKind
kind_for (OneInteger a) = K.one_integer
kind_for (TwoIntegers a b) = K.two_integers
kind_for (ThreeIntegers a b c) = K.three_integers
kind_for (OnePoint p) = K.one_point
kind_for (TwoPoints p q) = K.two_points
kind_for (AReal r) = K.a_real
kind_for AString = K.a_string
kind_for AnArray = K.an_array
kind_for (IntegerThenArray a) = K.integer_then_array
kind_for (IntegerThenString a) = K.integer_then_string
kind_for (TwoCharacters a b) = K.two_characters

-- kinds are told apart by a number
abbrev pub kind_number : ParameterKind → ℕ
kind_number K.one_integer = 1
kind_number K.two_integers = 2
kind_number K.three_integers = 3
kind_number K.one_point = 4
kind_number K.two_points = 5
kind_number K.a_real = 6
kind_number K.a_string = 7
kind_number K.an_array = 8
kind_number K.integer_then_array = 9
kind_number K.integer_then_string = 10
kind_number K.two_characters = 11

abbrev pub same_kind : Tabled → ParameterKind → Bool
same_kind (in_table k) j = eqb (kind_number k) (kind_number j)
same_kind not_in_table j = false

-- "letters or a kind of parameters not in the table"
unfoldable pub is_kind : ℕ → ℕ → Parameters → Bool
is_kind a b ps = same_kind (kind_of a b) (kind_for ps)

abbrev pub is_entry : Entry → ℤ → Bool
is_entry AnInteger v = is_integer v
is_entry ACharacter v = is_character v

abbrev pub are_entries : Entry → List ℤ → Bool
are_entries e vs = every (is_entry e) vs

abbrev pub is_value : Value → Bool
is_value (number e v) = is_entry e v
is_value (scaled m x) = is_integer m && is_integer x
is_value (place p) = inside p

abbrev pub are_values : List Value → Bool
are_values vs = every is_value vs

-- "more than 256 entries"
unfoldable pub is_tail : Tailed → List ℤ → Bool
is_tail no_list es = true
is_tail (list_of e) es = leb (length es) most_entries && are_entries e es

-- the remembered point, the values and the list
unfoldable pub fits : Remembered → Parameters → List ℤ → Bool
fits kept ps es = inside kept.point && (are_values (values_of ps) && is_tail (tail_of ps) es)

unfoldable pub is_command : Remembered → Command → List ℤ → Bool
is_command kept c es = is_kind c.first c.second c.parameters && fits kept c.parameters es
