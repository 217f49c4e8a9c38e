-- A command to be written as the header's slots give it: letters, and its fixed parameters in values[4] by the kind of the letters.
use Rattle.std.specs.Prelude.{ℕ, ◌≡◌, List, length, get_or, ℤ, pos, Result}
use Rattle.memory.specs.declared.Remembered.{Remembered}
use Rattle.refusals.specs.declared.Refusal.{Refusal}
use Rattle.refusals.specs.Answers.{Answer, done, then, answer_of, number, value_or}
use Rattle.table.specs.Table.{ParameterKind, Tabled, in_table, not_in_table, kind_of}
use Rattle.table.specs.Table as K
use Rattle.coordinates.specs.Coordinates.{point_given}
use Rattle.parameters.specs.declared.Parameters.{Parameters}
use Rattle.parameters.specs.declared.Parameters.TheVariants.{OneInteger, TwoIntegers, ThreeIntegers, OnePoint, TwoPoints, AReal, TwoCharacters, AString, AnArray, IntegerThenString, IntegerThenArray}
use Rattle.parameters.specs.Shapes.{values_of}
use Rattle.commands.specs.declared.Command.{Command}
use Rattle.commands.specs.Behind.{after_command}
use Rattle.writing.specs.Writing.{spell_command, write_command}
use Rattle.wire.specs.Sending.{after_write}
use Rattle.stream_calls.specs.declared.Sent.{Sent}
use Rattle.coordinates.specs.Remembering.{slots_of, kept_in}

abbrev at : List ℤ → ℕ → ℤ
at vs i = get_or vs i (pos 0)

unfoldable pub of_kind : ParameterKind → List ℤ → Parameters
of_kind K.one_integer vs = OneInteger (at vs 0)
of_kind K.two_integers vs = TwoIntegers (at vs 0) (at vs 1)
of_kind K.three_integers vs = ThreeIntegers (at vs 0) (at vs 1) (at vs 2)
of_kind K.one_point vs = OnePoint (point_given (at vs 0) (at vs 1))
of_kind K.two_points vs = TwoPoints (point_given (at vs 0) (at vs 1)) (point_given (at vs 2) (at vs 3))
of_kind K.a_real vs = AReal (record { mantissa = at vs 0; exponent = at vs 1 })
of_kind K.a_string vs = AString
of_kind K.an_array vs = AnArray
of_kind K.integer_then_array vs = IntegerThenArray (at vs 0)
of_kind K.integer_then_string vs = IntegerThenString (at vs 0)
of_kind K.two_characters vs = TwoCharacters (at vs 0) (at vs 1)

-- letters that are no command's are refused whatever their parameters
unfoldable pub of_tabled : Tabled → List ℤ → Parameters
of_tabled (in_table kind) vs = of_kind kind vs
of_tabled not_in_table vs = AString

unfoldable pub command_given : (first second : ℕ) → List ℤ → Command
command_given first second vs = record { first = first; second = second; parameters = of_tabled (kind_of first second) vs }

-- ---- what is remembered behind the command; where it is not written, what was remembered before, and the three numbers are as they came

abbrev pub kept_behind : Remembered → Command → Remembered
kept_behind kept c = after_command kept c.first c.second (values_of c.parameters)

unfoldable pub slots_after : List ℕ → Command → Answer ℕ → List ℕ
slots_after before c a = value_or before (λ (n : ℕ). slots_of (kept_behind (kept_in before) c)) a

-- ---- what writing leaves: how many bytes there are and what is remembered behind them, or the refusal; and the lent bytes

unfoldable pub sent_behind : Remembered → Command → Answer ℕ → Answer Sent
sent_behind kept c a = then a (λ n. done (record { size = n; kept = kept_behind kept c }))

pub record Writes (kept : Remembered) (c : Command) (es : List ℤ) (out : List ℕ) (a : Answer ℕ) (r : Result Sent Refusal) (left : List ℕ) : Type 0 where
  pub answered : answer_of r ≡ sent_behind kept c a
  pub stands : left ≡ after_write a (spell_command kept c es) out 0

-- and ardh_write_command: from the three numbers of what was remembered before
module _ (before : List ℕ) (c : Command) (es : List ℤ) (out : List ℕ) where
  abbrev wrote : Answer ℕ
  wrote = write_command (kept_in before) c es (length out)

  pub record WrittenCommand (answer written : ℕ) (last left : List ℕ) : Type 0 where
    pub answered : answer ≡ number wrote
    pub counted : written ≡ value_or 0 (λ (n : ℕ). n) wrote
    pub remembered : last ≡ slots_after before c wrote
    pub stands : left ≡ after_write wrote (spell_command (kept_in before) c es) out 0
