-- Document 01's own writing: "the writer writes 127", each byte as itself. proofs/BaseWriting.antt proves that where 127 is data it is what writing does.
use Rattle.std.specs.Prelude.{ℕ, List, [], ◌∷◌, ◌++◌, length, ℤ, pos, nat_abs}
use Rattle.memory.specs.declared.Point.{Point}
use Rattle.refusals.specs.Answers.{Answer}
use Rattle.wire.specs.Sending.{write_if}
use Rattle.numbers.specs.Integers.{spell}
use Rattle.points.specs.Writing.{spell_point}
use Rattle.parameters.specs.declared.Entry.{Entry}
use Rattle.parameters.specs.declared.Entry.TheVariants.{AnInteger, ACharacter}
use Rattle.parameters.specs.Shapes.{Tailed, no_list, list_of, Value, number, scaled, place, values_of, tail_of}
use Rattle.parameters.specs.Behind.{after_value}
use Rattle.commands.specs.declared.Command.{Command}
use Rattle.writable.specs.Writable.{is_command}
use Rattle.del_laws.specs.Base.{point_alone}

abbrev pub base_spelled : Entry → ℤ → List ℕ
base_spelled AnInteger v = spell v
base_spelled ACharacter v = nat_abs v ∷ []

unfoldable pub base_spelled_all : Entry → List ℤ → List ℕ
base_spelled_all e [] = []
base_spelled_all e (v ∷ vs) = base_spelled e v ++ base_spelled_all e vs

abbrev pub base_value : Point → Value → List ℕ
base_value p (number e v) = base_spelled e v
base_value p (scaled m x) = spell m ++ spell x
base_value p (place q) = spell_point p q

unfoldable pub base_values : Point → List Value → List ℕ
base_values p [] = []
base_values p (v ∷ vs) = base_value p v ++ base_values (after_value (point_alone p) v).point vs

unfoldable pub base_list : Tailed → List ℤ → List ℕ
base_list no_list es = []
base_list (list_of e) es = spell (pos (length es)) ++ base_spelled_all e es

unfoldable pub base_spelling : Point → Command → List ℤ → List ℕ
base_spelling p c es =
    (27 ∷ c.first ∷ c.second ∷ []) ++ (base_values p (values_of c.parameters) ++ base_list (tail_of c.parameters) es)

abbrev pub base_write : Point → Command → List ℤ → ℕ → Answer ℕ
base_write p c es room = write_if (is_command (point_alone p) c es) (base_spelling p c es) room 0
