-- The bytes of a command. "Writing takes the whole lent list as the entries of a string or array, and for other commands does not look at
-- it. It gives 8 for .., then 7."
use Rattle.std.specs.Prelude.{ℕ, ◌≤◌, ◌≡◌, List, [], ◌∷◌, ◌++◌, length, ℤ, pos, nat_abs}
use Rattle.std.proofs.lemmas.List.Edits.{sets}
use Rattle.memory.specs.declared.DelMode.{DelMode}
use Rattle.memory.specs.declared.DelMode.TheVariants.{Data, Filler}
use Rattle.memory.specs.declared.Remembered.{Remembered}
use Rattle.refusals.specs.Answers.{Answer}
use Rattle.wire.specs.Sending.{sent, write_if}
use Rattle.numbers.specs.Integers.{spell}
use Rattle.points.specs.Writing.{spell_point}
use Rattle.parameters.specs.declared.Entry.{Entry}
use Rattle.parameters.specs.declared.Entry.TheVariants.{AnInteger, ACharacter}
use Rattle.parameters.specs.Shapes.{Tailed, no_list, list_of, Value, number, scaled, place, values_of, tail_of}
use Rattle.parameters.specs.Behind.{after_value, after_values}
use Rattle.commands.specs.declared.Command.{Command}
use Rattle.writable.specs.Writable.{fits, is_command}

unfoldable pub spell_entry : Entry → Remembered → ℤ → List ℕ
spell_entry AnInteger kept v = sent kept (spell v)
spell_entry ACharacter kept v = sent kept (nat_abs v ∷ [])

unfoldable pub spell_entries : Entry → Remembered → List ℤ → List ℕ
spell_entries e kept [] = []
spell_entries e kept (v ∷ vs) = spell_entry e kept v ++ spell_entries e kept vs

abbrev pub spell_value : Remembered → Value → List ℕ
spell_value kept (number e v) = spell_entry e kept v
spell_value kept (scaled m x) = sent kept (spell m) ++ sent kept (spell x)
spell_value kept (place p) = sent kept (spell_point kept.point p)

unfoldable pub spell_values : Remembered → List Value → List ℕ
spell_values kept [] = []
spell_values kept (v ∷ vs) = spell_value kept v ++ spell_values (after_value kept v) vs

unfoldable pub spell_tail : Remembered → Tailed → List ℤ → List ℕ
spell_tail kept no_list es = []
spell_tail kept (list_of e) es = sent kept (spell (pos (length es))) ++ spell_entries e kept es

unfoldable pub spell_parameters : Remembered → List Value → Tailed → List ℤ → List ℕ
spell_parameters kept vs t es = spell_values kept vs ++ spell_tail (after_values kept vs) t es

unfoldable pub spell_command : Remembered → Command → List ℤ → List ℕ
spell_command kept c es =
    (27 ∷ c.first ∷ c.second ∷ []) ++ spell_parameters kept (values_of c.parameters) (tail_of c.parameters) es

-- where the letters are known to have such parameters
abbrev pub write_fitting : Remembered → Command → List ℤ → ℕ → Answer ℕ
write_fitting kept c es room = write_if (fits kept c.parameters es) (spell_command kept c es) room 0

abbrev pub write_command : Remembered → Command → List ℤ → ℕ → Answer ℕ
write_command kept c es room = write_if (is_command kept c es) (spell_command kept c es) room 0

-- no command has more bytes: where a 127 is data an entry has at most three, and where it is filler four
unfoldable pub most_written : DelMode → ℕ
most_written Data = 792
most_written Filler = 1043

-- the bytes w, at most most of them, stand in l from at on as far as it has room, and r says how many they are
pub record Poured (w : List ℕ) (most : ℕ) (l o : List ℕ) (at r : ℕ) : Type 0 where
  pub size : r ≡ length w
  pub stand : o ≡ sets l at w
  pub few : r ≤ most
