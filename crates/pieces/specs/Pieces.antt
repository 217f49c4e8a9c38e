-- "Expanding copies a body's items, with each KX replaced by the expansion of the macro that it names."
use Rattle.std.specs.Prelude.{ℕ, Bool, not, ◌&&◌, List, ltb, eqb, length, get_or, ℤ, Result, Ok, Err}
use Rattle.memory.specs.declared.Remembered.{Remembered}
use Rattle.memory.specs.Memory.{inside}
use Rattle.refusals.specs.declared.Refusal.{Refusal}
use Rattle.refusals.specs.Refusals.{number_of}
use Rattle.refusals.specs.Answers.{pick}
use Rattle.ranges.specs.Ranges.{most_entries}
use Rattle.parameters.specs.Shapes.{Value}
use Rattle.commands.specs.Behind.{leading}
use Rattle.commands.specs.Reading.{ToldCommand}
use Rattle.stream.specs.Items.{Itemed, nothing, text, del, command, refused_command, refused_call, item_at, told_item}
use Rattle.pieces.specs.declared.Piece.{Piece}
use Rattle.pieces.specs.declared.Piece.TheVariants.{End, Copied, Called}

-- what a body's item is to that: none is left; it is copied, or called, and where the next starts and what is then remembered; or the trouble's number
pub data Pieced : Type 0 where
  end : Pieced
  copied : (next : ℕ) → (after : Remembered) → Pieced
  called : ℤ → (next : ℕ) → (after : Remembered) → Pieced
  trouble : (number : ℕ) → Pieced

-- the letters KX
abbrev pub is_call : (first second : ℕ) → Bool
is_call first second = eqb first 75 && eqb second 88

unfoldable pub command_piece : (first second : ℕ) → List Value → ℕ → Remembered → Pieced
command_piece first second values next after = pick (is_call first second) (called (leading values) next after) (copied next after)

-- 17: "macro body holds a refused or cut command"; KD and KO are commands like others here. From a start within the body and a point inside,
-- and with room for the most entries, an item is always read.
unfoldable pub item_piece : Remembered → Itemed ToldCommand → Pieced
item_piece kept nothing = end
item_piece kept (text b n) = copied n kept
item_piece kept (del n) = copied n kept
item_piece kept (command t) = command_piece t.first t.second t.values t.next t.kept
item_piece kept (refused_command e p n k) = trouble 17
item_piece kept (refused_call e p) = trouble 17

unfoldable pub piece_at : Remembered → List ℕ → ℕ → Pieced
piece_at kept body start = item_piece kept (told_item (item_at kept body start most_entries))

-- what the answer says
unfoldable pub piece_of : Result Piece Refusal → Pieced
piece_of (Ok End) = end
piece_of (Ok (Copied n k)) = copied n k
piece_of (Ok (Called a n k)) = called a n k
piece_of (Err e) = trouble (number_of e)

-- a byte outside commands, text or a DEL: "each byte but 27", from a start within the body and a point inside
unfoldable pub is_byte : Remembered → List ℕ → ℕ → Bool
is_byte kept body start = ltb start (length body) && (not (eqb (get_or body start 0) 27) && inside kept.point)
