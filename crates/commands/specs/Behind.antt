-- What is remembered behind a command, by its letters and values: reading and writing share it.
use Rattle.std.specs.Prelude.{ℕ, Bool, ◌&&◌, List, eqb, get_or, ℤ, pos, nat_abs}
use Rattle.memory.specs.declared.DelMode.{DelMode}
use Rattle.memory.specs.declared.DelMode.TheVariants.{Data, Filler}
use Rattle.memory.specs.declared.Remembered.{Remembered}
use Rattle.memory.specs.Memory.{in_mode}
use Rattle.refusals.specs.Answers.{pick}
use Rattle.signs.specs.Signs.{is_negative}
use Rattle.parameters.specs.Shapes.{Value}
use Rattle.parameters.specs.Numbers.{numbers_of}
use Rattle.parameters.specs.Behind.{after_values}

-- the number that stands first; KI and KX have this one alone
abbrev pub leading : List Value → ℤ
leading vs = get_or (numbers_of vs) 0 (pos 0)

-- the letters KI, IGNORE DELETES
abbrev pub is_ignore_deletes : (first second : ℕ) → Bool
is_ignore_deletes first second = eqb first 75 && eqb second 73

-- "After KI 1 each plain 127 .. is passed over .. KI 0 returns to the old reading; other numbers leave the mode."
unfoldable pub mode_by : DelMode → ℤ → DelMode
mode_by mode v = pick (is_negative v) mode (pick (eqb (nat_abs v) 0) Data (pick (eqb (nat_abs v) 1) Filler mode))

-- the letters and the first number, where the values left kept
unfoldable pub after_letters : Remembered → (first second : ℕ) → ℤ → Remembered
after_letters kept first second v = pick (is_ignore_deletes first second) (in_mode kept (mode_by kept.mode v)) kept

abbrev pub after_command : Remembered → (first second : ℕ) → List Value → Remembered
after_command kept first second vs = after_letters (after_values kept vs) first second (leading vs)
