-- "Writing: 8 for a value outside its range, then 7. 600 is 32 69 56."
use Rattle.std.specs.Prelude.{ℕ, ◌+◌, ◌/◌, ◌%◌, Bool, ◌&&◌, List, [], ◌∷◌, ◌++◌, length, leb, ℤ, pos, nat_abs}
use Rattle.refusals.specs.Answers.{Answer}
use Rattle.wire.specs.Sending.{write_if}
use Rattle.signs.specs.Signs.{is_negative}
use Rattle.numbers.specs.Integers.{low_of}
use Rattle.characters.specs.Characters.{are_characters, as_bytes}
use Rattle.reports.specs.Reading.{most_characters}

abbrev pub spell_report_of : ℕ → Bool → List ℕ
spell_report_of m negative = (32 + m / 1024) ∷ (32 + m / 16 % 64) ∷ low_of m negative ∷ []

abbrev pub spell_report : ℤ → List ℕ
spell_report v = spell_report_of (nat_abs v) (is_negative v)

-- "Range -65535..65535"
abbrev pub is_report : ℤ → Bool
is_report v = leb (nat_abs v) 65535

abbrev pub write_report : ℤ → ℕ → ℕ → Answer ℕ
write_report v room at = write_if (is_report v) (spell_report v) room at

unfoldable pub spell_string : List ℤ → List ℕ
spell_string vs = spell_report (pos (length vs)) ++ as_bytes vs

unfoldable pub is_string : List ℤ → Bool
is_string vs = leb (length vs) most_characters && are_characters vs

abbrev pub write_string : List ℤ → ℕ → ℕ → Answer ℕ
write_string vs room at = write_if (is_string vs) (spell_string vs) room at
