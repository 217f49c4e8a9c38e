-- "that many bytes 32..127", as entries of a lent list of numbers.
use Rattle.std.specs.Prelude.{ℕ, ◌-◌, ◌%◌, Bool, List, map, ℤ, pos, negsuc, nat_abs}
use Rattle.refusals.specs.Answers.{every}
use Rattle.ranges.specs.Ranges.{within}

abbrev pub is_character : ℤ → Bool
is_character v = within 32 127 v

abbrev pub are_characters : List ℤ → Bool
are_characters vs = every is_character vs

-- entries as bytes, and bytes as entries
abbrev pub as_bytes : List ℤ → List ℕ
as_bytes vs = map nat_abs vs

-- the lowest eight bits of an entry, a negative one in two's complement: those of -1 are 255, those of -2 are 254
abbrev pub low_eight : ℤ → ℕ
low_eight (pos n) = n % 256
low_eight (negsuc n) = 255 - n % 256

-- entries as bytes, where an entry may be no byte
abbrev pub low_bytes : List ℤ → List ℕ
low_bytes vs = map low_eight vs

abbrev pub as_entries : List ℕ → List ℤ
as_entries bs = map pos bs
