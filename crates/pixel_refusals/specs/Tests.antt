-- The tests of a pixel write. "Order: 11, 8 for the record, 9, 8 for a number outside 0..32767 (in RP that is N alone, in RL each code) or a list of
-- more than 256, then 10 for a character outside 32..95 or a wrong number of them." K1: "10 as before, with 96 now allowed."
use Rattle.std.specs.Prelude.{ℕ, ◌+◌, ◌-◌, ◌*◌, ◌/◌, Bool, not, ◌&&◌, List, [], ◌∷◌, map, length, leb, eqb, ℤ, nat_abs}
use Rattle.refusals.specs.Answers.{pick, demand, every}
use Rattle.ranges.specs.Ranges.{most_entries}
use Rattle.ranges.specs.Ranges.{within}
use Rattle.beam.specs.declared.Beam.{Beam}
use Rattle.beam.specs.Validity.{is_size, is_valid}

-- "the lent bytes number exactly W times H"
unfoldable pub is_surface : (w h size : ℕ) → Bool
is_surface w h size = is_size w h && eqb size (h * w)

-- N, or a code: 0..32767
abbrev pub is_pixel_number : ℤ → Bool
is_pixel_number v = within 0 32767 v

-- ---- the characters of RP: "There must be exactly as many characters as N needs"; K1: "Characters other than 96 must still be just as many as N needs."

-- "6/bits to a character"
abbrev pub per_character : ℕ → ℕ
per_character bits = 6 / bits

-- the end-of-row character
abbrev pub end_of_row : ℕ
end_of_row = 96

-- "32 plus six bits, 32..95", or 96
abbrev pub is_raster : ℤ → Bool
is_raster v = within 32 end_of_row v

-- as many characters as n pixels need
abbrev pub needed : (bits n : ℕ) → ℕ
needed bits n = (n + per_character bits - 1) / per_character bits

-- how many of the characters are other than 96
unfoldable pub pixel_characters : List ℕ → ℕ
pixel_characters [] = 0
pixel_characters (ch ∷ chs) = pick (eqb ch end_of_row) 0 1 + pixel_characters chs

-- ---- the order

unfoldable pub raster_numbers : ℤ → List ℤ → Bool
raster_numbers n chs = leb (length chs) most_entries && is_pixel_number n

unfoldable pub raster_characters : (bits : ℕ) → ℤ → List ℤ → Bool
raster_characters bits n chs = eqb (pixel_characters (map nat_abs chs)) (needed bits (nat_abs n)) && every is_raster chs

unfoldable pub run_numbers : List ℤ → Bool
run_numbers codes = leb (length codes) most_entries && every is_pixel_number codes

-- 11, 8, 9, and then what the write's own tests give
unfoldable pub write_refusal : (w h size : ℕ) → Beam → (next : ℕ) → ℕ
write_refusal w h size beam next = demand (is_surface w h size) 11 (demand (is_valid w h beam) 8 (demand (not (eqb beam.bits 0)) 9 next))

unfoldable pub raster_refusal : (w h size : ℕ) → Beam → ℤ → List ℤ → ℕ
raster_refusal w h size beam n chs = write_refusal w h size beam (demand (raster_numbers n chs) 8 (demand (raster_characters beam.bits n chs) 10 0))

unfoldable pub run_refusal : (w h size : ℕ) → Beam → List ℤ → ℕ
run_refusal w h size beam codes = write_refusal w h size beam (demand (run_numbers codes) 8 0)
