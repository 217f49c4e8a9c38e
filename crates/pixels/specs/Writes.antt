-- The two pixel writes. "RP names N pixels, N not negative. Each character is 32 plus six bits, 32..95, and takes its pixels from the top bits
-- down, 6/bits to a character .. spare low bits are not looked at. RL holds codes, none negative: length times 2^bits plus colour (house rule: length 0
-- places nothing)." And the end-of-row of K1: "Whole characters before it keep all their pixels. Places passed over aren't counted in N." Which
-- writes are refused: `pixel_refusals`.
use Rattle.std.specs.Prelude.{ℕ, zero, suc, ◌+◌, ◌-◌, ◌/◌, ◌%◌, ◌^◌, min, List, [], ◌∷◌, ◌++◌, map, length, replicate, eqb, ℤ, nat_abs, Result, Ok, Err}
use Rattle.refusals.specs.declared.Refusal.{Refusal}
use Rattle.refusals.specs.Refusals.{number_of}
use Rattle.refusals.specs.Answers.{pick}
use Rattle.beam.specs.declared.Beam.{Beam}
use Rattle.pixel_refusals.specs.Tests.{per_character, end_of_row, raster_refusal, run_refusal}
use Rattle.pixels.specs.declared.Drawn.{Drawn}
use Rattle.pixels.specs.Marks.{Mark, ink, laid, moved, row_end}

-- ---- the marks of a write

-- the first n pixels of the bits of v below sh, from the top bits down
unfoldable pub pixels : (bits n sh v : ℕ) → List Mark
pixels bits zero sh v = []
pixels bits (suc n) sh v = ink (v / 2 ^ (sh - bits) % 2 ^ bits) ∷ pixels bits n (sh - bits) v

-- one character's marks where n pixels are still to be named
unfoldable pub character_marks : Beam → (n ch : ℕ) → List Mark
character_marks beam n ch = pick (eqb ch end_of_row) (row_end beam) (pixels beam.bits (min n (per_character beam.bits)) 6 (ch - 32))

-- what is then left of n: places passed over are not counted
unfoldable pub left_after : Beam → (n ch : ℕ) → ℕ
left_after beam n ch = pick (eqb ch end_of_row) n (n - per_character beam.bits)

unfoldable pub raster_marks : Beam → ℕ → List ℕ → List Mark
raster_marks beam n [] = []
raster_marks beam n (ch ∷ chs) = character_marks beam n ch ++ raster_marks (moved (character_marks beam n ch) beam) (left_after beam n ch) chs

-- n pixels of one colour
abbrev pub run : (c n : ℕ) → List Mark
run c n = replicate n (ink c)

-- "length times 2^bits plus colour"
unfoldable pub run_marks : (bits : ℕ) → List ℕ → List Mark
run_marks bits [] = []
run_marks bits (k ∷ ks) = run (k % 2 ^ bits) (k / 2 ^ bits) ++ run_marks bits ks

-- how many pixels the codes name
unfoldable pub run_total : (bits : ℕ) → List ℕ → ℕ
run_total bits [] = 0
run_total bits (k ∷ ks) = k / 2 ^ bits + run_total bits ks

-- ---- "A write is done whole or not at all and returns its number of pixels."

-- 0 or the refusal's number, the number of pixels, and the record
pub record WriteOutcome : Type 0 where
  pub number : ℕ
  pub count : ℕ
  pub after : Beam

-- what the answer of a write with the record `came` says: where it is refused, the record is as it came; "counts with a refusal are 0"
unfoldable pub drawn_by : (came : Beam) → Result Drawn Refusal → WriteOutcome
drawn_by came (Ok d) = record { number = 0; count = d.count; after = d.beam }
drawn_by came (Err e) = record { number = number_of e; count = 0; after = came }

-- a write with the refusal f, or with none, of n pixels by these marks: the answer, and the surface
unfoldable pub written : (f n : ℕ) → List Mark → Beam → WriteOutcome
written f n ms beam = record { number = f; count = pick (eqb f 0) n 0; after = pick (eqb f 0) (moved ms beam) beam }

unfoldable pub surface_after : (f w h : ℕ) → List Mark → Beam → List ℕ → List ℕ
surface_after f w h ms beam s = pick (eqb f 0) (laid w h ms beam s) s

-- RP
abbrev pub raster_of : Beam → ℤ → List ℤ → List Mark
raster_of beam n chs = raster_marks beam (nat_abs n) (map nat_abs chs)

unfoldable pub draw_raster : (w h : ℕ) → Beam → ℤ → List ℤ → (size : ℕ) → WriteOutcome
draw_raster w h beam n chs size = written (raster_refusal w h size beam n chs) (nat_abs n) (raster_of beam n chs) beam

unfoldable pub raster_surface : (w h : ℕ) → Beam → ℤ → List ℤ → List ℕ → List ℕ
raster_surface w h beam n chs s = surface_after (raster_refusal w h (length s) beam n chs) w h (raster_of beam n chs) beam s

-- RL
abbrev pub runs_of : Beam → List ℤ → List Mark
runs_of beam codes = run_marks beam.bits (map nat_abs codes)

unfoldable pub draw_runs : (w h : ℕ) → Beam → List ℤ → (size : ℕ) → WriteOutcome
draw_runs w h beam codes size = written (run_refusal w h size beam codes) (run_total beam.bits (map nat_abs codes)) (runs_of beam codes) beam

unfoldable pub runs_surface : (w h : ℕ) → Beam → List ℤ → List ℕ → List ℕ
runs_surface w h beam codes s = surface_after (run_refusal w h (length s) beam codes) w h (runs_of beam codes) beam s
