-- "Sheet of set values. Proved as one table with one claim": what the definitions give beside what the paper says.
use Rattle.std.specs.Prelude.{ℕ, ◌≡◌, refl, List, [], ◌∷◌, map, ℤ, pos, negsuc}
use Rattle.memory.specs.declared.Point.{Point}
use Rattle.memory.specs.Memory.{fresh_memory}
use Rattle.refusals.specs.Answers.{number}
use Rattle.wire.specs.Taking.{past_dels, found_at, byte_at, pair_at}
use Rattle.numbers.specs.Integers.{spell, spell_of, highs_of, integer_at, integer_from}
use Rattle.points.specs.Writing.{spell_point, spell_bytes}
use Rattle.beam.specs.Settings.{fresh_beam, with_bits, stepped}
use Rattle.pixels.specs.Marks.{moved, colours}
use Rattle.pixels.specs.Writes.{pixels, character_marks, left_after, raster_marks, run_marks}
use Rattle.sheet.specs.Rows.{SheetRow, given-of, paper-of, at}

abbrev integer : ℤ → List ℕ → SheetRow
integer v bytes = record { given = spell v; paper = bytes }

-- the refusal's number where the bytes are read as an integer from a fresh remembered point
abbrev refusal : List ℕ → ℕ → SheetRow
refusal bytes n = record { given = number (integer_at fresh_memory bytes 0) ∷ []; paper = n ∷ [] }

abbrev point : (last this : Point) → List ℕ → SheetRow
point last this bytes = record { given = spell_point last this; paper = bytes }

-- the colours that raster characters name at three bits, n of them
abbrev raster : (n : ℕ) (characters colours : List ℕ) → SheetRow
raster n chs cs = record { given = colours (raster_marks (with_bits 3 (fresh_beam 1 1)) n chs); paper = cs }

-- the colours that a run code names at three bits
abbrev runs : (code : ℕ) → List ℕ → SheetRow
runs code cs = record { given = colours (run_marks 3 (code ∷ [])); paper = cs }

abbrev pub sheet : List SheetRow
sheet =
    integer (pos 0) (48 ∷ [])
    ∷ integer (negsuc 0) (33 ∷ [])
    ∷ integer (pos 15) (63 ∷ [])
    ∷ integer (negsuc 15) (65 ∷ 32 ∷ [])
    ∷ integer (pos 32767) (95 ∷ 127 ∷ 63 ∷ [])
    ∷ integer (negsuc 32767) (96 ∷ 64 ∷ 32 ∷ [])
    ∷ refusal (96 ∷ 64 ∷ 48 ∷ []) 4
    ∷ point (at 0 0) (at 128 0) (96 ∷ 33 ∷ 64 ∷ [])
    ∷ point (at 0 0) (at 1 0) (97 ∷ 96 ∷ 64 ∷ [])
    ∷ point (at 0 0) (at 4095 3071) (55 ∷ 111 ∷ 127 ∷ 63 ∷ 95 ∷ [])
    ∷ point (at 4095 3071) (at 4095 3071) (95 ∷ [])
    ∷ raster 4 (42 ∷ 60 ∷ []) (1 ∷ 2 ∷ 3 ∷ 4 ∷ [])
    ∷ runs 21 (5 ∷ 5 ∷ [])
    ∷ []

-- the one claim
pub all_as_set : map given-of sheet ≡ map paper-of sheet
unfolding number spell_of highs_of integer_from past_dels found_at byte_at pair_at spell_bytes raster_marks character_marks left_after pixels run_marks moved stepped colours
all_as_set = refl
