-- What a pixel write does, one mark after the other. A mark is a colour laid at the beam's place, or a gap: the beam passes the place and
-- its byte stays. "Each pixel is stored at the beam; the beam goes right, then .."
use Rattle.std.specs.Prelude.{ℕ, ◌+◌, ◌-◌, ◌*◌, List, [], ◌∷◌, get_or, set, replicate}
use Rattle.beam.specs.declared.Beam.{Beam}
use Rattle.beam.specs.Settings.{stepped}

pub data Mark : Type 0 where
  ink : ℕ → Mark
  gap : Mark

-- what a mark makes of the byte at its place
abbrev pub act : Mark → ℕ → ℕ
act (ink c) old = c
act gap old = old

-- the index of the beam's place: "the lent bytes hold the top row first"
unfoldable pub place : (w h : ℕ) → Beam → ℕ
place w h beam = (h - 1 - beam.y) * w + beam.x

-- the surface after the marks
unfoldable pub laid : (w h : ℕ) → List Mark → Beam → List ℕ → List ℕ
laid w h [] beam s = s
laid w h (m ∷ ms) beam s = laid w h ms (stepped beam) (set s (place w h beam) (act m (get_or s (place w h beam) 0)))

-- the record after the marks
unfoldable pub moved : List Mark → Beam → Beam
moved [] beam = beam
moved (m ∷ ms) beam = moved ms (stepped beam)

-- the colours that marks name, in order
unfoldable pub colours : List Mark → List ℕ
colours [] = []
colours (ink c ∷ ms) = c ∷ colours ms
colours (gap ∷ ms) = colours ms

-- K1: "In RP a 96 sends the beam to the left edge of the row below, round to the top after the last, even from a left edge." The beam passes its
-- own place and the others up to the last of its row; proofs/Rows.antt proves that this leads there and keeps every byte.
unfoldable pub row_end : Beam → List Mark
row_end beam = replicate (beam.right - beam.x + 1) gap
