-- What a call hands back, with the record as seven numbers: the promise of an exported call names the answer of the call beneath once.
use Rattle.std.specs.Prelude.{ℕ, ◌≡◌, List, length, ℤ}
use Rattle.beam.specs.Settings.{Settled}
use Rattle.beam.specs.Settings.{set_bits}
use Rattle.pixels.specs.Writes.{WriteOutcome, draw_raster, raster_surface, draw_runs, runs_surface}
use Rattle.pixel_calls.specs.Fields.{beam_in, fields_of}

-- a call on the record: 0 or the refusal's number, and the record
pub record HandsSettled (s : Settled) (number : ℕ) (fields : List ℕ) : Type 0 where
  pub same_number : number ≡ s.number
  pub same-record : fields ≡ fields_of s.after

-- a write: these, and the number of pixels
pub record HandsWritten (o : WriteOutcome) (number count : ℕ) (fields : List ℕ) : Type 0 where
  pub same_number : number ≡ o.number
  pub same_count : count ≡ o.count
  pub same-record : fields ≡ fields_of o.after

-- ---- RU, RP and RL: of each, what it hands back and, of a write, the surface that it leaves

abbrev pub BitsHanded : (w h : ℕ) → (fields : List ℕ) → (first second third : ℤ) → (number : ℕ) → (back : List ℕ) → Type 0
BitsHanded w h fields first second third number back = HandsSettled (set_bits w h (beam_in fields) first second third) number back

module _ (w h : ℕ) (fields surface : List ℕ) where
  abbrev pub RasterHanded : (n : ℤ) → (characters : List ℤ) → (number count : ℕ) → (back : List ℕ) → Type 0
  RasterHanded n characters number count back = HandsWritten (draw_raster w h (beam_in fields) n characters (length surface)) number count back

  abbrev pub RasterLeaves : (n : ℤ) → (characters : List ℤ) → (left : List ℕ) → Type 0
  RasterLeaves n characters left = left ≡ raster_surface w h (beam_in fields) n characters surface

  abbrev pub RunsHanded : (codes : List ℤ) → (number count : ℕ) → (back : List ℕ) → Type 0
  RunsHanded codes number count back = HandsWritten (draw_runs w h (beam_in fields) codes (length surface)) number count back

  abbrev pub RunsLeave : (codes : List ℤ) → (left : List ℕ) → Type 0
  RunsLeave codes left = left ≡ runs_surface w h (beam_in fields) codes surface
