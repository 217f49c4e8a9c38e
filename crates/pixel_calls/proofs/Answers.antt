-- From what the unit's calls answer to the numbers of the exported ones. A signed argument comes back from a callee's contract as the machine
-- reads it.
use Prim.Native.Nat.{ℕ}
use mathlib.Core.Path.{◌≡◌, ◌∙◌}
use mathlib.Core.List.{List}
use lib.IntN.{ℤ}
use mir.Syntax.{w32}
use mir.Val.{SFits, to_z, of_z}
use mir.Facts.{to_z-of_z}
use Rattle.coordinates.specs.Coordinates.{point_given}
use Rattle.coordinates.proofs.Sides.{point-given}
use Rattle.memory.specs.declared.Point.{Point}
use Rattle.beam.specs.declared.Beam.{Beam}
use Rattle.beam.specs.Settings.{Settled, set_bits, set_viewport, set_beam}
use Rattle.pixels.specs.Writes.{WriteOutcome, draw_raster, raster_surface}
use Rattle.pixel_calls.specs.Fields.{beam_in}
use Rattle.pixel_calls.specs.Promises.{HandsSettled}

pub settled_so : {q d : Settled} {k : ℕ} {l : List ℕ} → q ≡ d → HandsSettled q k l → HandsSettled d k l
settled_so e h = rw e at h

module _ (w h : ℕ) (l : List ℕ) {b : Beam} (eb : b ≡ beam_in l) {q : Settled} where
  pub bits_given : (i j k : ℤ) → SFits w32 i → SFits w32 j → SFits w32 k
      → q ≡ set_bits w h b (to_z w32 (of_z w32 i)) (to_z w32 (of_z w32 j)) (to_z w32 (of_z w32 k)) → q ≡ set_bits w h (beam_in l) i j k
  bits_given i j k fi fj fk e = e ∙ rw (eb, to_z-of_z fi, to_z-of_z fj, to_z-of_z fk)

  pub viewport_given : (x y x₂ y₂ : ℤ) → SFits w32 x → SFits w32 y → SFits w32 x₂ → SFits w32 y₂ → {p r : Point} → p ≡ point_given (to_z w32 (of_z w32 x)) (to_z w32 (of_z w32 y)) → r ≡ point_given (to_z w32 (of_z w32 x₂)) (to_z w32 (of_z w32 y₂))
      → q ≡ set_viewport w h b p r → q ≡ set_viewport w h (beam_in l) (point_given x y) (point_given x₂ y₂)
  viewport_given x y x₂ y₂ fx fy fx₂ fy₂ ep er e = e ∙ rw (eb, point-given x y fx fy ep, point-given x₂ y₂ fx₂ fy₂ er)

  pub beam_given : (x y : ℤ) → SFits w32 x → SFits w32 y → {p : Point} → p ≡ point_given (to_z w32 (of_z w32 x)) (to_z w32 (of_z w32 y)) → q ≡ set_beam w h b p → q ≡ set_beam w h (beam_in l) (point_given x y)
  beam_given x y fx fy ep e = e ∙ rw (eb, point-given x y fx fy ep)

module _ (w h : ℕ) (l : List ℕ) {b : Beam} (eb : b ≡ beam_in l) where
  pub raster_given : (n : ℤ) → SFits w32 n → (chs : List ℤ) (size : ℕ) {q : WriteOutcome} → q ≡ draw_raster w h b (to_z w32 (of_z w32 n)) chs size → q ≡ draw_raster w h (beam_in l) n chs size
  raster_given n f chs size e = e ∙ rw (eb, to_z-of_z f)

  pub raster_laid : (n : ℤ) → SFits w32 n → (chs : List ℤ) (s : List ℕ) {o : List ℕ} → o ≡ raster_surface w h b (to_z w32 (of_z w32 n)) chs s → o ≡ raster_surface w h (beam_in l) n chs s
  raster_laid n f chs s e = e ∙ rw (eb, to_z-of_z f)
