-- What an end-of-row does. K1: "a 96 sends the beam to the left edge of the row below, round to the top after the last, even from a left edge"; the
-- places passed over keep their bytes.
use Prim.Native.Nat.{ℕ, zero, suc, ◌+◌, ◌-◌, ◌≤◌, ◌<◌}
use mathlib.Core.Path.{◌≡◌, refl, sym, ◌∙◌, ap}
use mathlib.Core.List.{List}
use native.Mathlib.Nat.{add-zero}
use native.Mathlib.Numerals.{add-one}
use native.Mathlib.Omega.{arith}
use borrow.Author.Tests.{lt-ltb, le-ltb}
use lib.ListN.{replicate}
use lib.Seq.{set-get_or}
use Rattle.beam.specs.declared.Beam.{Beam}
use Rattle.beam.specs.Settings.{beam_at, stepped}
use Rattle.pixels.specs.Marks.{gap, place, laid, moved, row_end}

gaps_keep : (w h k : ℕ) (beam : Beam) (s : List ℕ) → laid w h (replicate k gap) beam s ≡ s
unfolding laid
gaps_keep w h zero beam s = refl
gaps_keep w h (suc k) beam s = ap (laid w h (replicate k gap) (stepped beam)) (set-get_or s (place w h beam) 0) ∙ gaps_keep w h k (stepped beam) s

step_right : (beam : Beam) → beam.x < beam.right → stepped beam ≡ beam_at beam (beam.x + 1) beam.y
unfolding stepped
step_right beam l = rw (lt-ltb beam.x beam.right l)

-- one more than the places to the right of the beam: one step from the last place of its row
gaps_past : (k : ℕ) (beam : Beam) → beam.x + k ≡ beam.right → moved (replicate (suc k) gap) beam ≡ stepped (beam_at beam beam.right beam.y)
unfolding moved
gaps_past zero beam e = ap (λ (x : ℕ). stepped (beam_at beam x beam.y)) (sym (add-zero beam.x) ∙ e)
gaps_past (suc k) beam e =
    let right : stepped beam ≡ beam_at beam (beam.x + 1) beam.y = step_right beam (omega arith) in
    ap (moved (replicate (suc k) gap)) right ∙ gaps_past k (beam_at beam (beam.x + 1) beam.y) (omega arith)

module _ (beam : Beam) where
  -- no byte changes
  pub row_kept : (w h : ℕ) (s : List ℕ) → laid w h (row_end beam) beam s ≡ s
  unfolding row_end
  row_kept w h s = gaps_keep w h (beam.right - beam.x + 1) beam s

  module _ (l : beam.x ≤ beam.right) where
    row_past : moved (row_end beam) beam ≡ stepped (beam_at beam beam.right beam.y)
    unfolding row_end
    row_past = rw (add-one (beam.right - beam.x)) (gaps_past (beam.right - beam.x) beam (omega arith))

    -- as the code goes there
    pub row_end_so : {next : Beam} → next ≡ stepped (beam_at beam beam.right beam.y) → next ≡ moved (row_end beam) beam
    row_end_so j = j ∙ sym row_past

    -- "to the left edge of the row below"
    pub row_below : beam.bottom < beam.y → moved (row_end beam) beam ≡ beam_at beam beam.left (beam.y - 1)
    unfolding stepped
    row_below m = row_past ∙ rw (le-ltb beam.right beam.right (omega arith), lt-ltb beam.bottom beam.y m)

    -- "round to the top after the last"
    pub row_round : beam.y ≤ beam.bottom → moved (row_end beam) beam ≡ beam_at beam beam.left beam.top
    unfolding stepped
    row_round m = row_past ∙ rw (le-ltb beam.right beam.right (omega arith), le-ltb beam.bottom beam.y m)
