-- The two writes, by their verdict: refused and unchanged, or laid whole.
use Prim.Native.Nat.{ℕ, ◌≤◌, ◌<◌}
use mathlib.Core.Path.{◌≡◌, sym}
use mathlib.Core.Bool.{true}
use mathlib.Core.List.{List, map}
use borrow.Author.Tests.{eq-eqb}
use lib.ListN.{length}
use lib.IntN.{ℤ, nat_abs}
use mir.Syntax.{w32}
use mir.Val.{SFits, to_z, of_z}
use mir.Facts.{to_z-of_z}
use Rattle.std.specs.Prelude.{Ok, Err}
use Rattle.refusals.specs.declared.Refusal.{Refusal}
use Rattle.refusals.specs.Answers.{every, refusal_of}
use Rattle.refusals.proofs.Numbers.{not_nought}
use Rattle.beam.specs.declared.Beam.{Beam}
use Rattle.pixel_refusals.specs.Tests.{is_raster, run_numbers, raster_refusal, run_refusal}
use Rattle.pixel_refusals.proofs.Looking.{Passed, raster-passed, raster-within, runs-passed, runs-within}
use Rattle.pixels.specs.Marks.{Mark}
use Rattle.pixels.specs.Writes.{raster_marks, run_marks, run_total, drawn_by, written, surface_after, draw_raster, raster_surface, draw_runs, runs_surface}
use Rattle.pixels.specs.Standing.{Ready, MarksLaid}
use Rattle.pixels.proofs.Laying.{ready_of}

-- ---- any write

module _ (f : ℕ) (e : Refusal) (z : refusal_of {A = Unit {0}} (Err e) ≡ f) (ms : List Mark) (beam : Beam) where
  told-refused : (n : ℕ) → drawn_by beam (Err e) ≡ written f n ms beam
  unfolding drawn_by written refusal_of
  told-refused n = rw (← z, not_nought e)

  unchanged : (w h : ℕ) (s : List ℕ) → s ≡ surface_after f w h ms beam s
  unfolding surface_after refusal_of
  unchanged w h s = rw (← z, not_nought e)

module _ (f : ℕ) (u : Unit {0}) (z : refusal_of (Ok u) ≡ f) where
  none : f ≡ 0
  unfolding refusal_of
  none = sym z

  module _ (ms : List Mark) {beam next : Beam} {w h : ℕ} {s t : List ℕ} (m : MarksLaid w h ms beam s next t) where
    told-done : (n : ℕ) {k : ℕ} → k ≡ n → drawn_by beam (Ok (record { count = k; beam = next })) ≡ written f n ms beam
    unfolding drawn_by written
    told-done n ek = rw (eq-eqb f 0 none, none, ek, m.behind)

    laid-whole : t ≡ surface_after f w h ms beam s
    unfolding surface_after
    laid-whole = rw (eq-eqb f 0 none) m.surface

ready : {w h size : ℕ} {beam : Beam} → Passed w h size beam → Ready w h beam size
ready {w} {h} {size} {beam} p = ready_of w h size beam p.surface p.valid

-- ---- RP: N comes back from the callees' contracts as the machine reads it

module _ (w h size : ℕ) (beam : Beam) (n : ℤ) (list : List ℤ) (f : SFits w32 n) {u : Unit {0}} (ev : refusal_of (Ok u) ≡ raster_refusal w h size beam (to_z w32 (of_z w32 n)) list) where
  allowed : raster_refusal w h size beam n list ≡ 0
  allowed = none _ u (rw (to_z-of_z f) at ev)

  passed : Passed w h size beam
  passed = raster-passed w h size beam n list allowed

  pub raster_ready : Ready w h beam size
  raster_ready = ready passed

  pub raster_some : 0 < beam.bits
  raster_some = passed.some

  pub raster_six : beam.bits ≤ 6
  raster_six = passed.six

  pub raster_fits : every is_raster list ≡ true
  raster_fits = raster-within w h size beam n list allowed

module _ (w h : ℕ) (beam : Beam) (n : ℤ) (list : List ℤ) (s : List ℕ) (f : SFits w32 n) where
  module _ (e : Refusal) (ev : refusal_of {A = Unit {0}} (Err e) ≡ raster_refusal w h (length s) beam (to_z w32 (of_z w32 n)) list) where
    pub raster_refused : drawn_by beam (Err e) ≡ draw_raster w h beam n list (length s)
    unfolding draw_raster
    raster_refused = told-refused _ e (rw (to_z-of_z f) at ev) _ beam _

    pub raster_unchanged : s ≡ raster_surface w h beam n list s
    unfolding raster_surface
    raster_unchanged = unchanged _ e (rw (to_z-of_z f) at ev) _ beam w h s

  module _ (u : Unit {0}) (ev : refusal_of (Ok u) ≡ raster_refusal w h (length s) beam (to_z w32 (of_z w32 n)) list)
      {k : ℕ} (ek : k ≡ nat_abs (to_z w32 (of_z w32 n))) {next : Beam} {t : List ℕ} (m : MarksLaid w h (raster_marks beam k (map nat_abs list)) beam s next t) where
    count : k ≡ nat_abs n
    count = rw (to_z-of_z f) at ek

    pub raster_drawn : drawn_by beam (Ok (record { count = k; beam = next })) ≡ draw_raster w h beam n list (length s)
    unfolding draw_raster
    raster_drawn = told-done _ u (rw (to_z-of_z f) at ev) _ (rw count at m) _ count

    pub raster_laid : t ≡ raster_surface w h beam n list s
    unfolding raster_surface
    raster_laid = laid-whole _ u (rw (to_z-of_z f) at ev) _ (rw count at m)

-- ---- RL

module _ (w h size : ℕ) (beam : Beam) (list : List ℤ) {u : Unit {0}} (ev : refusal_of (Ok u) ≡ run_refusal w h size beam list) where
  may : Passed w h size beam
  may = runs-passed w h size beam list (none _ u ev)

  pub runs_ready : Ready w h beam size
  runs_ready = ready may

  pub runs_some : 0 < beam.bits
  runs_some = may.some

  pub runs_six : beam.bits ≤ 6
  runs_six = may.six

  pub runs_fit : run_numbers list ≡ true
  runs_fit = runs-within w h size beam list (none _ u ev)

module _ (w h : ℕ) (beam : Beam) (list : List ℤ) (s : List ℕ) where
  module _ (e : Refusal) (ev : refusal_of {A = Unit {0}} (Err e) ≡ run_refusal w h (length s) beam list) where
    pub runs_refused : drawn_by beam (Err e) ≡ draw_runs w h beam list (length s)
    unfolding draw_runs
    runs_refused = told-refused _ e ev _ beam _

    pub runs_unchanged : s ≡ runs_surface w h beam list s
    unfolding runs_surface
    runs_unchanged = unchanged _ e ev _ beam w h s

  module _ (u : Unit {0}) (ev : refusal_of (Ok u) ≡ run_refusal w h (length s) beam list) {next : Beam} {t : List ℕ} (m : MarksLaid w h (run_marks beam.bits (map nat_abs list)) beam s next t) where
    pub runs_drawn : {k : ℕ} → k ≡ run_total beam.bits (map nat_abs list) → drawn_by beam (Ok (record { count = k; beam = next })) ≡ draw_runs w h beam list (length s)
    unfolding draw_runs
    runs_drawn ek = told-done _ u ev _ m _ ek

    pub runs_laid : t ≡ runs_surface w h beam list s
    unfolding runs_surface
    runs_laid = laid-whole _ u ev _ m
