-- Calls one after another are the laying of the marks that they name, in one list; the record's bits have no part in it.
use Prim.Native.Nat.{ℕ}
use mathlib.Core.Path.{◌≡◌, refl, sym, ◌∙◌, ap}
use mathlib.Core.Bool.{Bool, true, false}
use mathlib.Core.List.{List, [], ◌∷◌}
use lib.ListN.{get_or, set}
use lib.Dec.{eqb, ltb}
use lib.IntN.{nat_abs}
use Rattle.refusals.specs.Answers.{pick}
use Rattle.refusals.proofs.Cases.{by_pick}
use Rattle.beam.specs.declared.Beam.{Beam}
use Rattle.beam.specs.Settings.{settled, with_bits, set_bits, stepped}
use Rattle.pixels.specs.Marks.{Mark, act, place, laid, moved}
use Rattle.pixels.specs.Writes.{written, surface_after, draw_raster, raster_surface, draw_runs, runs_surface}
use Rattle.pixels.proofs.Laying.{laid-append, moved-append}
use Rattle.balance.specs.Balance.{Call, raster, runs, bits, State, after, named, ran, named_by, bits_aside}

pick-ap : {A B : Type 0} (f : A → B) (b : Bool) (x y : A) → f (pick b x y) ≡ pick b (f x) (f y)
pick-ap f true x y = refl
pick-ap f false x y = refl

-- ---- the bits have no part

stepped-aside : (beam : Beam) → stepped (bits_aside beam) ≡ bits_aside (stepped beam)
unfolding stepped
stepped-aside beam =
    let right = ltb beam.x beam.right in
    let down = ltb beam.bottom beam.y in
    sym (pick-ap bits_aside right _ _ ∙ ap (pick right _) (pick-ap bits_aside down _ _))

laid-aside : (w h : ℕ) (ms : List Mark) (beam : Beam) (s : List ℕ) → laid w h ms (bits_aside beam) s ≡ laid w h ms beam s
unfolding laid place
laid-aside w h [] beam s = refl
laid-aside w h (m ∷ ms) beam s =
    let t = set s (place w h beam) (act m (get_or s (place w h beam) 0)) in
    ap (λ (b : Beam). laid w h ms b t) (stepped-aside beam) ∙ laid-aside w h ms (stepped beam) t

moved-aside : (ms : List Mark) (beam : Beam) → moved ms (bits_aside beam) ≡ bits_aside (moved ms beam)
unfolding moved
moved-aside [] beam = refl
moved-aside (m ∷ ms) beam = ap (moved ms) (stepped-aside beam) ∙ moved-aside ms (stepped beam)

module _ (a b : Beam) (e : bits_aside a ≡ bits_aside b) where
  laid_same : (w h : ℕ) (ms : List Mark) (s : List ℕ) → laid w h ms a s ≡ laid w h ms b s
  laid_same w h ms s = sym (laid-aside w h ms a s) ∙ ap (λ (c : Beam). laid w h ms c s) e ∙ laid-aside w h ms b s

  moved_same : (ms : List Mark) → bits_aside (moved ms a) ≡ bits_aside (moved ms b)
  moved_same ms = sym (moved-aside ms a) ∙ ap (moved ms) e ∙ moved-aside ms b

-- ---- one call

-- a write with the refusal f, or with none, lays its marks, or none
module _ (f n : ℕ) (ms : List Mark) (beam : Beam) where
  write_surface : (w h : ℕ) (s : List ℕ) → surface_after f w h ms beam s ≡ laid w h (pick (eqb (written f n ms beam).number 0) ms []) beam s
  unfolding surface_after written laid
  write_surface w h s = sym (pick-ap (λ (l : List Mark). laid w h l beam s) (eqb f 0) ms [])

  write_beam : (written f n ms beam).after ≡ moved (pick (eqb (written f n ms beam).number 0) ms []) beam
  unfolding written moved
  write_beam = sym (pick-ap (λ (l : List Mark). moved l beam) (eqb f 0) ms [])

module _ (w h : ℕ) where
  call_surface : (call : Call) (st : State) → (after w h call st).surface ≡ laid w h (named w h call st) st.beam st.surface
  unfolding after named laid draw_raster raster_surface draw_runs runs_surface
  call_surface (raster n chs) st = write_surface _ _ _ _ w h _
  call_surface (runs codes) st = write_surface _ _ _ _ w h _
  call_surface (bits first second third) st = refl

  call_beam : (call : Call) (st : State) → bits_aside (after w h call st).beam ≡ bits_aside (moved (named w h call st) st.beam)
  unfolding after named moved draw_raster draw_runs set_bits settled
  call_beam (raster n chs) st = ap bits_aside (write_beam _ _ _ _)
  call_beam (runs codes) st = ap bits_aside (write_beam _ _ _ _)
  call_beam (bits first second third) st =
      let allowed = eqb (set_bits w h st.beam first second third).number 0 in
      by_pick (λ (b : Beam). bits_aside b ≡ bits_aside st.beam) allowed (with_bits (nat_abs third) st.beam) st.beam (λ e. refl) (λ e. refl)

  -- ---- calls

  pub ran-surface : (calls : List Call) (st : State) → (ran w h calls st).surface ≡ laid w h (named_by w h calls st) st.beam st.surface
  unfolding ran named_by laid
  ran-surface [] st = refl
  ran-surface (call ∷ calls) st =
      let next = after w h call st in
      let ms = named w h call st in
      let ns = named_by w h calls next in
      ran-surface calls next
      ∙ laid_same next.beam (moved ms st.beam) (call_beam call st) w h ns next.surface
      ∙ ap (laid w h ns (moved ms st.beam)) (call_surface call st)
      ∙ sym (laid-append w h ms ns st.beam st.surface)

  pub ran-beam : (calls : List Call) (st : State) → bits_aside (ran w h calls st).beam ≡ bits_aside (moved (named_by w h calls st) st.beam)
  unfolding ran named_by moved
  ran-beam [] st = refl
  ran-beam (call ∷ calls) st =
      let next = after w h call st in
      let ms = named w h call st in
      let ns = named_by w h calls next in
      ran-beam calls next ∙ moved_same next.beam (moved ms st.beam) (call_beam call st) ns ∙ ap bits_aside (sym (moved-append ms ns st.beam))
