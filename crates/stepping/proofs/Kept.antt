-- "changes no other field": whatever the step by value answers, its record differs from the one that came in the beam's place alone.
use Prim.Native.Nat.{ℕ}
use mathlib.Core.Path.{◌≡◌, refl, sym, ap}
use lib.Dec.{ltb, eqb}
use Rattle.refusals.proofs.Cases.{by_pick}
use Rattle.beam.specs.declared.Beam.{Beam}
use Rattle.beam.specs.Settings.{beam_at, settled, stepped, make_step}

-- the record new is old with the beam of new
abbrev BeamAlone : (old new : Beam) → Type 0
BeamAlone old new = beam_at old new.x new.y ≡ new

-- each of the three ways of a step
stepped-alone : (beam : Beam) → BeamAlone beam (stepped beam)
unfolding stepped
stepped-alone beam =
    by_pick (BeamAlone beam) (ltb beam.x beam.right) _ _ (λ _. refl)
    (λ _. by_pick (BeamAlone beam) (ltb beam.bottom beam.y) _ _ (λ _. refl) (λ _. refl))

-- moved, or refused and as it came
pub beam-alone : (w h : ℕ) (beam : Beam) → BeamAlone beam (make_step w h beam).after
unfolding make_step settled
beam-alone w h beam = by_pick (BeamAlone beam) (eqb (make_step w h beam).number 0) (stepped beam) beam (λ _. stepped-alone beam) (λ _. refl)

-- every field but x and y
pub record Kept (old new : Beam) : Type 0 where
  pub bits : new.bits ≡ old.bits
  pub left : new.left ≡ old.left
  pub bottom : new.bottom ≡ old.bottom
  pub right : new.right ≡ old.right
  pub top : new.top ≡ old.top

pub keeps : (w h : ℕ) (beam : Beam) → Kept beam (make_step w h beam).after
keeps w h beam =
    let e : (make_step w h beam).after ≡ beam_at beam (make_step w h beam).after.x (make_step w h beam).after.y = sym (beam-alone w h beam) in
    record {
      bits = ap (λ (b : Beam). b.bits) e;
      left = ap (λ (b : Beam). b.left) e;
      bottom = ap (λ (b : Beam). b.bottom) e;
      right = ap (λ (b : Beam). b.right) e;
      top = ap (λ (b : Beam). b.top) e;
    }
