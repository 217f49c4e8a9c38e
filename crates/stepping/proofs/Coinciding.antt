-- Two conforming answers of `step` coincide. The record after it is fixed as it stands.
use Prim.Native.Nat.{ℕ}
use mathlib.Core.Path.{◌≡◌, refl, ap}
use lib.Dec.{eqb}
use Rattle.std.specs.Prelude.{Result, Ok, Err}
use Rattle.refusals.specs.declared.Refusal.{Refusal}
use Rattle.refusals.specs.Answers.{pick, refusal_of}
use Rattle.refusals.proofs.Numbers.{not_nought}
use Rattle.refusals.proofs.Coinciding.{named, named_back, coincide}

step_back : ℕ → Result (Unit {0}) Refusal
step_back n = pick (eqb n 0) (Ok tt) (Err (named n))

step_same : (r : Result (Unit {0}) Refusal) → step_back (refusal_of r) ≡ r
unfolding refusal_of step_back
step_same (Ok u) = refl
step_same (Err e) = rw (not_nought e) (ap Err (named_back e))

pub steps_coincide : {x y : Result (Unit {0}) Refusal} {d : ℕ} → refusal_of x ≡ d → refusal_of y ≡ d → x ≡ y
steps_coincide = coincide refusal_of step_back step_same
