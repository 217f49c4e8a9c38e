-- Two conforming verdicts on a write coincide.
use Prim.Native.Nat.{ℕ}
use mathlib.Core.Path.{◌≡◌, refl, ap}
use lib.Dec.{eqb}
use Rattle.std.specs.Prelude.{Result, Ok, Err}
use Rattle.refusals.specs.declared.Refusal.{Refusal}
use Rattle.refusals.specs.Answers.{pick, refusal_of}
use Rattle.refusals.proofs.Numbers.{not_nought}
use Rattle.refusals.proofs.Coinciding.{named, named_back, coincide}

verdict_back : ℕ → Result (Unit {0}) Refusal
verdict_back n = pick (eqb n 0) (Ok tt) (Err (named n))

verdict_same : (r : Result (Unit {0}) Refusal) → verdict_back (refusal_of r) ≡ r
unfolding refusal_of verdict_back
verdict_same (Ok u) = refl
verdict_same (Err e) = rw (not_nought e) (ap Err (named_back e))

pub verdicts_coincide : {x y : Result (Unit {0}) Refusal} {d : ℕ} → refusal_of x ≡ d → refusal_of y ≡ d → x ≡ y
verdicts_coincide = coincide refusal_of verdict_back verdict_same
