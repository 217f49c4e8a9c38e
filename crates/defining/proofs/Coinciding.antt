-- Two conforming answers of `define` coincide. The store after it is fixed as it stands.
use Prim.Native.Nat.{ℕ}
use mathlib.Core.Path.{◌≡◌}
use Rattle.std.specs.Prelude.{Result}
use Rattle.refusals.specs.declared.Refusal.{Refusal}
use Rattle.refusals.specs.Answers.{refusal_of}
use Rattle.macros.proofs.Coinciding.{findings_coincide}

pub definings_coincide : {x y : Result (Unit {0}) Refusal} {d : ℕ} → refusal_of x ≡ d → refusal_of y ≡ d → x ≡ y
definings_coincide = findings_coincide
