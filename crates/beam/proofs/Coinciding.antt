-- Two conforming answers of a call on the record coincide.
use mathlib.Core.Path.{◌≡◌, refl, ap}
use lib.Dec.{eqb}
use Rattle.std.specs.Prelude.{Result, Ok, Err}
use Rattle.refusals.specs.declared.Refusal.{Refusal}
use Rattle.refusals.specs.Answers.{pick}
use Rattle.refusals.proofs.Numbers.{not_nought}
use Rattle.refusals.proofs.Coinciding.{named, named_back, coincide}
use Rattle.beam.specs.declared.Beam.{Beam}
use Rattle.beam.specs.declared.RefusedFresh.{RefusedFresh}
use Rattle.beam.specs.Settings.{Settled, settled_by, fresh_by}

setting_back : Settled → Result Beam Refusal
setting_back s = pick (eqb s.number 0) (Ok s.after) (Err (named s.number))

setting_same : (came : Beam) (r : Result Beam Refusal) → setting_back (settled_by came r) ≡ r
unfolding settled_by setting_back
setting_same came (Ok b) = refl
setting_same came (Err e) = rw (not_nought e) (ap Err (named_back e))

pub settings_coincide : (came : Beam) {x y : Result Beam Refusal} {d : Settled} → settled_by came x ≡ d → settled_by came y ≡ d → x ≡ y
settings_coincide came = coincide (settled_by came) setting_back (setting_same came)

-- of a fresh one the refused record too
fresh_back : Settled → Result Beam RefusedFresh
fresh_back s = pick (eqb s.number 0) (Ok s.after) (Err (record { refusal = named s.number; beam = s.after }))

fresh_same : (r : Result Beam RefusedFresh) → fresh_back (fresh_by r) ≡ r
unfolding fresh_by fresh_back
fresh_same (Ok b) = refl
fresh_same (Err e) = rw (not_nought e.refusal) (ap (λ (x : Refusal). Err (record { refusal = x; beam = e.beam })) (named_back e.refusal))

pub fresh_coincide : {x y : Result Beam RefusedFresh} {d : Settled} → fresh_by x ≡ d → fresh_by y ≡ d → x ≡ y
fresh_coincide = coincide fresh_by fresh_back fresh_same
