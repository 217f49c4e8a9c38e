-- Two conforming answers of a pixel write coincide.
use mathlib.Core.Path.{◌≡◌, refl, ap}
use lib.Dec.{eqb}
use Rattle.std.specs.Prelude.{Result, Ok, Err}
use Rattle.refusals.specs.declared.Refusal.{Refusal}
use Rattle.refusals.specs.Answers.{pick}
use Rattle.refusals.proofs.Numbers.{not_nought}
use Rattle.refusals.proofs.Coinciding.{named, named_back, coincide}
use Rattle.beam.specs.declared.Beam.{Beam}
use Rattle.pixels.specs.declared.Drawn.{Drawn}
use Rattle.pixels.specs.Writes.{WriteOutcome, drawn_by}

drawing_back : WriteOutcome → Result Drawn Refusal
drawing_back t = pick (eqb t.number 0) (Ok (record { count = t.count; beam = t.after })) (Err (named t.number))

drawing_same : (came : Beam) (r : Result Drawn Refusal) → drawing_back (drawn_by came r) ≡ r
unfolding drawn_by drawing_back
drawing_same came (Ok d) = refl
drawing_same came (Err e) = rw (not_nought e) (ap Err (named_back e))

pub drawings_coincide : (came : Beam) {x y : Result Drawn Refusal} {d : WriteOutcome} → drawn_by came x ≡ d → drawn_by came y ≡ d → x ≡ y
drawings_coincide came = coincide (drawn_by came) drawing_back (drawing_same came)
