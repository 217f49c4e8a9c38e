-- Two conforming answers of `expand` coincide.
use mathlib.Core.Path.{◌≡◌}
use Rattle.std.specs.Prelude.{Result}
use Rattle.refusals.specs.declared.Refusal.{Refusal}
use Rattle.refusals.specs.Answers.{Answer, answer_of}
use Rattle.refusals.proofs.Coinciding.{answers_coincide}
use Rattle.expansion.specs.declared.Expanded.{Expanded}

pub expansions_coincide : {x y : Result Expanded Refusal} {d : Answer Expanded} → answer_of x ≡ d → answer_of y ≡ d → x ≡ y
expansions_coincide = answers_coincide
