-- The exit of a `?`: the refusal that came is passed on as it stands, whatever was to be read.
use mathlib.Core.Path.{◌≡◌, ap, ◌∙◌}
use Rattle.std.specs.Prelude.{Result, Err}
use Rattle.std.specs.Result.{IsErrAnd}
use Rattle.std.proofs.lemmas.Result.{err_from_is_err_and}
use Rattle.refusals.specs.declared.Refusal.{Refusal}
use Rattle.refusals.specs.declared.RefusedAt.{RefusedAt}
use Rattle.refusals.specs.Answers.{Answer, answer_at, answer_of}

pub passes : {B E : Type 0} (t : Result B E) (x : E) → IsErrAnd t (λ (y : E). y ≡ x) → t ≡ Err x
passes t x h = let p = err_from_is_err_and t h in p.1 ∙ ap Err p.2

pub passes_at : {B : Type 0} (t : Result B RefusedAt) (x : RefusedAt) {q : Answer B} → IsErrAnd t (λ (y : RefusedAt). y ≡ x) → answer_at (Err x) ≡ q → answer_at t ≡ q
passes_at t x h e = ap answer_at (passes t x h) ∙ e
