use borrow.Author.Rules.{rules}
use Rattle.std.proofs.lemmas.Result.{err_from_is_err_and}
use Rattle.pixels.proofs.Answering.{runs_ready, runs_some, runs_six, runs_fit, runs_refused, runs_unchanged, runs_drawn, runs_laid}
use Rattle.pixels.proofs.draw_runs.Goals as goal

pub returns-in_err-run_verdict : goal.returns-in_err-run_verdict
returns-in_err-run_verdict c =
    let e = c.in_err-run_verdict.ensures in
    let p = err_from_is_err_and c.from_residual.result c.from_residual.ensures.1 in
    rw (p.1, p.2) (runs_refused _ _ _ _ _ _ e, runs_unchanged _ _ _ _ _ _ e)

pub run_total-total-requires : goal.run_total-total-requires
run_total-total-requires c =
    let e = c.in_ok-run_verdict.ensures in (runs_fit _ _ _ _ _ e, runs_six _ _ _ _ _ e)

pub invariant_of-canvas : goal.invariant_of-canvas
invariant_of-canvas c =
    let e = c.in_ok-run_verdict.ensures in
    record { ready = runs_ready _ _ _ _ _ e; some = runs_some _ _ _ _ _ e; six = runs_six _ _ _ _ _ e }

pub returns : goal.returns
returns c =
    let e = c.in_ok-run_verdict.ensures in
    let laid = c.lay_runs.ensures.laid in
    let bytes = runs_laid _ _ _ _ _ _ e laid in
    (runs_drawn _ _ _ _ _ _ e laid c.run_total-total.ensures, search (rules, bytes))
