use borrow.Author.Rules.{rules}
use Rattle.std.proofs.lemmas.Result.{err_from_is_err_and}
use Rattle.pixels.proofs.Answering.{raster_ready, raster_some, raster_six, raster_fits, raster_refused, raster_unchanged, raster_drawn, raster_laid}
use Rattle.pixels.proofs.draw_raster.Goals as goal

pub returns-in_err-raster_verdict : goal.returns-in_err-raster_verdict
returns-in_err-raster_verdict c =
    let e = c.in_err-raster_verdict.ensures in
    let p = err_from_is_err_and c.from_residual.result c.from_residual.ensures.1 in
    rw (p.1, p.2) (raster_refused _ _ _ _ _ _ c.ranges.n _ e, raster_unchanged _ _ _ _ _ _ c.ranges.n _ e)

pub invariant_of-canvas : goal.invariant_of-canvas
invariant_of-canvas c =
    let e = c.in_ok-raster_verdict.ensures in
    record { ready = raster_ready _ _ _ _ _ _ c.ranges.n e; some = raster_some _ _ _ _ _ _ c.ranges.n e; six = raster_six _ _ _ _ _ _ c.ranges.n e }

pub lay_raster-requires : goal.lay_raster-requires
lay_raster-requires c = raster_fits _ _ _ _ _ _ c.ranges.n c.in_ok-raster_verdict.ensures

pub returns : goal.returns
returns c =
    let e = c.in_ok-raster_verdict.ensures in
    let laid = c.lay_raster.ensures.laid in
    let bytes = raster_laid _ _ _ _ _ _ c.ranges.n _ e c.magnitude-count.ensures laid in
    (raster_drawn _ _ _ _ _ _ c.ranges.n _ e c.magnitude-count.ensures laid, search (rules, bytes))
