use Prim.Native.Nat.{◌+◌, ◌-◌}
use mathlib.Core.List.{[], ◌∷◌}
use Rattle.pixels.specs.Marks.{ink}
use Rattle.pixels.specs.Writes.{run}
use Rattle.pixels.proofs.Going.{drawing_on, drawing_done, run_next, run_done}
use Rattle.pixels.proofs.Canvas.lay_run.Goals as goal

pub loop-preserved : goal.loop-preserved
loop-preserved c =
    let a = c.args in
    let i = c.loop.counter in
    drawing_on c.loop.invariant (ink a.colour ∷ []) (run a.colour (a.n - (i + 1))) (run_next a.colour a.n i c.loop-test.true) c.lay_pixel.ensures

pub returns : goal.returns
returns c = drawing_done c.loop.invariant (run_done _ _ _ c.loop-test.false)
