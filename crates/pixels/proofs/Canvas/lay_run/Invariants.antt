use Prim.Native.Nat.{◌-◌}
use Rattle.pixels.specs.Writes.{run}
use Rattle.pixels.proofs.Going.{Drawing}
use Rattle.pixels.proofs.Canvas.lay_run.Given as goal

abbrev pub invariant-loop : goal.invariant-loop
invariant-loop l = Drawing (run l.colour l.n) l.initial.self (run l.colour (l.n - l.counter)) l.self
