use mathlib.Core.List.{map}
use lib.ListN.{drop}
use lib.IntN.{nat_abs}
use Rattle.pixels.specs.Writes.{run_marks}
use Rattle.pixels.proofs.Going.{Drawing}
use Rattle.pixels.proofs.Canvas.lay_runs.Given as goal

abbrev pub invariant-loop-v : goal.invariant-loop-v
invariant-loop-v l =
    Drawing (run_marks l.bits (map nat_abs l.list)) l.initial.self (run_marks l.bits (drop l.v-index (map nat_abs l.list))) l.self
