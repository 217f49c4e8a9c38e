use mathlib.Core.List.{map}
use lib.ListN.{drop}
use lib.IntN.{nat_abs}
use Rattle.pixels.specs.Writes.{raster_marks}
use Rattle.pixels.proofs.Going.{Drawing}
use Rattle.pixels.proofs.Canvas.lay_raster.Given as goal

abbrev pub invariant-loop-v : goal.invariant-loop-v
invariant-loop-v l =
    Drawing (raster_marks l.initial.self.beam l.n (map nat_abs l.list)) l.initial.self (raster_marks l.self.beam l.left (drop l.v-index (map nat_abs l.list))) l.self
