use Rattle.refusals.proofs.Many.{Checking}
use Rattle.ranges.specs.Ranges.{within}
use Rattle.ranges.proofs.are_within.Given as goal

abbrev pub invariant-loop-v : goal.invariant-loop-v
invariant-loop-v l = Checking (within l.least l.most) l.list l.v-index l.good
