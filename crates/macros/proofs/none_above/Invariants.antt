use Rattle.refusals.proofs.Many.{Checking}
use Rattle.macros.specs.Store.{at_most}
use Rattle.macros.proofs.none_above.Given as goal

abbrev pub invariant-loop-b : goal.invariant-loop-b
invariant-loop-b l = Checking (at_most l.most) l.part l.b-index l.good
