use Rattle.refusals.proofs.Passing.{Passing}
use Rattle.wire.specs.Taking.{is_del}
use Rattle.wire.proofs.behind_dels.Given as goal

abbrev pub invariant-loop-i : goal.invariant-loop-i
invariant-loop-i l = Passing is_del l.s l.at l.i
