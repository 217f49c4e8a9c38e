use Rattle.refusals.proofs.Passing.{Passing}
use Rattle.stream.specs.Items.{no_escape}
use Rattle.stream.proofs.next_escape.Given as goal

abbrev pub invariant-loop-i : goal.invariant-loop-i
invariant-loop-i l = Passing no_escape l.s l.at l.i
