use Rattle.wire.proofs.Writings.{Copying}
use Rattle.wire.proofs.copy.Given as goal

abbrev pub invariant-loop-i : goal.invariant-loop-i
invariant-loop-i l = Copying l.w l.initial.out l.out l.at l.i
