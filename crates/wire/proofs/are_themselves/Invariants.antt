use Rattle.refusals.proofs.Many.{Checking}
use Rattle.wire.specs.Taking.{is_itself}
use Rattle.wire.proofs.are_themselves.Given as goal

abbrev pub invariant-loop-b : goal.invariant-loop-b
invariant-loop-b l = Checking (is_itself l.mode) l.w l.b-index l.good
