use Rattle.parameters.proofs.Entering.{Passing}
use Rattle.parameters.proofs.pass_entries.Given as goal

abbrev pub invariant-loop : goal.invariant-loop
invariant-loop l = Passing l.entry l.kept l.s l.at l.count l.counter l.pos
