use Rattle.writing.proofs.Lists.{Entering}
use Rattle.writing.proofs.pour_entries.Given as goal

abbrev pub invariant-loop-v : goal.invariant-loop-v
invariant-loop-v l = Entering l.entry l.kept l.list l.initial.out l.out l.at l.v-index l.n
