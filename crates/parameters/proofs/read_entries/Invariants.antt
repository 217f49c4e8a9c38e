use lib.ListN.{length}
use Rattle.parameters.proofs.Entering.{Reading}
use Rattle.parameters.proofs.read_entries.Given as goal

abbrev pub invariant-loop-value : goal.invariant-loop-value
invariant-loop-value l = Reading l.entry l.kept l.s l.at (length l.initial.list) l.initial.list l.list l.value-index l.pos
