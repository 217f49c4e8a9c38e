use Rattle.refusals.proofs.Many.{Checking}
use Rattle.writable.specs.Writable.{is_entry}
use Rattle.writable.proofs.are_entries.Given as goal

abbrev pub invariant-loop-v : goal.invariant-loop-v
invariant-loop-v l = Checking (is_entry l.entry) l.list l.v-index l.good
