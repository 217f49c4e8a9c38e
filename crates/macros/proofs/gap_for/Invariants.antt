use Prim.Native.Nat.{◌-◌}
use lib.ListN.{length}
use Rattle.macros.specs.Store.{three_bytes}
use Rattle.macros.proofs.Fronts.{Surveying}
use Rattle.macros.proofs.gap_for.Given as goal

abbrev pub invariant-loop-entry : goal.invariant-loop-entry
invariant-loop-entry l = Surveying three_bytes l.store l.number l.gap l.least

abbrev pub decreases-loop-entry : goal.decreases-loop-entry
decreases-loop-entry l = length l.store - l.gap.end
