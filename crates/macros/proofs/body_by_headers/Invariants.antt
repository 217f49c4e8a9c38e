use Prim.Native.Nat.{◌-◌}
use lib.ListN.{length}
use Rattle.macros.specs.Store.{three_bytes}
use Rattle.macros.proofs.Headers.{Hopping}
use Rattle.macros.proofs.body_by_headers.Given as goal

abbrev pub invariant-loop-entry : goal.invariant-loop-entry
invariant-loop-entry l = Hopping three_bytes l.store l.number l.at

abbrev pub decreases-loop-entry : goal.decreases-loop-entry
decreases-loop-entry l = length l.store - l.at
