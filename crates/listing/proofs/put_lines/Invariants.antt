use Prim.Native.Nat.{◌-◌}
use lib.ListN.{length}
use Rattle.listing.proofs.Listings.{Going}
use Rattle.listing.proofs.put_lines.Given as goal

abbrev pub invariant-loop : goal.invariant-loop
invariant-loop l = Going l.s l.initial.out (length l.s - l.counter) l.kept l.start l.at l.list l.out
