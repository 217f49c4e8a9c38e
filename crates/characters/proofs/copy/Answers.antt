use Prim.Native.Nat.{◌<◌}
use native.Mathlib.Omega.{arith}
use lib.ListN.{length}
use borrow.Author.Rules.{rules}
use Rattle.characters.proofs.Entries.{entering}
use Rattle.characters.proofs.copy.Goals as goal

pub loop-i-preserved : goal.loop-i-preserved
loop-i-preserved c =
    let h : c.loop-i.i < length c.args.list.now = omega (arith, c.in_room-count.ensures, c.loop-i-test.true) in
    search (rules, entering)
