use Rattle.std.proofs.Common.{◌+◌, ◌-◌, ◌*◌, length}
use Rattle.expansion.proofs.Walking.{Walking}
use Rattle.expansion.proofs.Formed.+enter_walk.Given as goal

abbrev pub decreases-enter : goal.decreases-enter
decreases-enter l = l.depth * 2

abbrev pub decreases-walk : goal.decreases-walk
decreases-walk l = l.depth * 2 + 1

abbrev pub invariant-walk-loop-next : goal.invariant-walk-loop-next
invariant-walk-loop-next l = Walking l.self.stores.volatile.now l.self.stores.saved.now l.depth l.body l.initial.going l.initial.out l.going l.i l.out

abbrev pub decreases-walk-loop-next : goal.decreases-walk-loop-next
decreases-walk-loop-next l = length l.body - l.i
