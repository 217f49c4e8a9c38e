use Rattle.wire.proofs.Writings.{Copying}
use Rattle.characters.specs.Characters.{low_bytes}
use Rattle.characters.proofs.copy.Given as goal

abbrev pub invariant-loop-i : goal.invariant-loop-i
invariant-loop-i l = Copying (low_bytes l.list) l.initial.out l.out l.at l.i
