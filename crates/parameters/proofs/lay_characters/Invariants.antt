use mathlib.Core.List.{map}
use lib.ListN.{length}
use lib.IntN.{pos}
use Rattle.parameters.proofs.Entering.{Handing}
use Rattle.parameters.proofs.lay_characters.Given as goal

abbrev pub invariant-loop-i : goal.invariant-loop-i
invariant-loop-i l = Handing (map pos l.w) (length l.w) l.initial.list l.list l.i
