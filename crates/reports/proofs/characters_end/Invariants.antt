use Rattle.reports.proofs.Stepping.{Running}
use Rattle.reports.proofs.characters_end.Given as goal

abbrev pub invariant-loop-i : goal.invariant-loop-i
invariant-loop-i l = Running l.count l.s l.at l._i l.pos
