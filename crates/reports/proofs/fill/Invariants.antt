use Rattle.reports.proofs.Filling.{Filling}
use Rattle.reports.proofs.fill.Given as goal

abbrev pub invariant-loop-i : goal.invariant-loop-i
invariant-loop-i l = Filling l.s l.at l.count l.initial.list l.list l.i
