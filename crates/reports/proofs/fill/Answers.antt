use borrow.Author.Rules.{rules}
use Rattle.reports.proofs.Filling.{filling_more}
use Rattle.reports.proofs.fill.Goals as goal

pub loop-i-preserved : goal.loop-i-preserved
loop-i-preserved c = search (rules, filling_more)
