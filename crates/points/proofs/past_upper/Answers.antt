use Rattle.refusals.proofs.Shut.{opened, closed}
use Rattle.points.proofs.Seconds.{no_second}
use borrow.Author.Rules.{rules}
use Rattle.points.proofs.past_upper.Goals as goal

pub returns-in_default : goal.returns-in_default
returns-in_default c = opened (search (closed, rules, no_second))
