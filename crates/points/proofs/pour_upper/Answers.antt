use Rattle.refusals.proofs.Shut.{opened, closed}
use Rattle.points.proofs.Spelling.{upper_size, upper_stands}
use borrow.Author.Rules.{rules}
use Rattle.points.proofs.pour_upper.Goals as goal

pub returns-clause-value : goal.returns-clause-value
returns-clause-value c = (opened (search (closed, rules, upper_size)), search rules)

pub returns-clause-out_after : goal.returns-clause-out_after
returns-clause-out_after c = opened (search (closed, rules, upper_stands))
