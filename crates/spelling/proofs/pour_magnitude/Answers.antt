use Rattle.refusals.proofs.Shut.{opened, closed}
use Rattle.spelling.proofs.Pouring.{pourings}
use borrow.Author.Rules.{rules}
use Rattle.spelling.proofs.pour_magnitude.Goals as goal

pub returns-then-highs-eq0 : goal.returns-then-highs-eq0
returns-then-highs-eq0 c = opened (search (closed, rules, pourings))

pub returns-then-highs-lt64 : goal.returns-then-highs-lt64
returns-then-highs-lt64 c = opened (search (closed, rules, pourings))

pub returns : goal.returns
returns c = opened (search (closed, rules, pourings))
