use Rattle.numbers.proofs.Ahead.{value-sum}
use borrow.Author.Rules.{rules}
use Rattle.numbers.proofs.high_value.Goals as goal

pub returns : goal.returns
returns c = search (rules, value-sum)
