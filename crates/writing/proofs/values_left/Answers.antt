use Rattle.writing.proofs.Lists.{kept-last}
use borrow.Author.Rules.{rules}
use Rattle.writing.proofs.values_left.Goals as goal

pub returns-in-Some : goal.returns-in-Some
returns-in-Some c = search (rules, kept-last)
