use Rattle.numbers.proofs.Ahead.{flag_under}
use borrow.Author.Rules.{rules}
use Rattle.numbers.proofs.only_if.Goals as goal

pub overflow_mul-result : goal.overflow_mul-result
overflow_mul-result c = let u = flag_under c.args.flag c.args.v c.requires in search rules

pub returns : goal.returns
returns c = (search rules, search (rules, flag_under))
