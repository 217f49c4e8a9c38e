use Rattle.numbers.proofs.Ahead.{few-highs}
use borrow.Author.Rules.{rules}
use Rattle.numbers.proofs.ends_ahead.Goals as goal

pub overflow_add-place : goal.overflow_add-place
overflow_add-place c = let f = few-highs _ _ c.highs_before.ensures in search rules

pub bounds-s-place : goal.bounds-s-place
bounds-s-place c = let f = few-highs _ _ c.highs_before.ensures in search rules
