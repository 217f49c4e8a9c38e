use Rattle.numbers.proofs.Ahead.{room-ahead, aheads, few-highs, value-small}
use borrow.Author.Rules.{rules}
use Rattle.numbers.proofs.among_three.Goals as goal

pub bounds-s-at : goal.bounds-s-at
bounds-s-at c = search (rules, aheads)

pub overflow_add-b : goal.overflow_add-b
overflow_add-b c = let r = room-ahead c.args.s.now c.args.at c.requires in search rules

pub bounds-s-at-2 : goal.bounds-s-at-2
bounds-s-at-2 c = search (rules, aheads)

pub highs_before-requires : goal.highs_before-requires
highs_before-requires c = search (rules, aheads)

pub overflow_add-place : goal.overflow_add-place
overflow_add-place c = let r = room-ahead c.args.s.now c.args.at c.requires in let f = few-highs _ _ c.highs_before.ensures in search rules

pub bounds-s-place : goal.bounds-s-place
bounds-s-place c = search (rules, aheads)

pub overflow_add-next : goal.overflow_add-next
overflow_add-next c = let r = room-ahead c.args.s.now c.args.at c.requires in
    let f = few-highs _ _ c.highs_before.ensures in
    search rules

pub high_value-requires : goal.high_value-requires
high_value-requires c = search (rules, aheads)

pub low_byte-requires : goal.low_byte-requires
low_byte-requires c = search (rules, value-small)

pub returns : goal.returns
returns c = search (rules, aheads)
