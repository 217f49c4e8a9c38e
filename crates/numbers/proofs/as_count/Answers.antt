use mir.Syntax.{w32}
use mir.Val.{SFits}
use borrow.Author.Rules.{rules}
use Rattle.numbers.proofs.Reading.{count_is}
use Rattle.numbers.proofs.as_count.Goals as goal

pub returns : goal.returns
returns c =
    let f : SFits w32 c.in_ok-integer.integer.value = search rules in
    count_is c.args.most c.in_ok-integer.was f c.is_negative.ensures c.if-is_negative.false c.magnitude-count.ensures c.if-count-most.false
