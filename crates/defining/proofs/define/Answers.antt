-- The refusal of a value by its two laws, and not by a search: a store that was touched is then refused at the equation that fails.
use Rattle.defining.proofs.Placing.{gap-known, may_not, may_not_kept}
use Rattle.defining.proofs.define.Goals as goal

pub returns-then-not-may_define : goal.returns-then-not-may_define
returns-then-not-may_define c = (
  may_not _ _ _ _ c.magnitude-n.ensures c.inspect.ensures c.in_ok-gap.ensures.ok_part c.ranges.number c.may_define.ensures c.if-not-may_define.true,
  may_not_kept _ _ _ _ c.magnitude-n.ensures c.inspect.ensures c.in_ok-gap.ensures.ok_part c.ranges.number c.may_define.ensures c.if-not-may_define.true,
)

pub rewrite-requires-clause-gap_is : goal.rewrite-requires-clause-gap_is
rewrite-requires-clause-gap_is c = gap-known _ _ c.args.number c.args.contents.now c.magnitude-n.ensures c.inspect.ensures c.in_ok-gap.ensures.ok_part
