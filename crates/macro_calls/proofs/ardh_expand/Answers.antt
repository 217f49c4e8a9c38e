use Rattle.refusals.specs.Answers.{answer_of, number, value_or}
use Rattle.macro_calls.specs.Slots.{count_fields, slots_behind}
use Rattle.macro_calls.proofs.Answers.{expanded}
use Rattle.macro_calls.proofs.ardh_expand.Goals as goal

pub returns-in-Ok : goal.returns-in-Ok
unfolding answer_of number count_fields slots_behind value_or
returns-in-Ok c = rw c.slots_of.ensures (expanded c.args.number c.ranges.number c.args.volatile.now c.args.saved.now c.args.remembered.now c.args.out.now c.kept_in-kept.ensures c.in-Ok.ensures.out_after c.in-Ok.ensures.result_value)

pub returns-in-Err : goal.returns-in-Err
unfolding answer_of number count_fields slots_behind value_or
returns-in-Err c = rw c.number.ensures (expanded c.args.number c.ranges.number c.args.volatile.now c.args.saved.now c.args.remembered.now c.args.out.now c.kept_in-kept.ensures c.in-Err.ensures.out_after c.in-Err.ensures.result_value)
