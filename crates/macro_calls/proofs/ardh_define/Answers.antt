use mathlib.Core.Path.{◌∙◌}
use Rattle.refusals.specs.Answers.{refusal_of}
use Rattle.macro_calls.proofs.Answers.{define-told, store-so}
use Rattle.macro_calls.proofs.ardh_define.Goals as goal

pub returns-in-Ok : goal.returns-in-Ok
unfolding refusal_of
returns-in-Ok c = record {
  value = define-told c.args.number c.ranges.number c.args.store.now c.args.contents.now c.in-Ok.ensures.0;
  store_after = store-so c.args.number c.ranges.number c.args.store.now c.args.contents.now c.in-Ok.ensures.1;
}

pub returns-in-Err : goal.returns-in-Err
unfolding refusal_of
returns-in-Err c = record {
  value = c.number.ensures ∙ define-told c.args.number c.ranges.number c.args.store.now c.args.contents.now c.in-Err.ensures.0;
  store_after = store-so c.args.number c.ranges.number c.args.store.now c.args.contents.now c.in-Err.ensures.1;
}
