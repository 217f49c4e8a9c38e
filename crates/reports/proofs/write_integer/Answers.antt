-- The refusal of a value by its laws, and not by a search: another bound is then refused at the equation that fails.
use Rattle.refusals.specs.declared.Refusal.TheVariants.{NotValid}
use Rattle.refusals.proofs.Shut.{opened, closed}
use Rattle.wire.proofs.Writings.{outside, accepted, standing, none_changed}
use Rattle.reports.proofs.Writings.{not_report, a_report, report_spelled}
use borrow.Author.Rules.{rules}
use Rattle.reports.proofs.write_integer.Goals as goal

pub returns-then-mag-gt65535 : goal.returns-then-mag-gt65535
returns-then-mag-gt65535 c = (
  outside _ _ _ (not_report c.args.v c.ranges.v c.magnitude-mag.ensures c.if-mag-gt65535.true),
  none_changed _ _ _ NotValid,
)

pub returns : goal.returns
returns c = opened (search (closed, rules, accepted, standing, a_report, report_spelled))
