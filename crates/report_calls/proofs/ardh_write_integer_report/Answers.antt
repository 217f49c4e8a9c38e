-- By the laws themselves, and not by a search: a report that is written elsewhere is then refused at the equation that fails.
use Rattle.report_calls.proofs.Slots.{report_given, report_left}
use Rattle.report_calls.proofs.ardh_write_integer_report.Goals as goal

pub returns-clause-hands_writing : goal.returns-clause-hands_writing
returns-clause-hands_writing c = rw (report_given c.args.value c.ranges.value _ c.args.start c.write_integer.ensures.0) at c.hand_writing.ensures

pub returns-clause-out_after : goal.returns-clause-out_after
returns-clause-out_after c = report_left c.args.value c.ranges.value _ c.args.start _ c.write_integer.ensures.0 c.write_integer.ensures.1
