use Rattle.std.proofs.Common.{rules}
use Rattle.lines.specs.Lines.{del_line}
use Rattle.lines.proofs.Pours.{poured_both}
use Rattle.lines.proofs.Pen.del_line.Goals as goal

pub returns : goal.returns
unfolding del_line
returns c = search (rules, poured_both)
