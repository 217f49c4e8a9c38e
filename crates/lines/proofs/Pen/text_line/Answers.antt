use Rattle.std.proofs.Common.{rules}
use Rattle.lines.specs.Lines.{text_line}
use Rattle.lines.proofs.Pours.{poured_both}
use Rattle.lines.proofs.Pen.text_line.Goals as goal

pub returns : goal.returns
unfolding text_line
returns c = search (rules, poured_both)
