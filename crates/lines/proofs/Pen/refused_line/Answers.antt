use Rattle.std.proofs.Common.{rules}
use Rattle.lines.specs.Lines.{refused_line}
use Rattle.lines.proofs.Pours.{poured_both}
use Rattle.lines.proofs.Pen.refused_line.Goals as goal

pub returns : goal.returns
unfolding refused_line
returns c = search (rules, poured_both)
