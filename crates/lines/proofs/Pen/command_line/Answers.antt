use Rattle.std.proofs.Common.{rules}
use Rattle.lines.specs.Lines.{command_line}
use Rattle.lines.proofs.Pours.{poured_both}
use Rattle.lines.proofs.Pen.command_line.Goals as goal

pub returns : goal.returns
unfolding command_line
returns c = search (rules, poured_both)
