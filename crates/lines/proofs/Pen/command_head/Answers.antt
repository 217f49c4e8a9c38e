use Rattle.std.proofs.Common.{rules}
use Rattle.lines.specs.Lines.{command_head}
use Rattle.lines.proofs.Pours.{poured_both}
use Rattle.lines.proofs.Pen.command_head.Goals as goal

pub returns : goal.returns
unfolding command_head
returns c = search (rules, poured_both)
