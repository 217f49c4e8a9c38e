use Rattle.std.proofs.Common.{rules}
use Rattle.lines.specs.Lines.{last_line}
use Rattle.lines.proofs.Pours.{poured_both}
use Rattle.lines.proofs.Pen.last_line.Goals as goal

pub returns : goal.returns
unfolding last_line
returns c = rw (← c.last_letter.ensures) (search (rules, poured_both))
