use Rattle.std.proofs.Common.{rules}
use Rattle.lines.specs.Lines.{opening}
use Rattle.lines.proofs.Pours.{poured_both}
use Rattle.lines.proofs.Pen.opening.Goals as goal

pub returns : goal.returns
unfolding opening
returns c = search (rules, poured_both)
