use Rattle.std.proofs.Common.{rules}
use Rattle.lines.specs.Lines.{pair}
use Rattle.lines.proofs.Pours.{poured_both}
use Rattle.lines.proofs.Pen.pair.Goals as goal

pub returns : goal.returns
unfolding pair
returns c = search (rules, poured_both)
