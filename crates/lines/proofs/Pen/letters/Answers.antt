use Rattle.std.proofs.Common.{rules}
use Rattle.lines.specs.Lines.{letters}
use Rattle.lines.proofs.Pours.{poured_both}
use Rattle.lines.proofs.Pen.letters.Goals as goal

pub returns : goal.returns
unfolding letters
returns c = search (rules, poured_both)
