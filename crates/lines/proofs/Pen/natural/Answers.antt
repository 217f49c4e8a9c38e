use Rattle.std.proofs.Common.{rules}
use Rattle.lines.specs.Decimals.{field}
use Rattle.lines.proofs.Pours.{poured_both}
use Rattle.lines.proofs.Pen.natural.Goals as goal

pub returns : goal.returns
unfolding field
returns c = search (rules, poured_both)
