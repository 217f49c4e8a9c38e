use Rattle.std.proofs.Common.{rules}
use Rattle.lines.proofs.Listed.{lists}
use Rattle.lines.proofs.Pen.fixed.Goals as goal

pub returns : goal.returns
returns c = search (rules, lists)
