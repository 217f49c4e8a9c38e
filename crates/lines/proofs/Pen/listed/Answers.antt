use Rattle.std.proofs.Common.{rules}
use Rattle.lines.proofs.Listed.{lists}
use Rattle.lines.proofs.Pen.listed.Goals as goal

pub returns-then-is_some : goal.returns-then-is_some
returns-then-is_some c = search (rules, lists)

pub returns-else-is_some : goal.returns-else-is_some
returns-else-is_some c = search (rules, lists)
