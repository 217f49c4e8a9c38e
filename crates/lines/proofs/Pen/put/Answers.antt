use Rattle.std.proofs.Common.{rules}
use Rattle.lines.proofs.Pours.{bytes}
use Rattle.lines.proofs.Pen.put.Goals as goal

pub returns-then-self : goal.returns-then-self
returns-then-self c = search (rules, bytes)

pub returns-then-self-lt-FAR : goal.returns-then-self-lt-FAR
returns-then-self-lt-FAR c = search (rules, bytes)

pub returns-else-self-lt-FAR : goal.returns-else-self-lt-FAR
returns-else-self-lt-FAR c = search (rules, bytes)
