use Rattle.stream.specs.Items.{item_of}
use Rattle.lines.specs.Lines.{line_of}
use Rattle.lines.proofs.Pen.line.Goals as goal

pub returns-in-RefusedCommand : goal.returns-in-RefusedCommand
unfolding line_of item_of
returns-in-RefusedCommand c = rw (c.in-RefusedCommand.is, ← c.number-number.ensures) c.refused_line.ensures
