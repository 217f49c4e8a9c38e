use Rattle.std.proofs.Common.{rules}
use Rattle.lines.proofs.Digits.{singles}
use Rattle.lines.proofs.Pen.number.Goals.{then-is_negative, else-is_negative}
use Rattle.lines.proofs.Pen.number.Goals as goal

pub returns : goal.returns
returns c =
    elim c.if-is_negative.branch [
      | then-is_negative w ↦ let size = rw w.self-is at c.decimal.ensures in search (rules, singles)
      | else-is_negative w ↦ let size = rw w.self-is at c.decimal.ensures in search (rules, singles)
    ]
