use Rattle.std.proofs.Common.{rules}
use Rattle.lines.proofs.Digits.{digits}
use Rattle.lines.proofs.Pen.+decimal.Goals.{then-n-ge10, else-n-ge10}
use Rattle.lines.proofs.Pen.+decimal.Goals as goal

pub returns : goal.returns
returns t c =
    elim c.if-n-ge10.branch [
      | then-n-ge10 w ↦ let last = rw w.self-is at c.put.ensures in search (rules, digits)
      | else-n-ge10 w ↦ let last = rw w.self-is at c.put.ensures in search (rules, digits)
    ]
