use Rattle.std.proofs.Common.{rules}
use Rattle.lines.proofs.Digits.{many}
use Rattle.lines.proofs.Pen.numbers.Goals as goal

pub loop-v-init : goal.loop-v-init
loop-v-init c = search (rules, many)

pub loop-v-preserved : goal.loop-v-preserved
loop-v-preserved c = search (rules, many)

pub returns : goal.returns
returns c = search (rules, many)
