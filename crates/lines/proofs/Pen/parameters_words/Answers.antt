use Rattle.std.proofs.Common.{rules}
use Rattle.lines.specs.Lines.{parameters_words}
use Rattle.lines.proofs.Pours.{poured_both}
use Rattle.lines.proofs.Pen.parameters_words.Goals as goal

pub returns : goal.returns
unfolding parameters_words
returns c = search (rules, poured_both)
