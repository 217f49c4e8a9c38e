use mathlib.Core.Path.{◌∙◌}
use mir.Syntax.{w32}
use mir.Val.{SFits}
use mir.Facts.{to_z-of_z}
use borrow.Author.Rules.{rules}
use Rattle.parameters.proofs.Entering.{laying_more}
use Rattle.parameters.proofs.lay_characters.Goals as goal

pub loop-i-preserved : goal.loop-i-preserved
loop-i-preserved c =
    let f : SFits w32 c.entry_of.result = search rules in
    laying_more _ _ _ _ c.loop-i.invariant _ c.loop-i-test.true (to_z-of_z f ∙ c.entry_of.ensures)
