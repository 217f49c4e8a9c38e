use mathlib.Core.Path.{◌∙◌}
use mir.Syntax.{w32}
use mir.Val.{SFits}
use mir.Facts.{to_z-of_z}
use lib.Seq.{set-get_or}
use borrow.Author.Rules.{rules}
use Rattle.refusals.proofs.Passed.{passes_at}
use Rattle.parameters.proofs.Entering.{readings, reading_more, reading_some}
use Rattle.parameters.proofs.read_entries.Goals as goal

pub returns-in_err-taken : goal.returns-in_err-taken
returns-in_err-taken c = (
  passes_at c.from_residual.result c.in_err-taken.field-0.0 c.from_residual.ensures.1 (search (rules, readings)),
  set-get_or _ _ _ ∙ reading_some _ _ _ _ _ _ _ _ _ c.loop-value.invariant c.read_entry.ensures c.in_err-taken.was,
)

pub loop-value-preserved : goal.loop-value-preserved
loop-value-preserved c =
    let f : SFits w32 c.in_ok-taken.taken.value = search rules in
    reading_more _ _ _ _ _ _ _ _ _ c.loop-value.invariant c.read_entry.ensures _ (search rules) c.in_ok-taken.was (to_z-of_z f)
