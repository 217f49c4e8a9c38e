use borrow.Author.Rules.{rules}
use Rattle.refusals.proofs.Passed.{passes_at}
use Rattle.parameters.proofs.Entering.{end_handed, all_handed, cut_handed}
use Rattle.parameters.proofs.hand_entries.Goals as goal

pub returns-in_err-end : goal.returns-in_err-end
returns-in_err-end c = (
  passes_at c.from_residual.result c.in_err-end.field-0.0 c.from_residual.ensures.1 (end_handed _ _ _ _ _ _ (search rules) c.read_entries.ensures.0 c.in_err-end.was),
  cut_handed _ _ _ _ _ _ (search rules) c.read_entries.ensures.0 _ c.in_err-end.was,
)

pub returns : goal.returns
returns c = (
  end_handed _ _ _ _ _ _ (search rules) c.read_entries.ensures.0 c.in_ok-end.was,
  all_handed _ _ _ _ _ _ (search rules) c.read_entries.ensures.0 _ c.in_ok-end.was c.requires.1 c.read_entries.ensures.1 c.hand_over.ensures,
)
