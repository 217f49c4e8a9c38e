use Rattle.beam.proofs.Settling.{made_fresh, not_fresh}
use Rattle.beam.proofs.fresh.Goals as goal

pub returns-then-is_size : goal.returns-then-is_size
returns-then-is_size c = made_fresh _ _ c.is_size.ensures c.if-is_size.true

pub returns : goal.returns
returns c = not_fresh _ _ c.is_size.ensures c.if-is_size.false
