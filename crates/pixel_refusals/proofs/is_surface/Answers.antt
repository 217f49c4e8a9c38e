use Rattle.pixel_refusals.proofs.Looking.{sized}
use Rattle.pixel_refusals.proofs.is_surface.Goals as goal

pub returns-then-is_size : goal.returns-then-is_size
returns-then-is_size c = sized _ _ c.args.bytes c.is_size.ensures c.if-is_size.true
