use Rattle.macros.proofs.Lookups.{is_found}
use Rattle.macros.proofs.Stores.found.Goals as goal

pub returns : goal.returns
returns c = is_found _ _ _ c.args.number c.ranges.number c.in_ok-locate.field-0 c.in_ok-locate.ensures
