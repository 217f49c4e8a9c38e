use Rattle.refusals.proofs.Shut.{opened, closed}
use Rattle.refusals.proofs.Rules.{tests}
use Rattle.writable.specs.Writable.{is_tail}
use Rattle.writable.proofs.list_fits.Goals as goal

pub returns : goal.returns
unfolding is_tail
returns c = opened (search (closed, tests))
