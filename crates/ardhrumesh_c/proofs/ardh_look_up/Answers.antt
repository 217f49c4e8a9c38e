-- Looked for shut (refusals, Shut): stores the other way round are then refused at the clause, and at no limit of the search.
use Rattle.std.proofs.Common.{rules}
use Rattle.refusals.proofs.Shut.{opened, closed}
use Rattle.ardhrumesh_c.proofs.ardh_look_up.Goals as goal

pub returns : goal.returns
returns c = record { value = opened (search (closed, rules)); place_after = opened (search (closed, rules)) }
