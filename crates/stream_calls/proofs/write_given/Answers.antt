use Rattle.refusals.proofs.Shut.{opened, closed}
use Rattle.stream_calls.proofs.Writing.{known_writes, unknown_writes}
use borrow.Author.Rules.{rules}
use Rattle.stream_calls.proofs.write_given.Goals as goal

pub returns-in_default : goal.returns-in_default
returns-in_default c = opened (search (closed, rules, unknown_writes))

pub returns : goal.returns
returns c = opened (search (closed, rules, known_writes))
