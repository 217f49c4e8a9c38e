use Rattle.macros.proofs.Headers.{hops}
use borrow.Author.Rules.{rules}
use Rattle.macros.proofs.Stores.look_by_headers.Goals as goal

pub returns-then-body-gt0-clause-ref_ptr_value : goal.returns-then-body-gt0-clause-ref_ptr_value
returns-then-body-gt0-clause-ref_ptr_value c = search (rules, hops)

pub returns-clause-ref_ptr_value : goal.returns-clause-ref_ptr_value
returns-clause-ref_ptr_value c = search (rules, hops)
