use Rattle.macros.proofs.Headers.{hoppings}
use Rattle.macros.proofs.Fronts.{passings}
use borrow.Author.Rules.{rules}
use Rattle.macros.proofs.body_by_headers.Goals as goal

pub returns-then-entry-number-2 : goal.returns-then-entry-number-2
returns-then-entry-number-2 c = search (rules, passings, hoppings)
