use borrow.Author.Rules.{rules}
use Rattle.std.proofs.lemmas.Result.{err_from_is_err_and}
use Rattle.expansion.proofs.Answering.{outside_told, outside-out, unfound_told, unfound_out, first-found, second-found, found_told, found_out}
use Rattle.expansion.proofs.expand.Goals as goal

pub returns-then-not-is_inside : goal.returns-then-not-is_inside
returns-then-not-is_inside c = search (rules, outside_told, outside-out)

pub returns-in_err-found : goal.returns-in_err-found
returns-in_err-found c =
    let p = err_from_is_err_and c.from_residual.result c.from_residual.ensures.1 in
    let answer = c.in_err-found.was in
    rw (p.1, p.2) (search (rules, unfound_told, unfound_out))

pub invariant_of-formed : goal.invariant_of-formed
invariant_of-formed c = let answer = c.in_ok-found.was in record { first = search (rules, first-found); second = search (rules, second-found) }

pub returns : goal.returns
returns c = let answer = c.in_ok-found.was in search (rules, found_told, found_out)
