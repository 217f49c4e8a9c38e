use borrow.Author.Rules.{rules}
use Rattle.std.proofs.lemmas.Result.{err_from_is_err_and}
use Rattle.expansion.proofs.Answering.{look_refused_told, look_refused_out, short-told, short-out, done-told, done-out}
use Rattle.expansion.proofs.Formed.expand_found.Goals as goal

pub returns-in_err-end : goal.returns-in_err-end
returns-in_err-end c =
    let p = err_from_is_err_and c.from_residual.result c.from_residual.ensures.1 in
    let answer = c.in_err-end.was in
    rw (p.1, p.2) (search (rules, look_refused_told, look_refused_out))

pub returns-then-end-out : goal.returns-then-end-out
returns-then-end-out c = let answer = c.in_ok-end.was in search (rules, short-told, short-out)

pub returns : goal.returns
returns c =
    record {
      result_value = done-told _ _ c.args.number c.args.kept c.ranges.number _ c.look.ensures c.in_ok-end.was c.args.out.now c.if-end-out.false c.run.ensures;
      out_after = done-out _ _ c.args.number c.args.kept c.ranges.number _ c.look.ensures c.in_ok-end.was c.args.out.now c.if-end-out.false c.run.ensures;
    }
