use native.Mathlib.Omega.{arith}
use Rattle.macros.specs.Fronts.{Bytes}
use Rattle.macros.proofs.Fronts.{heads}
use borrow.Author.Rules.{rules}
use Rattle.macros.proofs.with_body.Goals as goal

pub returns : goal.returns
unfolding Bytes
returns c = let bytes : Bytes c.args.store.now = λ i. omega (arith, c.type_inv.store i) in search (rules, heads)
