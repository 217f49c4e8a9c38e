use native.Mathlib.Omega.{arith}
use Rattle.macros.specs.Fronts.{Bytes}
use Rattle.macros.proofs.Layouts.{three-lawful}
use Rattle.macros.proofs.Fronts.{surveying, surveyed-on, surveyed-end}
use borrow.Author.Rules.{rules}
use Rattle.macros.proofs.gap_for.Goals as goal

pub loop-entry-init : goal.loop-entry-init
loop-entry-init c = surveying _ c.args.store.now c.args.number

pub loop-entry-preserved : goal.loop-entry-preserved
loop-entry-preserved c = surveyed-on _ three-lawful c.args.store.now c.args.number c.loop-entry.gap c.loop-entry.least c.loop-entry.invariant _ c.entry_at.ensures c.in-Some.is c.gap_behind-gap.ensures

pub returns : goal.returns
unfolding Bytes
returns c = let bytes : Bytes c.args.store.now = λ i. omega (arith, c.type_inv.store i) in search (rules, three-lawful, surveyed-end)
