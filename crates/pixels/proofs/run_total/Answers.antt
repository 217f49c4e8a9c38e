use Prim.Native.Nat.{◌+◌, ◌/◌, ◌^◌}
use mathlib.Core.Path.{◌≡◌, ap}
use mathlib.Core.List.{map}
use native.Mathlib.Nat.{div-le_self}
use native.Mathlib.Omega.{arith}
use lib.ListN.{get_or, drop}
use lib.IntN.{pos, nat_abs}
use mir.Syntax.{w32}
use mir.Val.{SFits}
use borrow.Author.Rules.{rules}
use Rattle.pixels.specs.Writes.{run_total}
use Rattle.pixel_refusals.proofs.Entries.{entry_at, entry_within, next-entry, no_entry}
use Rattle.pixel_refusals.proofs.Looking.{few-codes, codes_within}
use Rattle.pixels.proofs.run_total.Goals as goal

pub overflow_add-sum : goal.overflow_add-sum
overflow_add-sum c =
    let a = c.args in
    let i = c.loop-v.v-index in
    let fits : SFits w32 (get_or a.list.now i (pos 0)) = search rules in
    omega (arith, few-codes a.list.now c.requires.0, entry_within 0 32767 a.list.now i (codes_within a.list.now c.requires.0) c.loop-v-test.true, entry_at a.list.now i fits c.magnitude.ensures, div-le_self c.magnitude.result (2 ^ a.bits))

pub loop-v-preserved : goal.loop-v-preserved
unfolding run_total
loop-v-preserved c =
    let a = c.args in
    let i = c.loop-v.v-index in
    let fits : SFits w32 (get_or a.list.now i (pos 0)) = search rules in
    let l = map nat_abs a.list.now in
    let k = c.magnitude.result in
    let more = c.loop-v-test.true in
    let e : k ≡ get_or l i 0 = entry_at a.list.now i fits c.magnitude.ensures in
    let t : run_total a.bits (drop i l) ≡ k / 2 ^ a.bits + run_total a.bits (drop (i + 1) l) = ap (run_total a.bits) (next-entry a.list.now i more e) in
    (omega (arith, entry_within 0 32767 a.list.now i (codes_within a.list.now c.requires.0) more, div-le_self k (2 ^ a.bits)), omega arith)

pub returns : goal.returns
unfolding run_total
returns c = let a = c.args in
    omega (arith, ap (run_total a.bits) (no_entry a.list.now c.loop-v.v-index c.loop-v-test.false))
