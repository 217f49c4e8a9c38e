use Prim.Native.Nat.{◌+◌, ◌-◌, ◌*◌, ◌/◌, ◌%◌, ◌^◌}
use mathlib.Core.Path.{◌≡◌, ap}
use mathlib.Core.List.{map, ◌++◌}
use lib.Bits.{bit_and}
use lib.ListN.{get_or, drop}
use lib.IntN.{pos, nat_abs}
use mir.Syntax.{w32}
use mir.Val.{SFits}
use borrow.Author.Rules.{rules}
use Rattle.pixels.specs.Writes.{run, run_marks}
use Rattle.pixel_refusals.proofs.Entries.{entry_at, next-entry, no_entry}
use Rattle.pixels.proofs.Going.{drawing_on, drawing_done}
use Rattle.pixels.proofs.Bits.{masked}
use Rattle.pixels.proofs.Canvas.lay_runs.Goals as goal

pub loop-v-preserved : goal.loop-v-preserved
unfolding run_marks
loop-v-preserved c =
    let a = c.args in
    let b = a.self.now.beam.bits in
    let i = c.loop-v.v-index in
    let fits : SFits w32 (get_or a.list.now i (pos 0)) = search rules in
    let l = map nat_abs a.list.now in
    let k = c.magnitude-code.result in
    let xs = run (bit_and k (1 * 2 ^ b % 2 ^ 64 - 1)) (k / 2 ^ b) in
    let d : run_marks b (drop i l) ≡ xs ++ run_marks b (drop (i + 1) l) = rw (masked b k a.self.now.six) (ap (run_marks b) (next-entry a.list.now i c.loop-v-test.true (entry_at a.list.now i fits c.magnitude-code.ensures))) in
    drawing_on c.loop-v.invariant xs (run_marks b (drop (i + 1) l)) d c.lay_run.ensures

pub returns : goal.returns
unfolding run_marks
returns c = drawing_done c.loop-v.invariant (ap (run_marks c.args.self.now.beam.bits) (no_entry c.args.list.now c.loop-v.v-index c.loop-v-test.false))
