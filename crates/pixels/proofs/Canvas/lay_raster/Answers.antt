use Prim.Native.Nat.{◌+◌}
use mathlib.Core.Path.{◌≡◌, ap}
use mathlib.Core.List.{map, ◌++◌}
use native.Mathlib.Omega.{arith}
use lib.ListN.{get_or, drop}
use lib.IntN.{pos, nat_abs}
use mir.Syntax.{w32}
use mir.Val.{SFits}
use borrow.Author.Rules.{rules}
use Rattle.pixels.specs.Writes.{character_marks, left_after, raster_marks}
use Rattle.pixels.proofs.Going.{drawing_on, drawing_done}
use Rattle.pixel_refusals.proofs.Entries.{entry_at, entry_within, next-entry, no_entry}
use Rattle.pixels.proofs.Canvas.lay_raster.Goals as goal

pub lay_character-requires : goal.lay_character-requires
lay_character-requires c =
    let fits : SFits w32 (get_or c.args.list.now c.loop-v.v-index (pos 0)) = search rules in
    let e = entry_within 32 96 c.args.list.now c.loop-v.v-index c.requires c.loop-v-test.true in
    omega (arith, e, entry_at c.args.list.now c.loop-v.v-index fits c.magnitude-ch.ensures)

pub loop-v-preserved : goal.loop-v-preserved
unfolding raster_marks
loop-v-preserved c =
    let a = c.args in
    let b = c.loop-v.self.beam in
    let n = c.loop-v.left in
    let i = c.loop-v.v-index in
    let fits : SFits w32 (get_or a.list.now i (pos 0)) = search rules in
    let l = map nat_abs a.list.now in
    let k = c.magnitude-ch.result in
    let next = c.lay_character.new.self in
    let m = c.lay_character.ensures in
    let xs = character_marks b n k in
    let ys = raster_marks next.beam c.left_after-then_left.result (drop (i + 1) l) in
    let left : c.left_after-then_left.result ≡ left_after b n k = c.left_after-then_left.ensures in
    let d : raster_marks b n (drop i l) ≡ xs ++ ys = rw (m.laid.behind, left) (ap (raster_marks b n) (next-entry a.list.now i c.loop-v-test.true (entry_at a.list.now i fits c.magnitude-ch.ensures))) in
    drawing_on c.loop-v.invariant xs ys d m

pub returns : goal.returns
unfolding raster_marks
returns c = drawing_done c.loop-v.invariant (ap (raster_marks c.loop-v.self.beam c.loop-v.left) (no_entry c.args.list.now c.loop-v.v-index c.loop-v-test.false))
