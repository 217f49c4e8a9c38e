use Prim.Native.Nat.{◌+◌}
use mathlib.Core.Path.{◌≡◌, ap}
use mathlib.Core.List.{map}
use native.Mathlib.Omega.{arith}
use borrow.Author.Rules.{rules}
use borrow.Author.Tests.{eq-eqb, ne_eqb}
use lib.Dec.{eqb}
use lib.ListN.{get_or, drop}
use lib.IntN.{pos, nat_abs}
use mir.Syntax.{w32}
use mir.Val.{SFits}
use Rattle.refusals.specs.Answers.{pick}
use Rattle.pixel_refusals.specs.Tests.{end_of_row, pixel_characters}
use Rattle.pixel_refusals.proofs.Entries.{entry_at, next-entry, no_entry}
use Rattle.pixel_refusals.proofs.pixel_characters.Goals as goal
use Rattle.pixel_refusals.proofs.pixel_characters.Goals.{then-magnitude-ne-END_OF_ROW, else-magnitude-ne-END_OF_ROW}

pub loop-v-preserved : goal.loop-v-preserved
unfolding pixel_characters
loop-v-preserved c =
    let i = c.loop-v.v-index in
    let l = map nat_abs c.args.list.now in
    let k = c.magnitude.result in
    let fits : SFits w32 (get_or c.args.list.now i (pos 0)) = search rules in
    let e : pixel_characters (drop i l) ≡ pick (eqb k end_of_row) 0 1 + pixel_characters (drop (i + 1) l) = ap pixel_characters (next-entry c.args.list.now i c.loop-v-test.true (entry_at c.args.list.now i fits c.magnitude.ensures)) in
    elim c.if-magnitude-ne-END_OF_ROW.branch [
      | then-magnitude-ne-END_OF_ROW w ↦ let f : pixel_characters (drop i l) ≡ 1 + pixel_characters (drop (i + 1) l) = rw (ne_eqb k end_of_row w.if-magnitude-ne-END_OF_ROW.true) at e in (omega arith, omega arith)
      | else-magnitude-ne-END_OF_ROW w ↦ let f : pixel_characters (drop i l) ≡ 0 + pixel_characters (drop (i + 1) l) = rw (eq-eqb k end_of_row w.if-magnitude-ne-END_OF_ROW.false) at e in (omega arith, omega arith)
    ]

pub returns : goal.returns
unfolding pixel_characters
returns c = omega (arith, ap pixel_characters (no_entry c.args.list.now c.loop-v.v-index c.loop-v-test.false))
