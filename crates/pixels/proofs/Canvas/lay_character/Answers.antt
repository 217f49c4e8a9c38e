use mathlib.Core.Path.{refl}
use Rattle.pixels.specs.Marks.{row_end}
use Rattle.pixels.proofs.Laying.{ready_behind, bits_behind}
use Rattle.pixels.proofs.Going.{character_laid, end_laid}
use Rattle.pixels.proofs.Canvas.lay_character.Goals as goal

pub invariant_of-self : goal.invariant_of-self
invariant_of-self c =
    let s = c.args.self.now in
    let e = c.row_end-self.ensures in
    let bits = bits_behind (row_end s.beam) s.beam e in
    record { ready = ready_behind (row_end s.beam) s.beam e refl s.ready; some = rw bits s.some; six = rw bits s.six }

pub returns-then-ch-eq-END_OF_ROW : goal.returns-then-ch-eq-END_OF_ROW
returns-then-ch-eq-END_OF_ROW c = record { laid = end_laid _ _ _ c.if-ch-eq-END_OF_ROW.true _ c.row_end-self.ensures; size = refl; same = refl }

pub returns : goal.returns
returns c =
    let l = c.lay_pixels.ensures in
    record { laid = character_laid _ _ _ c.min.ensures c.if-ch-eq-END_OF_ROW.false l.laid; size = l.size; same = l.same }
