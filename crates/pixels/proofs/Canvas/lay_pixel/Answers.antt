use mathlib.Core.Path.{refl}
use mathlib.Core.List.{[], ◌∷◌}
use lib.ListN.{length-set}
use Rattle.pixels.specs.Marks.{ink, place, laid, moved}
use Rattle.pixels.proofs.Laying.{ready_behind, bits_behind}
use Rattle.pixels.proofs.Canvas.lay_pixel.Goals as goal

pub invariant_of-self : goal.invariant_of-self
unfolding moved
invariant_of-self c =
    let s = c.args.self.now in
    let e = c.step-self.ensures in
    let bits = bits_behind (ink c.args.colour ∷ []) s.beam e in
    record { ready = ready_behind (ink c.args.colour ∷ []) s.beam e (length-set s.surface.now _ c.args.colour) s.ready; some = rw bits s.some; six = rw bits s.six }

pub returns : goal.returns
unfolding place laid moved
returns c = record { laid = record { behind = c.step-self.ensures; surface = refl }; size = refl; same = refl }
