use Prim.Native.Nat.{◌+◌, ◌-◌, ◌/◌, ◌%◌, ◌^◌}
use mathlib.Core.List.{[], ◌∷◌}
use native.Mathlib.Omega.{arith}
use Rattle.pixels.specs.Marks.{ink}
use Rattle.pixels.specs.Writes.{pixels}
use Rattle.pixels.proofs.Going.{drawing_on, drawing_done, pixels_next, pixels_done, bits_less}
use Rattle.pixels.proofs.Bits.{masked}
use Rattle.pixels.proofs.Canvas.lay_pixels.Goals as goal

pub loop-preserved : goal.loop-preserved
loop-preserved c =
    let a = c.args in
    let b = a.self.now.beam.bits in
    let i = c.loop.counter in
    let sh = c.loop.shift in
    let more = c.loop-test.true in
    let colour = masked b (a.six / 2 ^ (sh - b)) a.self.now.six in
    let laid = rw colour at c.lay_pixel.ensures in
    record {
      drawing = drawing_on c.loop.invariant.drawing (ink (a.six / 2 ^ (sh - b) % 2 ^ b) ∷ []) (pixels b (a.n - (i + 1)) (sh - b) a.six) (pixels_next b a.n i sh a.six more) laid;
      room = omega (arith, bits_less b a.n i more);
      six = omega arith;
    }

pub returns : goal.returns
returns c = drawing_done c.loop.invariant.drawing (pixels_done _ _ _ _ _ c.loop-test.false)
