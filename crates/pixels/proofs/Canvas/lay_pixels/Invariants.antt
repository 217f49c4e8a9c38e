use Prim.Native.Nat.{◌*◌, ◌-◌, ◌≤◌}
use Rattle.pixels.specs.Writes.{pixels}
use Rattle.pixels.proofs.Going.{Drawing}
use Rattle.pixels.proofs.Canvas.lay_pixels.Given as goal

-- the bits of the pixels left lie below the shift
abbrev pub invariant-loop : goal.invariant-loop
invariant-loop l = record {
  drawing : Drawing (pixels l.bits l.n 6 l.six) l.initial.self (pixels l.bits (l.n - l.counter) l.shift l.six) l.self;
  room : l.bits * (l.n - l.counter) ≤ l.shift;
  six : l.shift ≤ 6;
}
