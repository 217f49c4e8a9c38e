use Prim.Native.Nat.{◌+◌, ◌*◌, ◌≤◌}
use mathlib.Core.Path.{◌≡◌}
use mathlib.Core.List.{map}
use lib.ListN.{drop}
use lib.IntN.{nat_abs}
use Rattle.pixels.specs.Writes.{run_total}
use Rattle.pixels.proofs.run_total.Given as goal

abbrev pub invariant-loop-v : goal.invariant-loop-v
invariant-loop-v l = (l.sum ≤ 32767 * l.v-index) × (l.sum + run_total l.bits (drop l.v-index (map nat_abs l.list)) ≡ run_total l.bits (map nat_abs l.list))
