use Prim.Native.Nat.{◌+◌, ◌≤◌}
use mathlib.Core.Path.{◌≡◌}
use mathlib.Core.List.{map}
use lib.ListN.{drop}
use lib.IntN.{nat_abs}
use Rattle.pixel_refusals.specs.Tests.{pixel_characters}
use Rattle.pixel_refusals.proofs.pixel_characters.Given as goal

abbrev pub invariant-loop-v : goal.invariant-loop-v
invariant-loop-v l = (l.count ≤ l.v-index) × (l.count + pixel_characters (drop l.v-index (map nat_abs l.list)) ≡ pixel_characters (map nat_abs l.list))
