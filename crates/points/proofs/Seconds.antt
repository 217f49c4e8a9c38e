-- A byte behind one of 96..127 that is no second one: the first is LoY, and the rest is read as behind it.
use Prim.Native.Nat.{ℕ, ◌<◌}
use mathlib.Core.Path.{◌≡◌}
use mathlib.Core.List.{List}
use borrow.Author.Tests.{lt-ltb}
use Rattle.memory.specs.declared.Remembered.{Remembered}
use Rattle.refusals.specs.declared.RefusedAt.{RefusedAt}
use Rattle.refusals.specs.declared.Taken.{Taken}
use Rattle.refusals.specs.Answers.{answer_at}
use Rattle.std.specs.Prelude.{Result, Ok}
use Rattle.wire.specs.Taking.{byte_at}
use Rattle.points.specs.declared.PointBytes.{PointBytes}
use Rattle.points.specs.Reading.{by_kind, with_lo_y, after_lo_y, after_upper}

module _ (kept : Remembered) (s : List ℕ) (at : ℕ) {r : Result (Taken ℕ) RefusedAt} (e : answer_at r ≡ byte_at kept s at) (b : PointBytes) (u : ℕ) where
  pub no_second : {c : Taken ℕ} → r ≡ Ok c → c.value < 96 → after_lo_y kept (with_lo_y b u) s at ≡ after_upper kept b u s at
  unfolding after_upper after_lo_y by_kind answer_at
  no_second {c} g l = rw (← e, g, lt-ltb c.value 96 l)
