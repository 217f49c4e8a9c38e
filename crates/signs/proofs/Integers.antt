-- Whether a number is an integer of the syntax, by what the parts of the test gave.
use Prim.Native.Nat.{ℕ, ◌≤◌, ◌<◌}
use mathlib.Core.Path.{◌≡◌}
use mathlib.Core.Bool.{Bool, true, false}
use native.Mathlib.Omega.{arith}
use borrow.Author.Tests.{le-leb, lt-leb}
use lib.IntN.{ℤ, nat_abs}
use mir.Syntax.{w32}
use mir.Val.{SFits, to_z, of_z}
use mir.Facts.{to_z-of_z}
use Rattle.signs.specs.Signs.{is_negative, most_magnitude, is_integer}

pub under_limit : (t : Bool) {k m : ℕ} → k ≡ most_magnitude t → m ≤ k → m ≤ 32768
under_limit true e h = omega arith
under_limit false e h = omega arith

-- a signed argument comes back from a callee's contract as the machine reads it, `to_z w (of_z w v)`
module _ (v : ℤ) (f : SFits w32 v) {m : ℕ} {t : Bool} (et : t ≡ is_negative (to_z w32 (of_z w32 v))) (em : m ≡ nat_abs (to_z w32 (of_z w32 v))) where
  pub sign_given : t ≡ is_negative v
  sign_given = rw (to_z-of_z f) at et

  pub size-given : m ≡ nat_abs v
  size-given = rw (to_z-of_z f) at em

  pub not_integer : {k : ℕ} → k ≡ most_magnitude t → k < m → is_integer v ≡ false
  not_integer {k} ek h = rw (← size-given, ← sign_given, ← ek, lt-leb m k h)

  pub an_integer : {k : ℕ} → k ≡ most_magnitude t → m ≤ k → is_integer v ≡ true
  an_integer {k} ek h = rw (← size-given, ← sign_given, ← ek, le-leb m k h)
