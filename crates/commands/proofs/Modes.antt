-- What is remembered behind a command, by the tests as the code leaves them.
use Prim.Native.Nat.{ℕ}
use mathlib.Core.Path.{◌≡◌, refl, ◌∙◌, ap}
use mathlib.Core.Bool.{Bool, true, false}
use mathlib.Core.List.{List, [], ◌∷◌, ◌++◌}
use lib.ListN.{get_or, take}
use lib.IntN.{ℤ, pos, nat_abs}
use mir.Syntax.{w32}
use mir.Val.{SFits, to_z, of_z}
use mir.Facts.{to_z-of_z}
use Rattle.memory.specs.declared.DelMode.{DelMode}
use Rattle.memory.specs.declared.Remembered.{Remembered}
use Rattle.memory.specs.Memory.{in_mode}
use Rattle.signs.specs.Signs.{is_negative}
use Rattle.parameters.specs.declared.Numbers.{Numbers}
use Rattle.parameters.specs.declared.Parameters.{Parameters}
use Rattle.parameters.specs.Shapes.{values_of}
use Rattle.parameters.specs.Numbers.{numbers_of, no_values, four_of, Holds}
use Rattle.commands.specs.Behind.{leading, is_ignore_deletes, mode_by, after_letters}

-- ---- the first number

first-of_four : (l : List ℤ) → get_or (take 4 (l ++ no_values)) 0 (pos 0) ≡ get_or l 0 (pos 0)
first-of_four [] = refl
first-of_four (v ∷ vs) = refl

pub leads : (ps : Parameters) {r : Numbers} → Holds (values_of ps) r → get_or r.values 0 (pos 0) ≡ leading (values_of ps)
unfolding four_of
leads ps h = ap (λ (l : List ℤ). get_or l 0 (pos 0)) h.four ∙ first-of_four (numbers_of (values_of ps))

-- ---- the mode behind KI; a signed argument comes back from a callee's contract as the machine reads it

module _ (mode : DelMode) (v : ℤ) (f : SFits w32 v) {t : Bool} (et : t ≡ is_negative (to_z w32 (of_z w32 v))) where
  sign : t ≡ is_negative v
  sign = rw (to_z-of_z f) at et

  module _ (g : t ≡ false) {n : ℕ} (en : n ≡ nat_abs (to_z w32 (of_z w32 v))) where
    size : n ≡ nat_abs v
    size = rw (to_z-of_z f) at en

-- ---- the letters

module _ (kept : Remembered) (a b : ℕ) (v : ℤ) {t : Bool} (et : t ≡ is_ignore_deletes a b) where
  pub ki_moves : SFits w32 v → {d m : DelMode} {k : Remembered} → t ≡ true → d ≡ kept.mode → m ≡ mode_by d (to_z w32 (of_z w32 v)) → k ≡ in_mode kept m → k ≡ after_letters kept a b v
  unfolding after_letters
  ki_moves f {d} {m} {k} g ed e j =
      let q : m ≡ mode_by kept.mode v = e ∙ rw (to_z-of_z f, ed) in
      rw (← et, g, ← q) j

  pub others_keep : t ≡ false → kept ≡ after_letters kept a b v
  unfolding after_letters
  others_keep g = rw (← et, g)

pub ki_behind : (kept : Remembered) (a b : ℕ) (v : ℤ) {x : ℤ} {k : Remembered} → x ≡ v → SFits w32 x → k ≡ after_letters kept a b (to_z w32 (of_z w32 x)) → k ≡ after_letters kept a b v
ki_behind kept a b v i f j = j ∙ rw (to_z-of_z f, i)
