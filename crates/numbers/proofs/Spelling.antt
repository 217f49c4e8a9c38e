-- Which spelling a number has: none, one or two high bytes.
use Prim.Native.Nat.{ℕ, ◌+◌, ◌/◌, ◌%◌, ◌≤◌, ◌<◌}
use mathlib.Core.Path.{◌≡◌}
use mathlib.Core.Bool.{Bool}
use mathlib.Core.List.{[], ◌∷◌}
use native.Mathlib.Omega.{arith}
use borrow.Author.Tests.{lt-ltb, le-ltb, eq-eqb, ne_eqb}
use Rattle.numbers.specs.Integers.{highs_of, spell_of, low_of}

module _ (m : ℕ) (t : Bool) where
  pub spell_one : {x : ℕ} → x ≡ low_of m t → m / 16 ≡ 0 → x ∷ [] ≡ spell_of m t
  unfolding spell_of highs_of
  spell_one e h = rw (e, eq-eqb (m / 16) 0 h)

  pub spell-two : {x : ℕ} → x ≡ low_of m t → (m / 16 ≡ 0 → ⊥) → m / 16 < 64 → (64 + m / 16 % 64) ∷ x ∷ [] ≡ spell_of m t
  unfolding spell_of highs_of
  spell-two e h l = rw (e, ne_eqb (m / 16) 0 h, lt-ltb (m / 16) 64 l)

  pub spell-three : {x : ℕ} → x ≡ low_of m t → 64 ≤ m / 16 → (64 + m / 16 / 64) ∷ (64 + m / 16 % 64) ∷ x ∷ [] ≡ spell_of m t
  unfolding spell_of highs_of
  spell-three e l = rw (e, ne_eqb (m / 16) 0 (λ q. omega arith), le-ltb (m / 16) 64 l)

pub ruleset spellings = (spell_one, spell-two, spell-three)
