-- The spelling of a point, poured byte by byte, and its writing.
use Prim.Native.Nat.{ℕ, ◌+◌}
use mathlib.Core.Path.{◌≡◌, refl, ◌∙◌, ap}
use mathlib.Core.Bool.{Bool, false}
use mathlib.Core.List.{List, [], ◌∷◌, ◌++◌}
use native.Mathlib.Omega.{arith}
use lib.Dec.{eqb}
use lib.ListN.{length}
use lib.Seq.{sets}
use Rattle.memory.specs.declared.Remembered.{Remembered}
use Rattle.memory.specs.declared.Point.{Point}
use Rattle.wire.specs.Sending.{sent}
use Rattle.wire.proofs.Sendings.{sent-none, sent-long}
use Rattle.refusals.proofs.Rules.{tests}
use Rattle.wire.proofs.Writings.{more_size, more_stands, pours_size, pours_stand, none_size, none_stand, outside, none_changed, poured-so, poured-stands}
use Rattle.points.specs.declared.PointBytes.{PointBytes}
use Rattle.points.specs.Layout.{bytes_of}
use Rattle.points.specs.Writing.{part, omits_lo_y, upper_bytes, spell_bytes, spell_point}
use Rattle.points.proofs.Insides.{both_outside, both_inside, first_inside, second_inside}

-- ---- pouring the parts, each behind those before it

pub ruleset parts = (tests, sent-none, sent-long)

module _ (kept : Remembered) (a b : PointBytes) (y : Bool) {one two : ℕ}
    (e₁ : one ≡ 0 + length (sent kept (part (eqb a.hiy b.hiy) b.hiy)))
    (e₂ : two ≡ one + length (sent kept (part (eqb a.extra b.extra) b.extra))) where
  s₁ : one ≡ length (sent kept (part (eqb a.hiy b.hiy) b.hiy))
  s₁ = omega (arith, e₁)

  s₂ : two ≡ length (sent kept (part (eqb a.hiy b.hiy) b.hiy ++ part (eqb a.extra b.extra) b.extra))
  s₂ = e₂ ∙ more_size kept (part (eqb a.hiy b.hiy) b.hiy) (part (eqb a.extra b.extra) b.extra) s₁ refl

  pub upper_size : {r : ℕ} → r ≡ two + length (sent kept (part y b.loy)) → r ≡ length (sent kept (upper_bytes a b y))
  upper_size e = e ∙ more_size kept (part (eqb a.hiy b.hiy) b.hiy ++ part (eqb a.extra b.extra) b.extra) (part y b.loy) s₂ refl

  pub upper_stands : (l : List ℕ) (at : ℕ) {m₁ m₂ o : List ℕ}
      → m₁ ≡ sets l (at + 0) (sent kept (part (eqb a.hiy b.hiy) b.hiy))
      → m₂ ≡ sets m₁ (at + one) (sent kept (part (eqb a.extra b.extra) b.extra))
      → o ≡ sets m₂ (at + two) (sent kept (part y b.loy))
      → o ≡ sets l at (sent kept (upper_bytes a b y))
  upper_stands l at {m₁} {m₂} f₁ f₂ f₃ =
      let z : at + 0 ≡ at = omega arith in
      let g₁ : m₁ ≡ sets l at (sent kept (part (eqb a.hiy b.hiy) b.hiy)) = rw z at f₁ in
      let g₂ = more_stands kept (part (eqb a.hiy b.hiy) b.hiy) (part (eqb a.extra b.extra) b.extra) l at s₁ g₁ f₂ in
      more_stands kept (part (eqb a.hiy b.hiy) b.hiy ++ part (eqb a.extra b.extra) b.extra) (part y b.loy) l at s₂ g₂ f₃

module _ (kept : Remembered) (a b : PointBytes) {y : Bool} {upper most : ℕ}
    (ey : y ≡ omits_lo_y a b)
    (e₃ : upper ≡ length (sent kept (upper_bytes a b y)))
    (e₄ : most ≡ upper + length (sent kept (part (eqb a.hix b.hix) b.hix))) where
  all_parts : upper_bytes a b y ++ part (eqb a.hix b.hix) b.hix ++ (b.lox ∷ []) ≡ spell_bytes a b
  unfolding spell_bytes
  all_parts = rw ey

  s₄ : most ≡ length (sent kept (upper_bytes a b y ++ part (eqb a.hix b.hix) b.hix))
  s₄ = e₄ ∙ more_size kept (upper_bytes a b y) (part (eqb a.hix b.hix) b.hix) e₃ refl

  pub parts_size : {r : ℕ} → r ≡ most + length (sent kept (part false b.lox)) → r ≡ length (sent kept (spell_bytes a b))
  parts_size e =
      e
      ∙ more_size kept (upper_bytes a b y ++ part (eqb a.hix b.hix) b.hix) (b.lox ∷ []) s₄ refl
      ∙ ap (λ (w : List ℕ). length (sent kept w)) all_parts

  pub parts_stand : (l : List ℕ) (at : ℕ) {m₃ m₄ o : List ℕ}
      → m₃ ≡ sets l at (sent kept (upper_bytes a b y))
      → m₄ ≡ sets m₃ (at + upper) (sent kept (part (eqb a.hix b.hix) b.hix))
      → o ≡ sets m₄ (at + most) (sent kept (part false b.lox))
      → o ≡ sets l at (sent kept (spell_bytes a b))
  parts_stand l at f₃ f₄ f₅ =
      let g₄ = more_stands kept (upper_bytes a b y) (part (eqb a.hix b.hix) b.hix) l at e₃ f₃ f₄ in
      more_stands kept (upper_bytes a b y ++ part (eqb a.hix b.hix) b.hix) (b.lox ∷ []) l at s₄ g₄ f₅
      ∙ ap (λ (w : List ℕ). sets l at (sent kept w)) all_parts

-- ---- writing

pub sent-point : (kept : Remembered) (p q : Point) {a b : PointBytes} → a ≡ bytes_of p → b ≡ bytes_of q → sent kept (spell_bytes a b) ≡ sent kept (spell_point p q)
sent-point kept p q ea eb = rw (ea, eb)

pub ruleset pourings = (first_inside, second_inside, both_inside, both_outside, pours_size, pours_stand, none_size, none_stand, sent-point)

pub ruleset writings = (both_inside, both_outside, outside, none_changed, poured-so, poured-stands)
