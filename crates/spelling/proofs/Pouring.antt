-- Which spelling a number has, where it is poured.
use Prim.Native.Nat.{ℕ, ◌+◌, ◌/◌, ◌%◌, ◌≤◌, ◌<◌}
use mathlib.Core.Path.{◌≡◌, sym, ◌∙◌, ap}
use mathlib.Core.Bool.{Bool, true}
use mathlib.Core.List.{List, [], ◌∷◌}
use native.Mathlib.Omega.{arith}
use lib.ListN.{length}
use lib.Seq.{sets}
use Rattle.memory.specs.declared.Remembered.{Remembered}
use Rattle.refusals.proofs.Many.{sets_append}
use Rattle.wire.specs.Sending.{sent, is_plain}
use Rattle.wire.proofs.Sendings.{sent-plain}
use Rattle.numbers.specs.Integers.{low_of, spell_of}
use Rattle.numbers.proofs.Spelling.{spell_one, spell-two, spell-three, spellings}

module _ (kept : Remembered) (m : ℕ) (t : Bool) where
  pub size_of : (w : List ℕ) {n : ℕ} → n ≡ length (sent kept w) → w ≡ spell_of m t → n ≡ length (sent kept (spell_of m t))
  size_of w e f = e ∙ ap (λ (x : List ℕ). length (sent kept x)) f

  pub stands_of : (w l : List ℕ) (at : ℕ) {o : List ℕ} → o ≡ sets l at (sent kept w) → w ≡ spell_of m t → o ≡ sets l at (sent kept (spell_of m t))
  stands_of w l at e f = e ∙ ap (λ (x : List ℕ). sets l at (sent kept x)) f

pub ruleset pourings = (spellings, size_of, stands_of)

-- ---- each byte as itself

-- bytes that are stored one behind the other
one-laid : (l : List ℕ) (at a : ℕ) {o : List ℕ} → o ≡ sets l (at + 0) (a ∷ []) → o ≡ sets l at (a ∷ [])
one-laid l at a e = let z : at + 0 ≡ at = omega arith in rw z at e

two-laid : (l : List ℕ) (at a b : ℕ) {k o : List ℕ} → k ≡ sets l (at + 0) (a ∷ []) → o ≡ sets k (at + 1) (b ∷ []) → o ≡ sets l at (a ∷ b ∷ [])
two-laid l at a b e f = f ∙ rw (one-laid l at a e) (sets_append (a ∷ []) (b ∷ []) l at)

three-laid : (l : List ℕ) (at a b d : ℕ) {k i o : List ℕ} → k ≡ sets l (at + 0) (a ∷ []) → i ≡ sets k (at + 1) (b ∷ []) → o ≡ sets i (at + 2) (d ∷ []) → o ≡ sets l at (a ∷ b ∷ d ∷ [])
three-laid l at a b d e f g = g ∙ rw (two-laid l at a b e f) (sets_append (a ∷ b ∷ []) (d ∷ []) l at)

module _ (m : ℕ) (t : Bool) {x : ℕ} (e : x ≡ low_of m t) where
  one_of : m < 16 → x ∷ [] ≡ spell_of m t
  one_of h = spell_one m t e (omega arith)

  two-of : 16 ≤ m → m / 16 < 64 → (64 + m / 16 % 64) ∷ x ∷ [] ≡ spell_of m t
  two-of h k = spell-two m t e (λ q. omega arith) k

  pub lay_one_size : m < 16 → 1 ≡ length (spell_of m t)
  lay_one_size h = ap length (one_of h)

  pub lay_two_size : 16 ≤ m → m / 16 < 64 → 2 ≡ length (spell_of m t)
  lay_two_size h k = ap length (two-of h k)

  pub lay_three_size : 64 ≤ m / 16 → 3 ≡ length (spell_of m t)
  lay_three_size k = ap length (spell-three m t e k)

  module _ (l : List ℕ) (at : ℕ) where
    pub lay_one : m < 16 → {o : List ℕ} → o ≡ sets l (at + 0) (x ∷ []) → o ≡ sets l at (spell_of m t)
    lay_one h f = one-laid l at x f ∙ ap (λ (w : List ℕ). sets l at w) (one_of h)

    pub lay_two : 16 ≤ m → m / 16 < 64 → {k o : List ℕ} → k ≡ sets l (at + 0) ((64 + m / 16 % 64) ∷ []) → o ≡ sets k (at + 1) (x ∷ []) → o ≡ sets l at (spell_of m t)
    lay_two h b f g = two-laid l at (64 + m / 16 % 64) x f g ∙ ap (λ (w : List ℕ). sets l at w) (two-of h b)

    pub lay_three : 64 ≤ m / 16 → {k i o : List ℕ} → k ≡ sets l (at + 0) ((64 + m / 16 / 64) ∷ []) → i ≡ sets k (at + 1) ((64 + m / 16 % 64) ∷ []) → o ≡ sets i (at + 2) (x ∷ []) → o ≡ sets l at (spell_of m t)
    lay_three b f g j =
        three-laid l at (64 + m / 16 / 64) (64 + m / 16 % 64) x f g j ∙ ap (λ (w : List ℕ). sets l at w) (spell-three m t e b)

pub ruleset layings = (lay_one_size, lay_two_size, lay_three_size, lay_one, lay_two, lay_three)

-- what is laid so is what is sent
pub plain_spelled : (kept : Remembered) (w : List ℕ) {b : Bool} {v : List ℕ} → b ≡ is_plain kept → b ≡ true → v ≡ w → v ≡ sent kept w
plain_spelled kept w e h f = f ∙ sym (sent-plain kept w (sym e ∙ h))
