-- Pouring: nothing, a byte, and one thing behind another.
use Prim.Native.Nat.{ℕ, ◌+◌, ◌-◌, ◌*◌, ◌≤◌, ◌<◌, ◌^◌, min}
use mathlib.Core.Path.{◌≡◌, refl, sym, ◌∙◌, ap}
use mathlib.Core.List.{List, [], ◌∷◌, ◌++◌}
use mathlib.Core.Logic.{⊎_elim}
use native.Mathlib.Omega.{arith}
use native.Mathlib.Nat.{eq-zero-or-pos}
use lib.ListN.{length, set, length-append}
use lib.Seq.{sets, set_out, length-sets}
use Rattle.refusals.proofs.Many.{past_end, sets_append}
use Rattle.lines.specs.Pouring.{far, behind, Put}

behind_both : (a b : List ℕ) (at : ℕ) → behind (behind at a) b ≡ behind at (a ++ b)
unfolding behind
behind_both a b at = omega (arith, length-append a b)

both_stand : (a b l : List ℕ) (at : ℕ) → length l < far → sets (sets l at a) (behind at a) b ≡ sets l at (a ++ b)
unfolding behind
both_stand a b l at h =
    ⊎_elim
    (λ q.
    let z : at + min (length a) (far - at) ≡ at + length a = omega arith in
    ap (λ (k : ℕ). sets (sets l at a) k b) z ∙ sets_append a b l at)
    (λ q.
    let s = length-sets l at a in
    past_end (sets l at a) (at + min (length a) (far - at)) b (omega arith)
    ∙ sym (past_end (sets l at a) (at + length a) b (omega arith))
    ∙ sets_append a b l at)
    (eq-zero-or-pos (length a - (far - at)))

pub poured_none : (l : List ℕ) (at : ℕ) → length l * 1 < 2 ^ 63 → Put l at [] at l
unfolding behind
poured_none l at h = record { room = omega arith; next = omega arith; stands = refl }

pub poured_inside : (l : List ℕ) (at b : ℕ) → length l * 1 < 2 ^ 63 → at < length l → Put l at (b ∷ []) (at + 1) (set l at b)
unfolding behind
poured_inside l at b h i = record { room = omega arith; next = omega arith; stands = refl }

pub poured_past : (l : List ℕ) (at b : ℕ) → length l * 1 < 2 ^ 63 → length l ≤ at → at < far → Put l at (b ∷ []) (at + 1) l
unfolding behind
poured_past l at b h i j = record { room = omega arith; next = omega arith; stands = sym (set_out l at b i) }

pub poured_far : (l : List ℕ) (at b : ℕ) → length l * 1 < 2 ^ 63 → far ≤ at → Put l at (b ∷ []) at l
unfolding behind
poured_far l at b h i = record { room = omega arith; next = omega arith; stands = sym (set_out l at b (omega arith)) }

-- the later first: what it was poured on is what the earlier left
pub poured_both : {l m o a b : List ℕ} {at n k : ℕ} → Put m n b k o → Put l at a n m → Put l at (a ++ b) k o
poured_both {l = l} {a = a} {b = b} {at = at} q p =
    record {
      room = p.room;
      next = q.next ∙ ap (λ (i : ℕ). behind i b) p.next ∙ behind_both a b at;
      stands = q.stands ∙ rw (p.stands, p.next) (both_stand a b l at p.room);
    }

pub poured_long : {l w o : List ℕ} {at n : ℕ} → Put l at w n o → length o ≡ length l
poured_long {l = l} {w = w} {at = at} p = ap length p.stands ∙ length-sets l at w

pub ruleset bytes = (poured_none, poured_inside, poured_past, poured_far)
