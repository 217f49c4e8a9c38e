-- Going by the cases of a definition: what holds in each case holds of the whole. A law on what reading gives is proved by these,
-- with no test taken apart by hand.
use Prim.Native.Nat.{ℕ, ◌≤◌}
use mathlib.Core.Path.{◌≡◌, refl, sym, subst}
use mathlib.Core.Bool.{Bool, true, false, ◌&&◌}
use native.Mathlib.Omega.{arith}
use Rattle.refusals.specs.Answers.{Answer, done, refused, then, pick}

pub by_pick : {A : Type 0} (P : A → Type 0) (b : Bool) (x y : A) → (b ≡ true → P x) → (b ≡ false → P y) → P (pick b x y)
by_pick P true x y f g = f refl
by_pick P false x y f g = g refl

pub by_then : {A B : Type 0} (P : Answer B → Type 0) (a : Answer A) (k : A → Answer B) → ((x : A) → a ≡ done x → P (k x)) → ((e p : ℕ) → a ≡ refused e p → P (refused e p)) → P (then a k)
by_then P (done x) k f g = f x refl
by_then P (refused e p) k f g = g e p refl

-- P holds of what is done; of a refusal it says nothing
unfoldable pub Done : {A : Type 0} (P : A → Type 0) → Answer A → Type 0
Done P (done x) = P x
Done P (refused e p) = Unit {0}

pub done-of : {A : Type 0} (P : A → Type 0) {a : Answer A} {x : A} → Done P a → a ≡ done x → P x
unfolding Done
done-of P h e = subst (Done P) e h

pub is-done : {A : Type 0} (P : A → Type 0) {x : A} → P x → Done P (done x)
unfolding Done
is-done P h = h

pub not_done : {A : Type 0} (P : A → Type 0) (e p : ℕ) → Done P (refused e p)
unfolding Done
not_done P e p = tt

pub done-map : {A : Type 0} {P Q : A → Type 0} → ((x : A) → P x → Q x) → (a : Answer A) → Done P a → Done Q a
unfolding Done
done-map f (done x) h = f x h
done-map f (refused e p) h = tt

-- ---- truth values and numbers that cannot be

pub and_left : (a b : Bool) → a && b ≡ true → a ≡ true
and_left true b e = refl
and_left false b e = e

pub and_right : (a b : Bool) → a && b ≡ true → b ≡ true
and_right true b e = e
and_right false b e = let z : true ≡ false = sym e in cc

pub and_true : (b : Bool) → b && true ≡ b
and_true true = refl
and_true false = refl

pub and_assoc : (a b c : Bool) → (a && b) && c ≡ a && (b && c)
and_assoc true b c = refl
and_assoc false b c = refl

pub zero_one : ◌≡◌ {A = ℕ} 0 1 → ⊥
zero_one e = omega arith

pub bool_apart : false ≡ true → ⊥
bool_apart e = let z : ◌≡◌ {A = ℕ} 0 1 = cc in omega arith

-- ---- where an answer points: reading from at on goes on, or is refused, between at and the end of the bytes

unfoldable pub Ranged : {A : Type 0} → (A → ℕ) → (at end : ℕ) → Answer A → Type 0
Ranged next at end (done x) = (at ≤ next x) × (next x ≤ end)
Ranged next at end (refused e p) = (at ≤ p) × (p ≤ end)

pub ranged_done : {A : Type 0} (next : A → ℕ) (at end : ℕ) (x : A) → at ≤ next x → next x ≤ end → Ranged next at end (done x)
unfolding Ranged
ranged_done next at end x h g = (h, g)

pub ranged_refused : {A : Type 0} (next : A → ℕ) (at end e p : ℕ) → at ≤ p → p ≤ end → Ranged next at end (refused e p)
unfolding Ranged
ranged_refused next at end e p h g = (h, g)

-- what is behind a later place is behind an earlier one
pub farther : {A : Type 0} (next : A → ℕ) (at later end : ℕ) (a : Answer A) → at ≤ later → Ranged next later end a → Ranged next at end a
unfolding Ranged
farther next at later end (done x) h q = (omega (arith, h, q.0), q.1)
farther next at later end (refused e p) h q = (omega (arith, h, q.0), q.1)

-- one reading behind another
pub ranged_then : {A B : Type 0} (f : A → ℕ) (g : B → ℕ) (at end : ℕ) (a : Answer A) (k : A → Answer B) → Ranged f at end a → ((x : A) → a ≡ done x → at ≤ f x → f x ≤ end → Ranged g at end (k x)) → Ranged g at end (then a k)
unfolding Ranged
ranged_then f g at end (done x) k h next = next x refl h.0 h.1
ranged_then f g at end (refused e p) k h next = h

pub ranged_to : {A : Type 0} (next : A → ℕ) (at end : ℕ) {a : Answer A} {x : A} → Ranged next at end a → a ≡ done x → (at ≤ next x) × (next x ≤ end)
unfolding Ranged
ranged_to next at end h q = subst (Ranged next at end) q h
