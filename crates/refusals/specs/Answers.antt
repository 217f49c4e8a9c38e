-- What a call gives back, as document 01 counts it: 0 and the call's values, or a refusal's number and its place.
use Rattle.std.specs.Prelude.{ℕ, zero, suc, ◌+◌, ◌≡◌, Bool, true, false, ◌&&◌, List, [], ◌∷◌, drop, Result, Ok, Err}
use Rattle.refusals.specs.declared.Refusal.{Refusal}
use Rattle.refusals.specs.declared.RefusedAt.{RefusedAt}
use Rattle.refusals.specs.declared.Taken.{Taken}
use Rattle.refusals.specs.Refusals.{number_of}

pub data Answer (A : Type 0) : Type 0 where
  done : A → Answer A
  refused : ℕ → ℕ → Answer A

-- what a call says that may be refused; a reading refusal has a place, the others have none: "counts with a refusal are 0"
unfoldable pub answer_at : {A : Type 0} → Result A RefusedAt → Answer A
answer_at (Ok a) = done a
answer_at (Err e) = refused (number_of e.refusal) e.place

unfoldable pub answer_of : {A : Type 0} → Result A Refusal → Answer A
answer_of (Ok a) = done a
answer_of (Err e) = refused (number_of e) 0

-- and its number alone: "0 means done"
unfoldable pub refusal_of : {A : Type 0} → Result A Refusal → ℕ
refusal_of (Ok a) = 0
refusal_of (Err e) = number_of e

-- "0 means done"
unfoldable pub number : {A : Type 0} → Answer A → ℕ
number (done a) = 0
number (refused e p) = e

-- what the answer has; with a refusal, none: "counts with a refusal are 0"
unfoldable pub value_or : {A B : Type 0} → (none : B) → (A → B) → Answer A → B
value_or none value (done a) = value a
value_or none value (refused e p) = none

-- where reading goes on; "a reading refusal gives its place"
unfoldable pub place_of : {A : Type 0} → (next : A → ℕ) → Answer A → ℕ
place_of next (done a) = next a
place_of next (refused e p) = p

-- the answer of the next step, where this one is done; a refusal is passed on as it stands
abbrev pub then : {A B : Type 0} → Answer A → (A → Answer B) → Answer B
then (done a) k = k a
then (refused e p) k = refused e p

abbrev pub pick : {A : Type 0} → Bool → A → A → A
pick true a b = a
pick false a b = b

-- the refusal e where the test fails, and where it does not, what comes next in the paper's order; 0 is no refusal
abbrev pub demand : Bool → ℕ → ℕ → ℕ
demand ok e next = pick ok next e

-- all of a list pass the test
unfoldable pub every : {A : Type 0} → (A → Bool) → List A → Bool
every ok [] = true
every ok (x ∷ xs) = ok x && every ok xs

-- how many of a list pass the test before the first that does not
unfoldable pub in_front : {A : Type 0} → (A → Bool) → List A → ℕ
in_front ok [] = 0
in_front ok (x ∷ xs) = pick (ok x) (suc (in_front ok xs)) 0

-- passing over bytes from at on: the place of the first that does not pass the test, or the end
unfoldable pub past_front : (ok : ℕ → Bool) → List ℕ → ℕ → ℕ
past_front ok s at = at + in_front ok (drop at s)

-- k readings, one after the other: where they end, or the first refusal
unfoldable pub ends_after : {A : Type 0} → (ℕ → Answer (Taken A)) → ℕ → ℕ → Answer ℕ
ends_after one zero at = done at
ends_after one (suc k) at = then (one at) (λ r. ends_after one k r.next)

abbrev and_on : {A : Type 0} → Answer (Taken A) → (ℕ → List A) → List A
and_on (done r) k = r.value ∷ k r.next
and_on (refused e p) k = []

-- and what they give
unfoldable pub all_after : {A : Type 0} → (ℕ → Answer (Taken A)) → ℕ → ℕ → List A
all_after one zero at = []
all_after one (suc k) at = and_on (one at) (λ n. all_after one k n)

-- the answer is that v was read and that reading goes on at n
unfoldable pub Reads : {A : Type 0} → A → ℕ → Answer (Taken A) → Type 0
Reads v n (done r) = (r.value ≡ v) × (r.next ≡ n)
Reads v n (refused e p) = ⊥
