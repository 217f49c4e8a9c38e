-- Readings one after the other, as a turn of a loop takes one: what is left ends where the whole ends.
use Prim.Native.Nat.{ℕ, zero, suc, ◌+◌, ◌-◌, ◌≤◌, ◌<◌}
use mathlib.Core.Path.{◌≡◌, refl, sym, ◌∙◌, ap}
use mathlib.Core.Bool.{Bool, true, ◌&&◌}
use mathlib.Core.List.{List, [], ◌∷◌, ◌++◌}
use native.Mathlib.Omega.{arith}
use native.Mathlib.Numerals.{add-one}
use lib.ListN.{length, get_or, drop, set, length-set, drop_of_length-le}
use lib.Seq.{sets, set_out, drop-cons}
use Rattle.refusals.specs.declared.Taken.{Taken}
use Rattle.refusals.specs.Answers.{Answer, done, refused, ends_after, all_after, every}
use Rattle.refusals.proofs.Cases.{and_left, and_right, and_true, and_assoc}

-- nothing is stored past the end
pub past_end : {A : Type 0} (l : List A) (i : ℕ) (w : List A) → length l ≤ i → sets l i w ≡ l
past_end l i [] h = refl
past_end l i (x ∷ w) h = ap (λ m. sets m (suc i) w) (set_out l i x h) ∙ past_end l (suc i) w (omega arith)

-- one piece behind another
pub sets_append : {A : Type 0} (a b l : List A) (at : ℕ) → sets (sets l at a) (at + length a) b ≡ sets l at (a ++ b)
sets_append [] b l at = let z : at + 0 ≡ at = omega arith in ap (λ (k : ℕ). sets l k b) z
sets_append (x ∷ a) b l at =
    let z : at + length (x ∷ a) ≡ suc at + length a = omega arith in
    ap (λ (k : ℕ). sets (sets (set l at x) (suc at) a) k b) z ∙ sets_append a b (set l at x) (suc at)

module _ {A : Type 0} (one : ℕ → Answer (Taken A)) where
  -- ---- passing over

  unrolled : (k at : ℕ) {q : Answer ℕ} → 0 < k → ends_after one k at ≡ q → ends_after one (suc (k - 1)) at ≡ q
  unrolled k at h j = let z : suc (k - 1) ≡ k = omega arith in rw z j

  pub passed_all : (k at : ℕ) {q : Answer ℕ} → k ≤ 0 → ends_after one k at ≡ q → done at ≡ q
  unfolding ends_after
  passed_all zero at h j = j
  passed_all (suc k) at h j = absurd (omega arith)

  pub passed_one : (k at : ℕ) {r : Taken A} {q : Answer ℕ} → one at ≡ done r → 0 < k → ends_after one k at ≡ q → ends_after one (k - 1) r.next ≡ q
  unfolding ends_after
  passed_one k at e h j = rw e at (unrolled k at h j)

  pub passed_none : (k at : ℕ) {x p : ℕ} {q : Answer ℕ} → one at ≡ refused x p → 0 < k → ends_after one k at ≡ q → refused x p ≡ q
  unfolding ends_after
  passed_none k at e h j = rw e at (unrolled k at h j)

  -- ---- filling a list

  pub record Filling (at count : ℕ) (l₀ l : List A) (i pos : ℕ) : Type 0 where
    pub upto : i ≤ count
    pub long : length l ≡ length l₀
    pub whole : sets l i (all_after one (count - i) pos) ≡ sets l₀ 0 (all_after one count at)

  pub filling_none : (at count : ℕ) (l : List A) → Filling at count l l 0 at
  filling_none at count l = let z : count - 0 ≡ count = omega arith in record { upto = omega arith; long = refl; whole = rw z }

  cons_of : (k pos : ℕ) {r : Taken A} → one pos ≡ done r → all_after one (suc k) pos ≡ r.value ∷ all_after one k r.next
  unfolding all_after
  cons_of k pos e = rw e

  nil_of : (k pos : ℕ) {x p : ℕ} → one pos ≡ refused x p → all_after one k pos ≡ []
  unfolding all_after
  nil_of zero pos e = refl
  nil_of (suc k) pos e = rw e

  pub filling_more : (at count : ℕ) (l₀ l : List A) (i pos : ℕ) {r : Taken A} → Filling at count l₀ l i pos → i < count → one pos ≡ done r → Filling at count l₀ (set l i r.value) (i + 1) r.next
  filling_more at count l₀ l i pos {r} f h e =
      let z : count - i ≡ suc (count - (i + 1)) = omega arith in
      let d = cons_of (count - (i + 1)) pos e in
      record {
        upto = omega arith;
        long = length-set l i r.value ∙ f.long;
        whole =
            ap (λ (k : ℕ). sets (set l i r.value) k (all_after one (count - (i + 1)) r.next)) (add-one i)
            ∙ (rw (z, d) at f.whole);
      }

  pub filling_end : (at count : ℕ) (l₀ l : List A) (i pos : ℕ) → Filling at count l₀ l i pos → count ≤ i → l ≡ sets l₀ 0 (all_after one count at)
  unfolding all_after
  filling_end at count l₀ l i pos f h = let z : count - i ≡ 0 = omega arith in rw z at f.whole

  pub filling_cut : (at count : ℕ) (l₀ l : List A) (i pos : ℕ) {x p : ℕ} → Filling at count l₀ l i pos → one pos ≡ refused x p → l ≡ sets l₀ 0 (all_after one count at)
  filling_cut at count l₀ l i pos f e = rw (nil_of (count - i) pos e) at f.whole

-- ---- testing a list, one entry a turn; the tests go on behind an entry that fails

pub every-split : {A : Type 0} (ok : A → Bool) (x : A) (xs : List A) → every ok (x ∷ xs) ≡ true → (ok x ≡ true) × (every ok xs ≡ true)
unfolding every
every-split ok x xs e = (and_left (ok x) (every ok xs) e, and_right (ok x) (every ok xs) e)

pub record Checking {A : Type 0} (ok : A → Bool) (list : List A) (i : ℕ) (good : Bool) : Type 0 where
  pub upto : i ≤ length list
  pub left : good && every ok (drop i list) ≡ every ok list

module _ {A : Type 0} (ok : A → Bool) (list : List A) where
  pub checking_none : Checking ok list 0 true
  checking_none = record { upto = omega arith; left = refl }

  pub checking_end : (i : ℕ) {good : Bool} → Checking ok list i good → length list ≤ i → good ≡ every ok list
  unfolding every
  checking_end i {good} f h =
      let d : drop i list ≡ [] = drop_of_length-le list h in sym (rw d (and_true good)) ∙ f.left

  every-cons : (x : A) (xs : List A) → every ok (x ∷ xs) ≡ ok x && every ok xs
  unfolding every
  every-cons x xs = refl

  pub checking_more : (d : A) (i : ℕ) (v : A) {good b next : Bool} → Checking ok list i good → i < length list → v ≡ get_or list i d → b ≡ ok v → next ≡ good && b → Checking ok list (i + 1) next
  checking_more d i v {good} {b} f h ev eb en =
      let here : every ok (drop i list) ≡ b && every ok (drop (i + 1) list) =
      rw (drop-cons list i d h, ← ev, ← add-one i, every-cons v (drop (i + 1) list), ← eb)
      in
      record {
        upto = omega arith;
        left = rw en (and_assoc good b (every ok (drop (i + 1) list))) ∙ sym (ap (λ t. good && t) here) ∙ f.left;
      }

  -- the same in a `for` loop
  pub checking_next : (d : A) (i : ℕ) {good b : Bool} → Checking ok list i good → i < length list → b ≡ ok (get_or list i d) → Checking ok list (i + 1) (good && b)
  checking_next d i f h eb = checking_more d i (get_or list i d) f h refl eb refl

pub ruleset checkings = (checking_none, checking_more, checking_next, checking_end)
