-- Decimal digits and numbers, by what the code pours for them.
use Prim.Native.Nat.{ℕ, zero, suc, ◌+◌, ◌*◌, ◌/◌, ◌%◌, ◌^◌, ◌≤◌, ◌<◌}
use mathlib.Core.Path.{◌≡◌, refl, sym, ◌∙◌, ap}
use mathlib.Core.Bool.{Bool, true, false}
use mathlib.Core.List.{List, [], ◌∷◌, ◌++◌, append_assoc, append-nil}
use native.Mathlib.Omega.{arith}
use native.Mathlib.Numerals.{add-one}
use borrow.Author.Tests.{lt-ltb, le-ltb, ltb-false}
use lib.Dec.{ltb}
use lib.ListN.{length, get_or, take}
use lib.Seq.{take-suc, take_all}
use lib.IntN.{ℤ, pos, negsuc, nat_abs}
use mir.Syntax.{w32}
use mir.Val.{SFits, to_z, of_z}
use mir.Facts.{to_z-of_z}
use Rattle.refusals.specs.Answers.{pick}
use Rattle.signs.specs.Signs.{is_negative}
use Rattle.refusals.proofs.Cases.{zero_one}
use Rattle.lines.specs.Decimals.{digits_of, decimal, field, fields}
use Rattle.lines.specs.Pouring.{Put}
use Rattle.lines.proofs.Pours.{poured_none, poured_both}

-- fuel enough is fuel enough
abbrev with_last : ℕ → List ℕ → List ℕ
with_last n w = w ++ ((48 + n % 10) ∷ [])

same_from : (n : ℕ) (v w : List ℕ) (b : Bool) → (b ≡ false → v ≡ w) → pick b ((48 + n) ∷ []) (with_last n v) ≡ pick b ((48 + n) ∷ []) (with_last n w)
same_from n v w true h = refl
same_from n v w false h = ap (with_last n) (h refl)

tenth : (j n : ℕ) → n < suc j → ltb n 10 ≡ false → n / 10 < j
tenth j n p e = let h : 10 ≤ n = ltb-false n 10 e in omega arith

same_digits : (j k n : ℕ) → n < j → n < k → digits_of j n ≡ digits_of k n
unfolding digits_of
same_digits (suc j) (suc k) n p q =
    same_from n (digits_of j (n / 10)) (digits_of k (n / 10)) (ltb n 10) (λ e. same_digits j k (n / 10) (tenth j n p e) (tenth k n q e))
same_digits zero k n p q = absurd (zero_one (omega arith))
same_digits (suc j) zero n p q = absurd (zero_one (omega arith))

decimal_one : (n : ℕ) → n < 10 → decimal n ≡ (48 + n % 10) ∷ []
unfolding decimal digits_of
decimal_one n h = let e : n % 10 ≡ n = omega arith in rw (e, lt-ltb n 10 h)

decimal_more : (n : ℕ) → 10 ≤ n → decimal n ≡ decimal (n / 10) ++ ((48 + n % 10) ∷ [])
unfolding decimal digits_of
decimal_more n h =
    let e : digits_of n (n / 10) ≡ digits_of (suc (n / 10)) (n / 10) = same_digits n (suc (n / 10)) (n / 10) (omega arith) (omega arith) in
    rw (le-ltb n 10 h) (ap (with_last n) e)

pub poured_digit : {l o : List ℕ} {at r : ℕ} (n : ℕ) → n < 10 → Put l at ((48 + n % 10) ∷ []) r o → Put l at (decimal n) r o
poured_digit n h p = rw (decimal_one n h) p

pub poured_digits : {l m o : List ℕ} {at k r : ℕ} (n : ℕ) → 10 ≤ n → Put m k ((48 + n % 10) ∷ []) r o → Put l at (decimal (n / 10)) k m → Put l at (decimal n) r o
poured_digits n h q p = rw (decimal_more n h) (poured_both q p)

pub ruleset digits = (poured_digit, poured_digits)

-- ---- a number behind a blank

module _ {l m o : List ℕ} {at k r : ℕ} (blank : Put l at (32 ∷ []) k m) where
  natural : (v : ℤ) → is_negative v ≡ false → Put m k (decimal (nat_abs v)) r o → Put l at (field v) r o
  unfolding field
  natural (pos n) e q = poured_both q blank
  natural (negsuc n) e q = let z : ◌≡◌ {A = ℕ} 0 1 = cc in absurd (zero_one z)

  negative : {h : List ℕ} {j : ℕ} (v : ℤ) → is_negative v ≡ true → Put m k (45 ∷ []) j h → Put h j (decimal (nat_abs v)) r o → Put l at (field v) r o
  unfolding field
  negative (pos n) e p q = let z : ◌≡◌ {A = ℕ} 0 1 = cc in absurd (zero_one z)
  negative (negsuc n) e p q = poured_both q (poured_both p blank)

module _ (v : ℤ) (f : SFits w32 v) {s : ℕ} {t : Bool} (es : s ≡ nat_abs (to_z w32 (of_z w32 v))) (et : t ≡ is_negative (to_z w32 (of_z w32 v))) where
  pub poured_plain : {l m o : List ℕ} {at k r : ℕ} → t ≡ false → Put l at (32 ∷ []) k m → Put m k (decimal s) r o → Put l at (field v) r o
  poured_plain e b q =
      let size : s ≡ nat_abs v = rw (to_z-of_z f) at es in
      let sign : t ≡ is_negative v = rw (to_z-of_z f) at et in
      natural b v (sym sign ∙ e) (rw size at q)

  pub poured_minus : {l m h o : List ℕ} {at k j r : ℕ} → t ≡ true → Put l at (32 ∷ []) k m → Put m k (45 ∷ []) j h → Put h j (decimal s) r o → Put l at (field v) r o
  poured_minus e b p q =
      let size : s ≡ nat_abs v = rw (to_z-of_z f) at es in
      let sign : t ≡ is_negative v = rw (to_z-of_z f) at et in
      negative b v (sym sign ∙ e) p (rw size at q)

pub ruleset singles = (poured_plain, poured_minus)

-- ---- many numbers: those passed have been poured

pub record Pouring (list : List ℤ) (l₀ : List ℕ) (at : ℕ) (l : List ℕ) (n i : ℕ) : Type 0 where
  pub upto : i ≤ length list
  pub passed : Put l₀ at (fields (take i list)) n l

pub pouring_none : (list : List ℤ) (l : List ℕ) (at : ℕ) → length l * 1 < 2 ^ 63 → Pouring list l at l at 0
unfolding fields
pouring_none list l at h = record { upto = omega arith; passed = poured_none l at h }

one_more : (vs : List ℤ) (v : ℤ) → fields (vs ++ (v ∷ [])) ≡ fields vs ++ field v
unfolding fields
one_more [] v = append-nil (field v)
one_more (x ∷ vs) v = rw (one_more vs v) (sym (append_assoc (field x) (fields vs) (field v)))

pub pouring_more : (list : List ℤ) {l₀ l o : List ℕ} {at n k : ℕ} (i : ℕ) (x : ℤ) → Pouring list l₀ at l n i → i < length list → x ≡ get_or list i (pos 0) → Put l n (field x) k o → Pouring list l₀ at o k (i + 1)
pouring_more list i x f h e p =
    let d : take (i + 1) list ≡ take i list ++ (x ∷ []) = rw (add-one i, e) (take-suc list i (pos 0) h) in
    record { upto = omega arith; passed = rw (d, one_more (take i list) x) (poured_both p f.passed) }

-- the same in a `for` loop, where the entry comes back from the callee's contract as the machine reads it
pub pouring_next : (list : List ℤ) {l₀ l o : List ℕ} {at n k : ℕ} (i : ℕ) → Pouring list l₀ at l n i → i < length list → SFits w32 (get_or list i (pos 0)) → Put l n (field (to_z w32 (of_z w32 (get_or list i (pos 0))))) k o → Pouring list l₀ at o k (i + 1)
pouring_next list i f h fits p = pouring_more list i _ f h (to_z-of_z fits) p

pub pouring_end : (list : List ℤ) {l₀ l : List ℕ} {at n : ℕ} (i : ℕ) → Pouring list l₀ at l n i → length list ≤ i → Put l₀ at (fields list) n l
pouring_end list i f h = let d : take i list ≡ list = take_all i list h in rw d at f.passed

pub ruleset many = (pouring_none, pouring_next, pouring_end)
