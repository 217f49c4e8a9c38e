-- Marks laid along any sequence of places: what each colour's count is then, and which colours stay along one that goes round.
use Prim.Native.Nat.{ℕ, zero, suc, ◌+◌, ◌-◌, ◌<◌, min}
use mathlib.Core.Path.{◌≡◌, refl, sym, ◌∙◌, ap}
use mathlib.Core.Bool.{Bool, true, false, ◌||◌}
use mathlib.Core.List.{List, [], ◌∷◌}
use native.Mathlib.Nat.{not-suc-le-zero, le_of_suc-le-suc, suc-add}
use native.Mathlib.Decide.{dec_lt}
use native.Mathlib.Omega.{arith}
use lib.ListN.{length, get_or, set, length-set}
use lib.Seq.{drop-nil, set-get_or, get_or-set_same, get_or-set_other}
use lib.Dec.{eqb, eqb-zero-suc, eqb-suc-zero, eqb-suc-suc}
use borrow.Author.Tests.{eqb-true, eqb-false, eq-eqb, ne_eqb}
use Rattle.refusals.specs.Answers.{pick}
use Rattle.pixels.specs.Marks.{Mark, ink, gap, act}
use Rattle.balance.specs.Balance.{count, last_of, is_reached, elsewhere, inks, last_laid, coloured, kept}

-- a sequence of places from its second on
abbrev pub on : (ℕ → ℕ) → ℕ → ℕ
on f k = f (suc k)

-- the surface after marks at f 0, f 1, ..
unfoldable pub along : (ℕ → ℕ) → List Mark → List ℕ → List ℕ
along f [] s = s
along f (m ∷ ms) s = along (on f) ms (set s (f 0) (act m (get_or s (f 0) 0)))

-- ---- the bytes elsewhere

pub elsewhere-ext : (p q : ℕ → Bool) (s : List ℕ) → ((i : ℕ) → p i ≡ q i) → elsewhere p s ≡ elsewhere q s
unfolding elsewhere
elsewhere-ext p q [] e = refl
elsewhere-ext p q (x ∷ xs) e = rw (e 0, elsewhere-ext (λ i. p (suc i)) (λ i. q (suc i)) xs (λ i. e (suc i)))

elsewhere-all : (s : List ℕ) → elsewhere (λ i. false) s ≡ s
unfolding elsewhere
elsewhere-all [] = refl
elsewhere-all (x ∷ xs) = ap (λ (l : List ℕ). x ∷ l) (elsewhere-all xs)

-- a byte stored where the test holds is not among them
stored_there : (p : ℕ → Bool) (s : List ℕ) (i d : ℕ) → p i ≡ true → elsewhere p (set s i d) ≡ elsewhere p s
unfolding elsewhere
stored_there p [] i d e = refl
stored_there p (x ∷ xs) zero d e = rw e
stored_there p (x ∷ xs) (suc i) d e = rw (stored_there (λ j. p (suc j)) xs i d e)

count-pick : (c x k : ℕ) (ys zs : List ℕ) (b : Bool) → count c ys ≡ k + count c zs → count c (pick b ys (x ∷ ys)) ≡ k + count c (pick b zs (x ∷ zs))
unfolding count
count-pick c x k ys zs true h = h
count-pick c x k ys zs false h = omega arith

-- one stored where the test fails is: it stands for the byte that was there
stored-elsewhere : (c : ℕ) (p : ℕ → Bool) (s : List ℕ) (i d : ℕ) → i < length s → p i ≡ false
    → count c (elsewhere p (set s i d)) ≡ pick (eqb d c) 1 0 + count c (elsewhere (λ j. eqb i j || p j) s)
unfolding elsewhere count
stored-elsewhere c p [] i d l e = absurd (not-suc-le-zero l)
stored-elsewhere c p (x ∷ xs) zero d l e =
    rw (e, elsewhere-ext (λ j. eqb zero (suc j) || p (suc j)) (λ j. p (suc j)) xs (λ j. ap (λ (t : Bool). t || p (suc j)) (eqb-zero-suc j)))
stored-elsewhere c p (x ∷ xs) (suc i) d l e =
    rw (eqb-suc-zero i, elsewhere-ext (λ j. eqb (suc i) (suc j) || p (suc j)) (λ j. eqb i j || p (suc j)) xs (λ j. ap (λ (t : Bool). t || p (suc j)) (eqb-suc-suc i j)))
    (count-pick c x _ _ _ (p 0) (stored-elsewhere c (λ j. p (suc j)) xs i d (le_of_suc-le-suc l) e))

-- a test that holds at a is not changed by adding a
absorbed : (p : ℕ → Bool) (a i : ℕ) → p a ≡ true → (eqb a i || p i) ≡ p i
absorbed p a i h = go (eqb a i) refl
  where
    go : (b : Bool) → eqb a i ≡ b → (b || p i) ≡ p i
    go true e = sym h ∙ ap p (eqb-true a i e)
    go false e = refl

-- ---- the balance of any marks along any sequence of places: the colours that stay, and the bytes that no colour is laid on

pub balance_any : (c : ℕ) (ms : List Mark) (f : ℕ → ℕ) (s : List ℕ) → ((k : ℕ) → f k < length s)
    → count c (along f ms s) ≡ count c (kept f ms) + count c (elsewhere (coloured f ms) s)
unfolding along kept coloured count
balance_any c [] f s h = rw (elsewhere-all s) (omega arith)
balance_any c (gap ∷ ms) f s h = rw (set-get_or s (f 0) 0) (balance_any c ms (on f) s (λ k. h (suc k)))
balance_any c (ink d ∷ ms) f s h =
    go (coloured (on f) ms (f 0)) refl (balance_any c ms (on f) (set s (f 0) d) (λ k. rw (length-set s (f 0) d) (h (suc k))))
  where
    later : ℕ → Bool
    later i = coloured (on f) ms i

    go : (b : Bool) → later (f 0) ≡ b → count c (along (on f) ms (set s (f 0) d)) ≡ count c (kept (on f) ms) + count c (elsewhere later (set s (f 0) d))
        → count c (along (on f) ms (set s (f 0) d)) ≡ count c (pick b (kept (on f) ms) (d ∷ kept (on f) ms)) + count c (elsewhere (λ i. eqb (f 0) i || later i) s)
    go true e ih = rw (elsewhere-ext (λ i. eqb (f 0) i || later i) later s (λ i. absorbed later (f 0) i e), ← stored_there later s (f 0) d e) ih
    go false e ih = omega (arith, stored-elsewhere c later s (f 0) d (h 0) e)

-- ---- one place after marks along a sequence

stored_at : (s : List ℕ) (a i d : ℕ) → a < length s → get_or (set s a d) i 0 ≡ pick (eqb a i) d (get_or s i 0)
stored_at s a i d l = go (eqb a i) refl
  where
    go : (b : Bool) → eqb a i ≡ b → get_or (set s a d) i 0 ≡ pick b d (get_or s i 0)
    go true e = ap (λ (j : ℕ). get_or (set s a d) j 0) (sym (eqb-true a i e)) ∙ get_or-set_same s a d 0 l
    go false e = get_or-set_other s a i d 0 (λ q. eqb-false a i e (sym q))

-- it holds the last colour laid on it
pub along_last : (ms : List Mark) (f : ℕ → ℕ) (s : List ℕ) (i : ℕ) → ((k : ℕ) → f k < length s) → get_or (along f ms s) i 0 ≡ last_laid f ms i (get_or s i 0)
unfolding along last_laid
along_last [] f s i h = refl
along_last (gap ∷ ms) f s i h = rw (set-get_or s (f 0) 0) (along_last ms (on f) s i (λ k. h (suc k)))
along_last (ink d ∷ ms) f s i h =
    along_last ms (on f) (set s (f 0) d) i (λ k. rw (length-set s (f 0) d) (h (suc k))) ∙ ap (last_laid (on f) ms i) (stored_at s (f 0) i d (h 0))

-- one that the sequence does not have is as it was
pub along_other : (ms : List Mark) (f : ℕ → ℕ) (s : List ℕ) (i : ℕ) → ((k : ℕ) → f k ≡ i → ⊥) → get_or (along f ms s) i 0 ≡ get_or s i 0
unfolding along
along_other [] f s i h = refl
along_other (m ∷ ms) f s i h = along_other ms (on f) _ i (λ k. h (suc k)) ∙ get_or-set_other s (f 0) i (act m (get_or s (f 0) 0)) 0 (λ q. h 0 (sym q))

-- ---- marks that are all colours

pub coloured-inks : (f : ℕ → ℕ) (cs : List ℕ) (i : ℕ) → coloured f (inks cs) i ≡ is_reached f (length cs) i
unfolding coloured is_reached
coloured-inks f [] i = refl
coloured-inks f (c ∷ cs) i = ap (λ (b : Bool). eqb (f 0) i || b) (coloured-inks (on f) cs i)

reached_at : (f : ℕ → ℕ) (n k : ℕ) → k < n → is_reached f n (f k) ≡ true
unfolding is_reached
reached_at f zero k l = absurd (not-suc-le-zero l)
reached_at f (suc n) zero l = rw (eq-eqb (f 0) (f 0) refl)
reached_at f (suc n) (suc k) l = rw (reached_at (on f) n k (le_of_suc-le-suc l)) (or_true (eqb (f 0) (f (suc k))))
  where
    or_true : (b : Bool) → (b || true) ≡ true
    or_true true = refl
    or_true false = refl

reached_not : (f : ℕ → ℕ) (n i : ℕ) → ((k : ℕ) → k < n → f k ≡ i → ⊥) → is_reached f n i ≡ false
unfolding is_reached
reached_not f zero i h = refl
reached_not f (suc n) i h = rw (ne_eqb (f 0) i (h 0 (omega arith)), reached_not (on f) n i (λ k l. h (suc k) (omega arith)))

-- ---- a sequence that goes round: a places, each once in a round

pub record Round (a : ℕ) (f : ℕ → ℕ) : Type 0 where
  pub some : 0 < a
  pub again : (k : ℕ) → f (k + a) ≡ f k
  pub apart : (k d : ℕ) → 0 < d → d < a → f k ≡ f (k + d) → ⊥

round_on : {a : ℕ} {f : ℕ → ℕ} → Round a f → Round a (on f)
round_on {a} {f} r = record {
  some = r.some;
  again = λ k. ap f (sym (suc-add k a)) ∙ r.again (suc k);
  apart = λ k d l m e. r.apart (suc k) d l m (e ∙ ap f (sym (suc-add k d)));
}

-- along it the last of the colours stay, a round of them or all
pub kept-last : {a : ℕ} (cs : List ℕ) {f : ℕ → ℕ} → Round a f → kept f (inks cs) ≡ last_of (min (length cs) a) cs
unfolding kept
kept-last {a} [] r = sym (drop-nil (0 - min 0 a))
kept-last {a} (c ∷ cs) {f} r = go (dec_lt n a) (kept-last cs (round_on r))
  where
    n : ℕ
    n = length cs

    go : Dec (n < a) → kept (on f) (inks cs) ≡ last_of (min n a) cs
        → pick (coloured (on f) (inks cs) (f 0)) (kept (on f) (inks cs)) (c ∷ kept (on f) (inks cs)) ≡ last_of (min (suc n) a) (c ∷ cs)
    go (yes l) ih =
        let e : is_reached (on f) n (f 0) ≡ false = reached_not (on f) n (f 0) (λ k m q. r.apart 0 (suc k) (omega arith) (omega arith) (sym q ∙ ap f (omega arith))) in
        let z : suc n - min (suc n) a ≡ 0 = omega arith in
        let y : n - min n a ≡ 0 = omega arith in
        rw (coloured-inks (on f) cs (f 0), e, ih, z, y)
    go (no l) ih =
        let q : on f (a - 1) ≡ f 0 = ap f (omega (arith, r.some)) ∙ r.again 0 in
        let e : is_reached (on f) n (f 0) ≡ true = ap (is_reached (on f) n) (sym q) ∙ reached_at (on f) n (a - 1) (omega (arith, r.some)) in
        let z : suc n - min (suc n) a ≡ suc (n - min n a) = omega arith in
        rw (coloured-inks (on f) cs (f 0), e, ih, z)
