-- Where a body stands in the bytes of a store: behind the entries below its number, and its header.
use Prim.Native.Nat.{ℕ, zero, suc, ◌+◌, ◌≤◌, ◌<◌}
use mathlib.Core.Path.{◌≡◌, refl, sym, ◌∙◌, ap}
use mathlib.Core.Bool.{Bool, true, false, ◌&&◌}
use mathlib.Core.List.{List, [], ◌∷◌}
use native.Mathlib.Omega.{arith}
use borrow.Author.Tests.{le-ltb, lt-ltb, eq-eqb, ne_eqb, eqb-true, eqb-false, leb-true, leb-false, ltb-true, ltb-false}
use lib.Arith.{lt_of_le-ne}
use lib.Dec.{leb, ltb, eqb}
use lib.ListN.{length, take, drop, length-take, length-drop}
use lib.Seq.{drop-drop}
use lib.IntN.{ℤ, nat_abs}
use Rattle.refusals.proofs.Cases.{by_pick}
use Rattle.refusals.proofs.Numbers.{met}
use Rattle.macros.specs.Store.{Entry, Layout, size_of, body_in, is_store_entry, front_entries, entries, well_formed, keep, below, is_macro_number, body_of, or_else, body_in_either, look_refusal, find_refusal, looked_up, Placed, placed, store_named, bytes_placed, entry_size}
use Rattle.macros.proofs.Layouts.{Lawful}
use Rattle.macros.proofs.Reading.{stands, body-long, entry_in, behind, size-cons, size-nil, keep-yes, keep-no, keep-nil}

-- ---- the body of a macro in a list of entries

pub this_one : (n : ℕ) (e : Entry) (es : List Entry) → e.number ≡ n → body_of n (e ∷ es) ≡ e.body
unfolding body_of
this_one n e es h = simp (eq-eqb e.number n h)

pub another : (n : ℕ) (e : Entry) (es : List Entry) → (e.number ≡ n → ⊥) → body_of n (e ∷ es) ≡ body_of n es
unfolding body_of
another n e es h = simp (ne_eqb e.number n h)

-- entries from a number on have none below it
module _ (L : Layout) (n : ℕ) where
  pub none_low : (k least : ℕ) (d : List ℕ) → n ≤ least → below n (front_entries L k least d) ≡ []
  unfolding front_entries keep
  none_low zero least d h = refl
  none_low (suc k) least d h =
      by_pick (λ (es : List Entry). below n es ≡ []) (is_store_entry L least d) _ _
      (λ q.
      let y = stands L least d q in
      simp (le-ltb (L.number_in d) n (omega (arith, y.rising))) (none_low k (L.number_in d + 1) (behind L d) (omega (arith, y.rising))))
      (λ q. refl)

  pub low_absent : (k least : ℕ) (d : List ℕ) → n < least → body_of n (front_entries L k least d) ≡ []
  unfolding front_entries body_of
  low_absent zero least d h = refl
  low_absent (suc k) least d h =
      by_pick (λ (es : List Entry). body_of n es ≡ []) (is_store_entry L least d) _ _
      (λ q.
      let y = stands L least d q in
      simp (ne_eqb (L.number_in d) n (λ e. omega (arith, e, h, y.rising))) (low_absent k (L.number_in d + 1) (behind L d) (omega (arith, h, y.rising))))
      (λ q. refl)

-- ---- its place in the bytes

module _ (L : Layout) (lawful : Lawful L) (n : ℕ) where
  -- it stands behind the entries below the number and its header; with the header it is what lies between those and the entries up to the number
  pub record Stand (es : List Entry) (d : List ℕ) : Type 0 where
    pub there : take (length (body_of n es)) (drop (size_of L (below n es) + L.size) d) ≡ body_of n es
    pub room : size_of L (below (n + 1) es) ≡ size_of L (below n es) + entry_size L (length (body_of n es))

  stand-none : (es : List Entry) (d : List ℕ) → body_of n es ≡ [] → below n es ≡ [] → below (n + 1) es ≡ [] → Stand es d
  unfolding entry_size
  stand-none es d b x y = record { there = rw b; room = rw (b, x, y) (omega (arith, size-nil L)) }

  module _ (least : ℕ) (d : List ℕ) (q : is_store_entry L least d ≡ true) (es : List Entry) where
    abbrev first : Entry
    first = entry_in L d

    size-first : (fs : List Entry) → size_of L (first ∷ fs) ≡ L.size + L.length_in d + size_of L fs
    size-first fs = size-cons L lawful first fs ∙ omega (arith, body-long L least d q)

    stand-this : L.number_in d ≡ n → below n es ≡ [] → below (n + 1) es ≡ [] → Stand (first ∷ es) d
    unfolding entry_size
    stand-this e x y =
        let b : body_of n (first ∷ es) ≡ body_in L d = this_one n first es e in
        let l : length (body_in L d) ≡ L.length_in d = body-long L least d q in
        let s = stands L least d q in
        let low : size_of L (below n (first ∷ es)) ≡ 0 = ap (size_of L) (keep-no _ first es (le-ltb (L.number_in d) n (omega (arith, e))) ∙ x) ∙ size-nil L in
        let upto : size_of L (below (n + 1) (first ∷ es)) ≡ L.size + L.length_in d
        = ap (size_of L) (keep-yes _ first es (lt-ltb (L.number_in d) (n + 1) (omega (arith, e))) ∙ ap (λ (l : List Entry). first ∷ l) y) ∙ size-first [] ∙ omega (arith, size-nil L) in
        let at : size_of L (below n (first ∷ es)) + L.size ≡ L.size = omega (arith, low) in
        record {
          there = rw (b, at, l);
          room = rw (b, low, upto, l, ne_eqb (L.length_in d) 0 (λ z. omega (arith, z, s.some))) (omega arith);
        }

    stand-on : L.number_in d < n → Stand es (behind L d) → Stand (first ∷ es) d
    stand-on h st =
        let b : body_of n (first ∷ es) ≡ body_of n es = another n first es (λ e. omega (arith, e, h)) in
        let low : size_of L (below n (first ∷ es)) ≡ L.size + L.length_in d + size_of L (below n es)
        = ap (size_of L) (keep-yes _ first es (lt-ltb (L.number_in d) n h)) ∙ size-first (below n es) in
        let upto : size_of L (below (n + 1) (first ∷ es)) ≡ L.size + L.length_in d + size_of L (below (n + 1) es)
        = ap (size_of L) (keep-yes _ first es (lt-ltb (L.number_in d) (n + 1) (omega (arith, h)))) ∙ size-first (below (n + 1) es) in
        let at : size_of L (below n (first ∷ es)) + L.size ≡ L.size + L.length_in d + (size_of L (below n es) + L.size) = omega (arith, low) in
        record {
          there = rw (b, at, ← drop-drop (size_of L (below n es) + L.size) (L.size + L.length_in d) d) st.there;
          room = rw b (omega (arith, low, upto, st.room));
        }

  stand-empty : (d : List ℕ) → Stand [] d
  unfolding body_of
  stand-empty d = stand-none [] d refl (keep-nil _) (keep-nil _)

  -- an entry and those behind it, by its number
  module _ (k least : ℕ) (d : List ℕ) (q : is_store_entry L least d ≡ true) where
    abbrev rest : List Entry
    rest = front_entries L k (L.number_in d + 1) (behind L d)

    none_left : (m : ℕ) → m ≤ L.number_in d + 1 → below m rest ≡ []
    none_left m h = none_low L m k (L.number_in d + 1) (behind L d) h

    stand-absent : n < L.number_in d → Stand (entry_in L d ∷ rest) d
    stand-absent h =
        stand-none (entry_in L d ∷ rest) d
        (another n (entry_in L d) rest (λ e. omega (arith, e, h)) ∙ low_absent L n k (L.number_in d + 1) (behind L d) (omega (arith, h)))
        (keep-no _ (entry_in L d) rest (le-ltb (L.number_in d) n (omega (arith, h))) ∙ none_left n (omega (arith, h)))
        (keep-no _ (entry_in L d) rest (le-ltb (L.number_in d) (n + 1) (omega (arith, h))) ∙ none_left (n + 1) (omega (arith, h)))

    stand-first : Stand rest (behind L d) → Stand (entry_in L d ∷ rest) d
    stand-first st = go (eqb (L.number_in d) n) (ltb (L.number_in d) n) refl refl
      where
        go : (a b : Bool) → eqb (L.number_in d) n ≡ a → ltb (L.number_in d) n ≡ b → Stand (entry_in L d ∷ rest) d
        go true b ea eb = let e = eqb-true (L.number_in d) n ea in stand-this least d q rest e (none_left n (omega (arith, e))) (none_left (n + 1) (omega (arith, e)))
        go false true ea eb = stand-on least d q rest (ltb-true (L.number_in d) n eb) st
        go false false ea eb = stand-absent (lt_of_le-ne (ltb-false (L.number_in d) n eb) (λ e. eqb-false (L.number_in d) n ea (sym e)))

  stand-from : (k least : ℕ) (d : List ℕ) → Stand (front_entries L k least d) d
  unfolding front_entries
  stand-from zero least d = stand-empty d
  stand-from (suc k) least d =
      by_pick (λ (es : List Entry). Stand es d) (is_store_entry L least d) _ _
      (λ q. stand-first k least d q (stand-from k (L.number_in d + 1) (behind L d)))
      (λ q. stand-empty d)

  pub stand : (s : List ℕ) → Stand (entries L s) s
  stand s = stand-from (length s) 0 s

  -- a body that is there lies within the store
  pub body-inside : (s : List ℕ) → 1 ≤ length (body_of n (entries L s)) → size_of L (below n (entries L s)) + L.size + length (body_of n (entries L s)) ≤ length s
  body-inside s h =
      let at = size_of L (below n (entries L s)) + L.size in
      let long = length (body_of n (entries L s)) in
      omega (arith, h, ap length (stand s).there, length-take long (drop at s), length-drop at s)

-- ---- what is located is what is looked up

pub either_first : (a b : List ℕ) → leb 1 (length a) ≡ true → or_else a b ≡ a
either_first [] b t = absurd (omega (arith, leb-true 1 0 t))
either_first (x ∷ a) b t = refl

pub either_second : (a b : List ℕ) → leb 1 (length a) ≡ false → or_else a b ≡ b
either_second [] b t = refl
either_second (x ∷ a) b t = absurd (omega (arith, leb-false 1 (length (x ∷ a)) t))

module _ (L : Layout) (v s : List ℕ) (n : ℤ) where
  pub placed-number : (placed L v s n).number ≡ find_refusal L v s n
  unfolding placed
  placed-number =
      by_pick (λ (x : Placed). x.number ≡ find_refusal L v s n) (eqb (find_refusal L v s n) 0) _ _
      (λ t. by_pick (λ (x : Placed). x.number ≡ find_refusal L v s n) (leb 1 (length (body_of (nat_abs n) (entries L v)))) _ _ (λ u. sym (eqb-true (find_refusal L v s n) 0 t)) (λ u. sym (eqb-true (find_refusal L v s n) 0 t)))
      (λ t. refl)

  looked_some : eqb (find_refusal L v s n) 0 ≡ true → looked_up L v s n ≡ or_else (body_of (nat_abs n) (entries L v)) (body_of (nat_abs n) (entries L s))
  unfolding looked_up body_in_either
  looked_some t = rw t

  pub looked_none : eqb (find_refusal L v s n) 0 ≡ false → looked_up L v s n ≡ []
  unfolding looked_up
  looked_none t = rw t

  pub there_is : eqb (find_refusal L v s n) 0 ≡ true → leb 1 (length (body_in_either L v s (nat_abs n))) ≡ true
  unfolding find_refusal look_refusal
  there_is t =
      let a = met (well_formed L v && well_formed L s) 12 _ (λ q. omega (arith, q)) (eqb-true (find_refusal L v s n) 0 t) in
      let b = met (is_macro_number n) 8 _ (λ q. omega (arith, q)) a.1 in
      (met (leb 1 (length (body_in_either L v s (nat_abs n)))) 14 0 (λ q. omega (arith, q)) b.1).0

  module _ (lawful : Lawful L) where
    -- the part of the store that is named
    pub located-part : bytes_placed (placed L v s n) v s ≡ looked_up L v s n
    unfolding placed
    located-part =
        by_pick (λ (x : Placed). bytes_placed x v s ≡ looked_up L v s n) (eqb (find_refusal L v s n) 0) _ _
        (λ t.
        by_pick (λ (x : Placed). bytes_placed x v s ≡ looked_up L v s n) (leb 1 (length (body_of (nat_abs n) (entries L v)))) _ _
        (λ u. (stand L lawful (nat_abs n) v).there ∙ sym (looked_some t ∙ either_first (body_of (nat_abs n) (entries L v)) _ u))
        (λ u. (stand L lawful (nat_abs n) s).there ∙ sym (looked_some t ∙ either_second (body_of (nat_abs n) (entries L v)) _ u)))
        (λ t. sym (looked_none t))

    -- which lies within it
    pub located-inside : (placed L v s n).offset + (placed L v s n).long ≤ length (store_named (placed L v s n) v s)
    unfolding placed body_in_either
    located-inside =
        by_pick (λ (x : Placed). x.offset + x.long ≤ length (store_named x v s)) (eqb (find_refusal L v s n) 0) _ _
        (λ t.
        by_pick (λ (x : Placed). x.offset + x.long ≤ length (store_named x v s)) (leb 1 (length (body_of (nat_abs n) (entries L v)))) _ _
        (λ u. body-inside L lawful (nat_abs n) v (leb-true 1 _ u))
        (λ u. body-inside L lawful (nat_abs n) s (leb-true 1 _ (ap (λ (b : List ℕ). leb 1 (length b)) (sym (either_second (body_of (nat_abs n) (entries L v)) _ u)) ∙ there_is t))))
        (λ t. omega arith)
