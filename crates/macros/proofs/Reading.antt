-- Entries at the front of bytes: what an entry is made of, and what is left of a store behind one.
use Prim.Native.Nat.{ℕ, zero, suc, ◌+◌, ◌-◌, ◌≤◌}
use mathlib.Core.Path.{◌≡◌, refl, sym, ◌∙◌, ap}
use mathlib.Core.Bool.{Bool, true, false, ◌&&◌}
use mathlib.Core.List.{List, [], ◌∷◌, ◌++◌}
use native.Mathlib.Omega.{arith}
use native.Mathlib.Numerals.{sub-one}
use borrow.Author.Tests.{leb-true, eq-eqb, ne_eqb}
use lib.Dec.{leb}
use lib.ListN.{length, drop, length-take, length-drop, length-append}
use lib.Seq.{drop-drop}
use Rattle.refusals.proofs.Cases.{and_left, and_right}
use Rattle.macros.specs.Store.{Entry, Layout, encoded, size_of, are_body, body_in, is_store_entry, front_entries, entries, keep, entry_size}
use Rattle.macros.proofs.Layouts.{Lawful}

-- ---- one entry

pub and_no : (b : Bool) → b && false ≡ false
and_no true = refl
and_no false = refl

-- what the test says
pub record Stands (L : Layout) (least : ℕ) (d : List ℕ) : Type 0 where
  pub some : 1 ≤ L.length_in d
  pub most : L.length_in d ≤ L.longest
  pub whole : L.size + L.length_in d ≤ length d
  pub spare : L.spare_zero d ≡ true
  pub rising : least ≤ L.number_in d
  pub body : are_body (body_in L d) ≡ true

pub stands : (L : Layout) (least : ℕ) (d : List ℕ) → is_store_entry L least d ≡ true → Stands L least d
unfolding is_store_entry
stands L least d e =
    let e₁ = and_right (leb L.size (length d)) _ e in
    let e₂ = and_right (leb 1 (L.length_in d)) _ e₁ in
    let e₃ = and_right (leb (L.length_in d) L.longest) _ e₂ in
    let e₄ = and_right (leb (L.size + L.length_in d) (length d)) _ e₃ in
    let e₅ = and_right (L.spare_zero d) _ e₄ in
    record {
      some = leb-true _ _ (and_left (leb 1 (L.length_in d)) _ e₁);
      most = leb-true _ _ (and_left (leb (L.length_in d) L.longest) _ e₂);
      whole = leb-true _ _ (and_left (leb (L.size + L.length_in d) (length d)) _ e₃);
      spare = and_left (L.spare_zero d) _ e₄;
      rising = leb-true _ _ (and_left (leb least (L.number_in d)) (are_body (body_in L d)) e₅);
      body = and_right (leb least (L.number_in d)) (are_body (body_in L d)) e₅;
    }

pub body-long : (L : Layout) (least : ℕ) (d : List ℕ) → is_store_entry L least d ≡ true → length (body_in L d) ≡ L.length_in d
body-long L least d e = let y = stands L least d e in simp (length-take, length-drop) (omega (arith, y.whole))

-- ---- entries one behind the other

abbrev pub entry_in : Layout → List ℕ → Entry
entry_in L d = record { number = L.number_in d; body = body_in L d }

abbrev pub behind : Layout → List ℕ → List ℕ
behind L d = drop (L.size + L.length_in d) d

module _ (L : Layout) where
  pub first_entry : (k least : ℕ) (d : List ℕ) → 1 ≤ k → is_store_entry L least d ≡ true → front_entries L k least d ≡ entry_in L d ∷ front_entries L (k - 1) (L.number_in d + 1) (behind L d)
  unfolding front_entries
  first_entry zero least d h e = absurd (omega arith)
  first_entry (suc k) least d h e = simp (e, sub-one)

  pub no_entry : (k least : ℕ) (d : List ℕ) → is_store_entry L least d ≡ false → front_entries L k least d ≡ []
  unfolding front_entries
  no_entry zero least d e = refl
  no_entry (suc k) least d e = simp e

  -- entries that may be more than there are bytes are all of them
  pub enough : (k j least : ℕ) (d : List ℕ) → length d ≤ k → length d ≤ j → front_entries L k least d ≡ front_entries L j least d
  enough zero j least d h g = go (is_store_entry L least d) refl
    where
      go : (t : Bool) → is_store_entry L least d ≡ t → front_entries L zero least d ≡ front_entries L j least d
      go true q = let y = stands L least d q in absurd (omega (arith, y.some, y.whole))
      go false q = no_entry zero least d q ∙ sym (no_entry j least d q)
  enough (suc k) j least d h g = go (is_store_entry L least d) refl (λ d'. enough k (j - 1) (L.number_in d + 1) d')
    where
      go : (t : Bool) → is_store_entry L least d ≡ t → ((d' : List ℕ) → length d' ≤ k → length d' ≤ j - 1 → front_entries L k (L.number_in d + 1) d' ≡ front_entries L (j - 1) (L.number_in d + 1) d')
          → front_entries L (suc k) least d ≡ front_entries L j least d
      go true q again =
          let y = stands L least d q in
          let l : length (behind L d) ≡ length d - (L.size + L.length_in d) = length-drop (L.size + L.length_in d) d in
          let k' : suc k - 1 ≡ k = omega arith in
          first_entry (suc k) least d (omega arith) q
          ∙ ap (λ (n : ℕ). entry_in L d ∷ front_entries L n (L.number_in d + 1) (behind L d)) k'
          ∙ ap (λ (l : List Entry). entry_in L d ∷ l) (again (behind L d) (omega (arith, l, y.some, y.whole)) (omega (arith, l, y.some, y.whole)))
          ∙ sym (first_entry j least d (omega (arith, y.some, y.whole)) q)
      go false q again = no_entry (suc k) least d q ∙ sym (no_entry j least d q)

  -- what is left of a store's entries at a place, with the least number that the next may have
  unfoldable pub rest_from : List ℕ → (at least : ℕ) → List Entry
  rest_from s at least = front_entries L (length s) least (drop at s)

  pub rest_all : (s : List ℕ) → rest_from s 0 0 ≡ entries L s
  unfolding rest_from
  rest_all s = refl

  pub rest_none : (s : List ℕ) (at least : ℕ) → is_store_entry L least (drop at s) ≡ false → rest_from s at least ≡ []
  unfolding rest_from
  rest_none s at least e = no_entry (length s) least (drop at s) e

  pub rest_one : (s : List ℕ) (at least : ℕ) → is_store_entry L least (drop at s) ≡ true
      → rest_from s at least ≡ entry_in L (drop at s) ∷ rest_from s (at + L.size + L.length_in (drop at s)) (L.number_in (drop at s) + 1)
  unfolding rest_from
  rest_one s at least e =
      let d : List ℕ = drop at s in
      let y = stands L least d e in
      let l : length d ≡ length s - at = length-drop at s in
      let m : length (behind L d) ≡ length d - (L.size + L.length_in d) = length-drop (L.size + L.length_in d) d in
      let p : at + (L.size + L.length_in d) ≡ at + L.size + L.length_in d = omega arith in
      first_entry (length s) least d (omega (arith, l, y.some, y.whole)) e
      ∙ ap (λ (es : List Entry). entry_in L d ∷ es) (enough (length s - 1) (length s) (L.number_in d + 1) (behind L d) (omega (arith, l, m, y.some, y.whole)) (omega (arith, l, m)))
      ∙ ap (λ (r : List ℕ). entry_in L d ∷ front_entries L (length s) (L.number_in d + 1) r) (drop-drop (L.size + L.length_in d) at s ∙ ap (λ (i : ℕ). drop i s) p)

-- ---- the bytes of entries

module _ (L : Layout) (lawful : Lawful L) where
  pub size-cons : (e : Entry) (es : List Entry) → size_of L (e ∷ es) ≡ L.size + length e.body + size_of L es
  unfolding encoded
  size-cons e es =
      length-append (L.pack e.number (length e.body)) (e.body ++ encoded L es)
      ∙ omega (arith, lawful.sized e.number (length e.body), length-append e.body (encoded L es))

pub size-nil : (L : Layout) → size_of L [] ≡ 0
unfolding encoded
size-nil L = refl

-- ---- the room of an entry

module _ (L : Layout) (count : ℕ) where
  pub room-none : count ≡ 0 → 0 ≡ entry_size L count
  unfolding entry_size
  room-none e = rw (eq-eqb count 0 e)

  pub room-some : {size : ℕ} → size ≡ L.size → (count ≡ 0 → ⊥) → size + count ≡ entry_size L count
  unfolding entry_size
  room-some e h = rw (ne_eqb count 0 h, e)

  pub room-header : {size : ℕ} (at n : ℕ) → size ≡ L.size → (count ≡ 0 → ⊥) → at + entry_size L count ≤ n → at + size ≤ n
  room-header at n e h g = omega (arith, room-some e h, g)

-- ---- entries by their numbers

pub keep-yes : (p : ℕ → Bool) (e : Entry) (es : List Entry) → p e.number ≡ true → keep p (e ∷ es) ≡ e ∷ keep p es
unfolding keep
keep-yes p e es h = simp h

pub keep-no : (p : ℕ → Bool) (e : Entry) (es : List Entry) → p e.number ≡ false → keep p (e ∷ es) ≡ keep p es
unfolding keep
keep-no p e es h = simp h

pub keep-nil : (p : ℕ → Bool) → keep p [] ≡ []
unfolding keep
keep-nil p = refl
