-- What an accepted define leaves, over any layout that is lawful.
use Prim.Native.Nat.{ℕ, ◌≤◌}
use mathlib.Core.Path.{◌≡◌, refl, sym, ◌∙◌, ap}
use mathlib.Core.Bool.{true, ◌&&◌}
use mathlib.Core.List.{List, [], ◌∷◌, map}
use native.Mathlib.Omega.{arith}
use borrow.Author.Tests.{le-leb, leb-true}
use lib.Dec.{leb}
use lib.ListN.{length, length-map}
use lib.IntN.{ℤ, nat_abs}
use Rattle.refusals.specs.Answers.{every}
use Rattle.refusals.proofs.Cases.{and_left, and_right}
use Rattle.refusals.proofs.Numbers.{met}
use Rattle.ranges.specs.Ranges.{within}
use Rattle.ranges.proofs.Entries.{within-range}
use Rattle.macros.specs.Store.{Layout, size_of, stored, are_body, entries, well_formed, Rising, body_of, is_macro_number, or_else, looked_up}
use Rattle.macros.specs.Fronts.{Bytes}
use Rattle.macros.proofs.Layouts.{Lawful}
use Rattle.macros.proofs.Listing.{entries-rising, size-inside, stored-long, formed-stored}
use Rattle.macros.proofs.StoreLaws.{Holds, holds_formed, holds_entries, looked_alike, looked_so}
use Rattle.defining.specs.Defining.{may_define, entries_after, before_room, define_refusal, store_after}
use Rattle.defining.proofs.Putting.{put-rising, put-nothing, put-found, put-others}

-- ---- an accepted define

contents_body : (cs : List ℤ) → every (within 0 127) cs ≡ true → are_body (map nat_abs cs) ≡ true
unfolding every
contents_body [] e = refl
contents_body (c ∷ cs) e =
    let h : nat_abs c ≤ 127 = (within-range 0 127 c (and_left (within 0 127 c) (every (within 0 127) cs) e)).1.0 in
    simp (le-leb (nat_abs c) 127 h) (contents_body cs (and_right (within 0 127 c) (every (within 0 127) cs) e))

module _ (L : Layout) (s : List ℕ) (n : ℤ) (cs : List ℤ) (done : define_refusal L s n cs ≡ 0) where
  tests : (well_formed L s ≡ true) × ((may_define L n cs ≡ true) × (leb (size_of L (entries_after L s n cs)) (length s) ≡ true))
  unfolding define_refusal before_room
  tests =
      let a = met (well_formed L s) 12 _ (λ q. omega (arith, q)) done in
      let b = met (may_define L n cs) 8 _ (λ q. omega (arith, q)) a.1 in
      (a.0, (b.0, (met (leb (size_of L (entries_after L s n cs)) (length s)) 13 0 (λ q. omega (arith, q)) b.1).0))

  pub formed-before : well_formed L s ≡ true
  formed-before = tests.0

  new_fits : size_of L (entries_after L s n cs) ≤ length s
  new_fits = leb-true _ _ tests.1.1

  after_is : store_after L s n cs ≡ stored L (length s) (entries_after L s n cs)
  unfolding store_after
  after_is = rw done

  module _ (lawful : Lawful L) (bytes : Bytes s) where
    new_rising : Rising L 0 (entries_after L s n cs)
    unfolding may_define
    new_rising =
        let ok = tests.1.0 in
        let ok₁ = and_right (is_macro_number n) (leb (length cs) L.longest && every (within 0 127) cs) ok in
        put-rising L (nat_abs n) (map nat_abs cs)
        (within-range 0 32767 n (and_left (is_macro_number n) (leb (length cs) L.longest && every (within 0 127) cs) ok)).1.0
        (omega (arith, length-map cs nat_abs, leb-true (length cs) L.longest (and_left (leb (length cs) L.longest) (every (within 0 127) cs) ok₁)))
        (contents_body cs (and_right (leb (length cs) L.longest) (every (within 0 127) cs) ok₁))
        (entries L s)
        (entries-rising L lawful s bytes)

    pub long_after : length (store_after L s n cs) ≡ length s
    long_after = ap length after_is ∙ stored-long L lawful (length s) (entries_after L s n cs) new_fits

    -- leaves a store that holds the new entries
    pub holds_after : Holds L (store_after L s n cs) (entries_after L s n cs)
    holds_after = record {
      rising = new_rising;
      fit = omega (arith, long_after, new_fits);
      is = after_is ∙ ap (λ (k : ℕ). stored L k (entries_after L s n cs)) (sym long_after);
    }

    pub formed-after : well_formed L (store_after L s n cs) ≡ true
    formed-after = holds_formed L lawful (store_after L s n cs) (entries_after L s n cs) holds_after

    pub entries-after : entries L (store_after L s n cs) ≡ entries_after L s n cs
    entries-after = holds_entries L lawful (store_after L s n cs) (entries_after L s n cs) holds_after

    -- the macro has the new body, and every other the one that it had
    pub body-after : body_of (nat_abs n) (entries L (store_after L s n cs)) ≡ map nat_abs cs
    body-after = ap (body_of (nat_abs n)) entries-after ∙ put-found (nat_abs n) (map nat_abs cs) (entries L s)

    pub others-after : (m : ℕ) → (nat_abs n ≡ m → ⊥) → body_of m (entries L (store_after L s n cs)) ≡ body_of m (entries L s)
    others-after m h = ap (body_of m) entries-after ∙ put-others m (nat_abs n) (map nat_abs cs) (entries L s) h

-- "deleting what isn't there is done and changes nothing"
module _ (L : Layout) (lawful : Lawful L) (s : List ℕ) (n : ℤ) (bytes : Bytes s) (formed : well_formed L s ≡ true) (number : is_macro_number n ≡ true) (absent : body_of (nat_abs n) (entries L s) ≡ []) where
  same_entries : entries_after L s n [] ≡ entries L s
  same_entries = put-nothing L (nat_abs n) 0 (entries L s) (entries-rising L lawful s bytes) absent

  pub deleted_nothing : define_refusal L s n [] ≡ 0
  unfolding define_refusal before_room may_define every
  deleted_nothing =
      rw (formed, number, same_entries, le-leb 0 L.longest (omega arith), le-leb (size_of L (entries L s)) (length s) (size-inside L lawful s bytes))

  pub nothing-changed : store_after L s n [] ≡ s
  nothing-changed = after_is L s n [] deleted_nothing ∙ ap (stored L (length s)) same_entries ∙ sym (formed-stored L lawful s bytes formed)

-- ---- the same, as looking up sees it

module _ (L : Layout) (lawful : Lawful L) (s : List ℕ) (n : ℤ) (cs : List ℤ) (done : define_refusal L s n cs ≡ 0) (bytes : Bytes s) where
  abbrev after : List ℕ
  after = store_after L s n cs

  formed-alike : well_formed L after ≡ well_formed L s
  formed-alike = formed-after L s n cs done lawful bytes ∙ sym (formed-before L s n cs done)

  -- every other macro is looked up as before, in the volatile store (KD) and in the saved one (KO)
  pub others-volatile : (saved : List ℕ) (m : ℤ) → (nat_abs n ≡ nat_abs m → ⊥) → looked_up L after saved m ≡ looked_up L s saved m
  others-volatile saved m h = looked_alike L after s saved saved m formed-alike refl (others-after L s n cs done lawful bytes (nat_abs m) h) refl

  pub others-saved : (volatile : List ℕ) (m : ℤ) → (nat_abs n ≡ nat_abs m → ⊥) → looked_up L volatile after m ≡ looked_up L volatile s m
  others-saved volatile m h = looked_alike L volatile volatile after s m refl formed-alike refl (others-after L s n cs done lawful bytes (nat_abs m) h)

  in-range : is_macro_number n ≡ true
  unfolding may_define
  in-range = and_left (is_macro_number n) _ (tests L s n cs done).1.0

  -- the macro itself is looked up anew: in the volatile store first, and where its contents are none there, in the saved one
  pub defined-volatile : (saved : List ℕ) → well_formed L saved ≡ true → looked_up L after saved n ≡ or_else (map nat_abs cs) (body_of (nat_abs n) (entries L saved))
  defined-volatile saved e =
      looked_so L after saved n (formed-after L s n cs done lawful bytes) e in-range
      ∙ ap (λ (b : List ℕ). or_else b (body_of (nat_abs n) (entries L saved))) (body-after L s n cs done lawful bytes)

  pub defined-saved : (volatile : List ℕ) → well_formed L volatile ≡ true → looked_up L volatile after n ≡ or_else (body_of (nat_abs n) (entries L volatile)) (map nat_abs cs)
  defined-saved volatile e =
      looked_so L volatile after n e (formed-after L s n cs done lawful bytes) in-range
      ∙ ap (or_else (body_of (nat_abs n) (entries L volatile))) (body-after L s n cs done lawful bytes)
