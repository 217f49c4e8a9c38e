-- One macro put among entries in rising number: the list that it gives, and the bodies in it.
use Prim.Native.Nat.{ℕ, ◌+◌, ◌≤◌, ◌<◌}
use mathlib.Core.Path.{◌≡◌, refl, sym, ◌∙◌, ap}
use mathlib.Core.Bool.{Bool, true, false}
use mathlib.Core.List.{List, [], ◌∷◌, ◌++◌, append-nil}
use native.Mathlib.Omega.{arith}
use borrow.Author.Tests.{le-leb, lt-leb, le-ltb, lt-ltb, eq-eqb, ne_eqb, ltb-true, ltb-false, eqb-false}
use lib.Arith.{lt_of_le-ne}
use lib.Dec.{leb, ltb, eqb}
use lib.ListN.{length}
use Rattle.refusals.specs.Answers.{pick}
use Rattle.refusals.proofs.Cases.{bool_apart}
use Rattle.macros.specs.Store.{Entry, Layout, are_body, Rising, keep, below, body_of}
use Rattle.macros.proofs.Listing.{weaker}
use Rattle.defining.specs.Defining.{above, one, put}

-- ---- entries by their numbers

module _ (p : ℕ → Bool) where
  keep-rising : (L : Layout) (least : ℕ) (es : List Entry) → Rising L least es → Rising L least (keep p es)
  unfolding Rising keep
  keep-rising L least [] v = tt
  keep-rising L least (e ∷ es) v = go (p e.number) refl (keep-rising L (e.number + 1) es v.1)
    where
      go : (t : Bool) → p e.number ≡ t → Rising L (e.number + 1) (keep p es) → Rising L least (keep p (e ∷ es))
      go true q h = simp q (v.0, h)
      go false q h = simp q (weaker L (e.number + 1) least (keep p es) (omega (arith, v.0.rising)) h)

module _ (L : Layout) (n : ℕ) where
  above-rising : (least : ℕ) (es : List Entry) → Rising L least es → Rising L (n + 1) (above n es)
  unfolding Rising keep
  above-rising least [] v = tt
  above-rising least (e ∷ es) v = go (ltb n e.number) refl (above-rising (e.number + 1) es v.1)
    where
      go : (t : Bool) → ltb n e.number ≡ t → Rising L (n + 1) (above n es) → Rising L (n + 1) (above n (e ∷ es))
      go true q h =
          let f = v.0 in
          simp q (record { rising = omega (arith, ltb-true n e.number q); small = f.small; some = f.some; most = f.most; bytes = f.bytes }, keep-rising (λ x. ltb n x) L (e.number + 1) es v.1)
      go false q h = simp q h

  none_below : (least : ℕ) (es : List Entry) → n ≤ least → Rising L least es → below n es ≡ []
  unfolding Rising keep
  none_below least [] h v = refl
  none_below least (e ∷ es) h v = simp (le-ltb e.number n (omega (arith, v.0.rising))) (none_below (e.number + 1) es (omega (arith, v.0.rising)) v.1)

  all_from : (least : ℕ) (es : List Entry) → n ≤ least → Rising L least es → keep (λ x. leb n x) es ≡ es
  unfolding Rising keep
  all_from least [] h v = refl
  all_from least (e ∷ es) h v =
      simp (le-leb n e.number (omega (arith, v.0.rising))) (ap (λ (l : List Entry). e ∷ l) (all_from (e.number + 1) es (omega (arith, v.0.rising)) v.1))

  -- those below a number, and those from it on
  pub parted : (least : ℕ) (es : List Entry) → Rising L least es → below n es ++ keep (λ x. leb n x) es ≡ es
  unfolding Rising keep
  parted least [] v = refl
  parted least (e ∷ es) v = go (ltb e.number n) refl (parted (e.number + 1) es v.1)
    where
      go : (t : Bool) → ltb e.number n ≡ t → below n es ++ keep (λ x. leb n x) es ≡ es → below n (e ∷ es) ++ keep (λ x. leb n x) (e ∷ es) ≡ e ∷ es
      go true q r = simp (q, lt-leb n e.number (ltb-true e.number n q)) (ap (λ (l : List Entry). e ∷ l) r)
      go false q r =
          let h : n ≤ e.number = ltb-false e.number n q in
          simp (q, le-leb n e.number h, none_below (e.number + 1) es (omega (arith, h)) v.1, all_from (e.number + 1) es (omega (arith, h)) v.1)

  all_above : (least : ℕ) (es : List Entry) → n < least → Rising L least es → above n es ≡ es
  unfolding Rising keep
  all_above least [] h v = refl
  all_above least (e ∷ es) h v =
      simp (lt-ltb n e.number (omega (arith, h, v.0.rising))) (ap (λ (l : List Entry). e ∷ l) (all_above (e.number + 1) es (omega (arith, h, v.0.rising)) v.1))

  -- deleting what is not there leaves the entries as they are
  pub put-nothing : (least : ℕ) (es : List Entry) → Rising L least es → body_of n es ≡ [] → put n [] es ≡ es
  unfolding Rising keep body_of
  put-nothing least [] v a = refl
  put-nothing least (e ∷ es) v a = go (ltb e.number n) (eqb e.number n) refl refl (put-nothing (e.number + 1) es v.1)
    where
      go : (t u : Bool) → ltb e.number n ≡ t → eqb e.number n ≡ u → (body_of n es ≡ [] → put n [] es ≡ es) → put n [] (e ∷ es) ≡ e ∷ es
      go t true q w again = let z : length e.body ≡ 0 = ap length (rw w at a) in absurd (omega (arith, z, v.0.some))
      go true false q w again =
          let l : e.number < n = ltb-true e.number n q in
          simp (q, le-ltb n e.number (omega (arith, l))) (ap (λ (l : List Entry). e ∷ l) (again (rw w at a)))
      go false false q w again =
          let l : n < e.number = lt_of_le-ne (ltb-false e.number n q) (λ z. eqb-false e.number n w (sym z)) in
          simp (q, lt-ltb n e.number l, none_below (e.number + 1) es (omega (arith, l)) v.1, all_above (e.number + 1) es (omega (arith, l)) v.1)

-- ---- one macro put in its place

module _ (L : Layout) (n : ℕ) (b : List ℕ) (hn : n ≤ 32767) (hl : length b ≤ L.longest) (hb : are_body b ≡ true) where
  one-rising : (least : ℕ) (ys : List Entry) → least ≤ n → Rising L (n + 1) ys → Rising L least (one n b ++ ys)
  unfolding Rising
  one-rising least ys h v = go b hl hb
    where
      go : (x : List ℕ) → length x ≤ L.longest → are_body x ≡ true → Rising L least (one n x ++ ys)
      go [] l a = weaker L (n + 1) least ys (omega (arith, h)) v
      go (y ∷ x) l a = (record { rising = h; small = hn; some = omega arith; most = l; bytes = a }, v)

  in_place : (least : ℕ) (es ys : List Entry) → least ≤ n → Rising L least es → Rising L (n + 1) ys → Rising L least (below n es ++ (one n b ++ ys))
  unfolding Rising keep
  in_place least [] ys h v w = one-rising least ys h w
  in_place least (e ∷ es) ys h v w = go (ltb e.number n) refl (λ m l u. in_place m es ys l u w)
    where
      go : (t : Bool) → ltb e.number n ≡ t → ((m : ℕ) → m ≤ n → Rising L m es → Rising L m (below n es ++ (one n b ++ ys))) → Rising L least (below n (e ∷ es) ++ (one n b ++ ys))
      go true q again = simp q (v.0, again (e.number + 1) (omega (arith, ltb-true e.number n q)) v.1)
      go false q again = simp q (again least h (weaker L (e.number + 1) least es (omega (arith, v.0.rising)) v.1))

  pub put-rising : (es : List Entry) → Rising L 0 es → Rising L 0 (put n b es)
  put-rising es v = in_place 0 es (above n es) (omega arith) v (above-rising L n 0 es v)

new_body : (m : ℕ) (x : List ℕ) (ys : List Entry) → body_of m ys ≡ [] → body_of m (one m x ++ ys) ≡ x
unfolding body_of
new_body m [] ys e = e
new_body m (y ∷ x) ys e = simp (eq-eqb m m refl)

-- a macro that is not among them, and one that is
module _ (m : ℕ) where
  body-left : (xs ys : List Entry) → body_of m ys ≡ [] → body_of m (xs ++ ys) ≡ body_of m xs
  unfolding body_of
  body-left [] ys e = e
  body-left (x ∷ xs) ys e = ap (λ (l : List ℕ). pick (eqb x.number m) x.body l) (body-left xs ys e)

  body-right : (p : ℕ → Bool) → p m ≡ false → (es ys : List Entry) → body_of m (keep p es ++ ys) ≡ body_of m ys
  unfolding body_of keep
  body-right p h [] ys = refl
  body-right p h (e ∷ es) ys = go (p e.number) refl (body-right p h es ys)
    where
      go : (t : Bool) → p e.number ≡ t → body_of m (keep p es ++ ys) ≡ body_of m ys → body_of m (keep p (e ∷ es) ++ ys) ≡ body_of m ys
      go true q r = simp (q, ne_eqb e.number m (λ z. bool_apart (sym (ap p z ∙ h) ∙ q))) r
      go false q r = simp q r

  body_kept : (p : ℕ → Bool) → p m ≡ true → (es : List Entry) → body_of m (keep p es) ≡ body_of m es
  unfolding body_of keep
  body_kept p h [] = refl
  body_kept p h (e ∷ es) = go (p e.number) refl (body_kept p h es)
    where
      go : (t : Bool) → p e.number ≡ t → body_of m (keep p es) ≡ body_of m es → body_of m (keep p (e ∷ es)) ≡ body_of m (e ∷ es)
      go true q r = simp q (ap (λ (l : List ℕ). pick (eqb e.number m) e.body l) r)
      go false q r = simp (q, ne_eqb e.number m (λ z. bool_apart (sym q ∙ ap p z ∙ h))) r

  body-one : (n : ℕ) (b : List ℕ) → (n ≡ m → ⊥) → (ys : List Entry) → body_of m (one n b ++ ys) ≡ body_of m ys
  unfolding body_of
  body-one n [] h ys = refl
  body-one n (x ∷ b) h ys = simp (ne_eqb n m h)

  dropped : (p : ℕ → Bool) → p m ≡ false → (es : List Entry) → body_of m (keep p es) ≡ []
  unfolding body_of
  dropped p h es = ap (body_of m) (sym (append-nil (keep p es))) ∙ body-right p h es []

  -- the new body is found
  pub put-found : (b : List ℕ) (es : List Entry) → body_of m (put m b es) ≡ b
  put-found b es = body-right (λ x. ltb x m) (le-ltb m m (omega arith)) es (one m b ++ above m es) ∙ new b
    where
      new : (x : List ℕ) → body_of m (one m x ++ above m es) ≡ x
      new x = new_body m x (above m es) (dropped (λ y. ltb m y) (le-ltb m m (omega arith)) es)

  -- and every other as before
  pub put-others : (n : ℕ) (b : List ℕ) (es : List Entry) → (n ≡ m → ⊥) → body_of m (put n b es) ≡ body_of m es
  put-others n b es h = go (ltb m n) refl
    where
      go : (t : Bool) → ltb m n ≡ t → body_of m (put n b es) ≡ body_of m es
      go true q =
          let l : m < n = ltb-true m n q in
          body-left (below n es) (one n b ++ above n es) (body-one n b h (above n es) ∙ dropped (λ x. ltb n x) (le-ltb n m (omega (arith, l))) es)
          ∙ body_kept (λ x. ltb x n) q es
      go false q =
          body-right (λ x. ltb x n) q es (one n b ++ above n es)
          ∙ body-one n b h (above n es)
          ∙ body_kept (λ x. ltb n x) (lt-ltb n m (lt_of_le-ne (ltb-false m n q) h)) es
