-- Lists of entries in rising number, and the bytes that they are written as.
use Prim.Native.Nat.{ℕ, zero, suc, ◌+◌, ◌-◌, ◌≤◌}
use mathlib.Core.Path.{◌≡◌, refl, sym, ◌∙◌, ap, subst}
use mathlib.Core.Bool.{Bool, true, false}
use mathlib.Core.List.{List, [], ◌∷◌, ◌++◌, append_assoc}
use native.Mathlib.Omega.{arith}
use borrow.Author.Tests.{le-leb, lt-leb, leb-true}
use lib.Dec.{leb}
use lib.ListN.{length, drop, replicate, length-append, length-replicate, length-drop, take-append-drop}
use lib.Seq.{get_or-drop, drop-drop, take-append_seam, drop-append_seam, drop_at}
use Rattle.refusals.specs.Answers.{every}
use Rattle.refusals.proofs.Cases.{and_left, and_right}
use Rattle.macros.specs.Store.{Entry, Layout, encoded, size_of, stored, are_body, are_zeros, body_in, is_store_entry, front_entries, entries, well_formed, MayStand, Rising}
use Rattle.macros.specs.Fronts.{Bytes}
use Rattle.macros.proofs.Layouts.{Lawful}
use Rattle.macros.proofs.Reading.{stands, body-long, entry_in, behind, first_entry, no_entry, size-cons, and_no}

-- ---- lists of entries

pub bytes_drop : (k : ℕ) (s : List ℕ) → Bytes s → Bytes (drop k s)
unfolding Bytes
bytes_drop k s h i = rw (get_or-drop k s i 0) (h (k + i))

pub weaker : (L : Layout) (least m : ℕ) (es : List Entry) → m ≤ least → Rising L least es → Rising L m es
unfolding Rising
weaker L least m [] h v = tt
weaker L least m (e ∷ es) h v =
    let f = v.0 in
    (record { rising = omega (arith, h, f.rising); small = f.small; some = f.some; most = f.most; bytes = f.bytes }, v.1)

none_at_all : (L : Layout) (least : ℕ) (d : List ℕ) → front_entries L zero least d ≡ []
unfolding front_entries
none_at_all L least d = refl

all_zeros : (n : ℕ) → are_zeros (replicate n 0) ≡ true
unfolding every
all_zeros zero = refl
all_zeros (suc n) = all_zeros n

pub only-zeros : (l : List ℕ) → are_zeros l ≡ true → l ≡ replicate (length l) 0
unfolding every
only-zeros [] e = refl
only-zeros (x ∷ l) e =
    let z : x ≤ 0 = leb-true x 0 (and_left (leb x 0) (are_zeros l) e) in
    let q : x ≡ 0 = omega (arith, z) in
    ap (λ (y : ℕ). y ∷ l) q ∙ ap (λ (y : List ℕ). 0 ∷ y) (only-zeros l (and_right (leb x 0) (are_zeros l) e))

module _ (L : Layout) (lawful : Lawful L) where
  -- the entries that are read are such a list
  pub read-rising : (k least : ℕ) (d : List ℕ) → Bytes d → Rising L least (front_entries L k least d)
  unfolding Rising front_entries
  read-rising zero least d h = tt
  read-rising (suc k) least d h = go (is_store_entry L least d) refl (λ d' h'. read-rising k (L.number_in d + 1) d' h')
    where
      go : (t : Bool) → is_store_entry L least d ≡ t → ((d' : List ℕ) → Bytes d' → Rising L (L.number_in d + 1) (front_entries L k (L.number_in d + 1) d')) → Rising L least (front_entries L (suc k) least d)
      go true q again =
          let y = stands L least d q in
          let l = body-long L least d q in
          simp q (record { rising = y.rising; small = lawful.small d h; some = omega (arith, l, y.some); most = omega (arith, l, y.most); bytes = y.body }, again (behind L d) (bytes_drop (L.size + L.length_in d) d h))
      go false q again = simp q tt

  pub entries-rising : (s : List ℕ) → Bytes s → Rising L 0 (entries L s)
  entries-rising s h = read-rising (length s) 0 s h

  -- ---- entries that were read, written again

  abbrev Splits : List Entry → List ℕ → Type 0
  Splits es d = encoded L es ++ drop (size_of L es) d ≡ d

  splits_none : (d : List ℕ) → Splits [] d
  unfolding encoded
  splits_none d = refl

  splits_one : (least : ℕ) (d : List ℕ) (es : List Entry) → Bytes d → is_store_entry L least d ≡ true → Splits es (behind L d) → Splits (entry_in L d ∷ es) d
  unfolding encoded
  splits_one least d es h q rest =
      let y = stands L least d q in
      let n = L.number_in d in
      let b : List ℕ = body_in L d in
      let l : length b ≡ L.length_in d = body-long L least d q in
      let size : size_of L (entry_in L d ∷ es) ≡ L.size + L.length_in d + size_of L es = size-cons L lawful (entry_in L d) es ∙ ap (λ (k : ℕ). L.size + k + size_of L es) l in
      let dropped : drop (size_of L (entry_in L d ∷ es)) d ≡ drop (size_of L es) (behind L d) = ap (λ (k : ℕ). drop k d) size ∙ sym (drop-drop (size_of L es) (L.size + L.length_in d) d) in
      let body : b ++ behind L d ≡ drop L.size d = ap (λ (x : List ℕ). b ++ x) (sym (drop-drop (L.length_in d) L.size d)) ∙ take-append-drop (L.length_in d) (drop L.size d) in
      append_assoc (L.pack n (length b)) (b ++ encoded L es) (drop (size_of L (entry_in L d ∷ es)) d)
      ∙ ap (λ (x : List ℕ). L.pack n (length b) ++ x) (append_assoc b (encoded L es) (drop (size_of L (entry_in L d ∷ es)) d) ∙ ap (λ (x : List ℕ). b ++ (encoded L es ++ x)) dropped ∙ ap (λ (x : List ℕ). b ++ x) rest ∙ body)
      ∙ ap (λ (k : ℕ). L.pack n k ++ drop L.size d) l
      ∙ lawful.again d h (omega (arith, y.whole)) y.spare

  -- their bytes stand at the front of what was read
  pub read-split : (k least : ℕ) (d : List ℕ) → Bytes d → Splits (front_entries L k least d) d
  read-split zero least d h = subst (λ (es : List Entry). Splits es d) (sym nothing) (splits_none d)
    where
      nothing : front_entries L zero least d ≡ []
      nothing = none_at_all L least d
  read-split (suc k) least d h = go (is_store_entry L least d) refl (λ d' h'. read-split k (L.number_in d + 1) d' h')
    where
      go : (t : Bool) → is_store_entry L least d ≡ t → ((d' : List ℕ) → Bytes d' → Splits (front_entries L k (L.number_in d + 1) d') d') → Splits (front_entries L (suc k) least d) d
      go true q again =
          let k' : suc k - 1 ≡ k = omega arith in
          let e : front_entries L (suc k) least d ≡ entry_in L d ∷ front_entries L k (L.number_in d + 1) (behind L d)
          = first_entry L (suc k) least d (omega arith) q ∙ ap (λ (n : ℕ). entry_in L d ∷ front_entries L n (L.number_in d + 1) (behind L d)) k' in
          subst (λ (es : List Entry). Splits es d) (sym e)
          (splits_one least d (front_entries L k (L.number_in d + 1) (behind L d)) h q (again (behind L d) (bytes_drop (L.size + L.length_in d) d h)))
      go false q again = subst (λ (es : List Entry). Splits es d) (sym (no_entry L (suc k) least d q)) (splits_none d)

  pub whole-store : (s : List ℕ) → Bytes s → encoded L (entries L s) ++ drop (size_of L (entries L s)) s ≡ s
  whole-store s h = read-split (length s) 0 s h

  pub size-inside : (s : List ℕ) → Bytes s → size_of L (entries L s) ≤ length s
  size-inside s h = omega (arith, ap length (whole-store s h), length-append (encoded L (entries L s)) (drop (size_of L (entries L s)) s))

  -- ---- entries that were written, read again

  -- one entry at the front of any bytes
  module _ (least n : ℕ) (b r : List ℕ) (hn : n ≤ 32767) (hl : length b ≤ L.longest) where
    abbrev d : List ℕ
    d = L.pack n (length b) ++ (b ++ r)

    number_is : L.number_in d ≡ n
    number_is = lawful.number-back n (length b) (b ++ r) hn hl

    length_is : L.length_in d ≡ length b
    length_is = lawful.length_back n (length b) (b ++ r) hn hl

    headless : drop L.size d ≡ b ++ r
    headless = drop_at (L.pack n (length b)) (b ++ r) L.size (lawful.sized n (length b))

    body_is : body_in L d ≡ b
    body_is = rw (length_is, headless) (take-append_seam b r)

    behind-is : behind L d ≡ r
    behind-is = sym (drop-drop (L.length_in d) L.size d) ∙ rw (length_is, headless) (drop-append_seam b r)

    long-is : length d ≡ L.size + (length b + length r)
    long-is = length-append (L.pack n (length b)) (b ++ r) ∙ omega (arith, lawful.sized n (length b), length-append b r)

    entry_is : least ≤ n → 1 ≤ length b → are_body b ≡ true → is_store_entry L least d ≡ true
    unfolding is_store_entry
    entry_is h₁ h₂ h₃ = simp (
      le-leb L.size (length d) (omega (arith, long-is)),
      le-leb 1 (L.length_in d) (omega (arith, length_is)),
      le-leb (L.length_in d) L.longest (omega (arith, length_is)),
      le-leb (L.size + L.length_in d) (length d) (omega (arith, long-is, length_is)),
      lawful.spare-back n (length b) (b ++ r) hn hl,
      le-leb least (L.number_in d) (omega (arith, number_is)),
      ap are_body body_is ∙ h₃,
    )

  -- such an entry in front of any bytes is read as it was written
  pub read_one : (e : Entry) (es : List Entry) (least k : ℕ) (r : List ℕ) → MayStand L least e → length (encoded L (e ∷ es) ++ r) ≤ k
      → (front_entries L k least (encoded L (e ∷ es) ++ r) ≡ e ∷ front_entries L (k - 1) (e.number + 1) (encoded L es ++ r)) × (length (encoded L es ++ r) ≤ k - 1)
  unfolding encoded
  read_one e es least k z f h =
      let n = e.number in
      let b = e.body in
      let r : List ℕ = encoded L es ++ z in
      let D : List ℕ = L.pack n (length b) ++ (b ++ r) in
      let q : encoded L (e ∷ es) ++ z ≡ D = append_assoc (L.pack n (length b)) (b ++ encoded L es) z ∙ ap (λ (x : List ℕ). L.pack n (length b) ++ x) (append_assoc b (encoded L es) z) in
      let l = long-is least n b r f.small f.most in
      let m : L.size + (length b + length r) ≤ k = omega (arith, h, ap length q, l) in (
        ap (front_entries L k least) q
            ∙ first_entry L k least D (omega (arith, m, f.some)) (entry_is least n b r f.small f.most f.rising f.some f.bytes)
            ∙ ap (λ (x : List ℕ). record { number = L.number_in D; body = x } ∷ front_entries L (k - 1) (L.number_in D + 1) (behind L D)) (body_is least n b r f.small f.most)
            ∙ ap (λ (x : ℕ). record { number = x; body = b } ∷ front_entries L (k - 1) (x + 1) (behind L D)) (number_is least n b r f.small f.most)
            ∙ ap (λ (x : List ℕ). e ∷ front_entries L (k - 1) (n + 1) x) (behind-is least n b r f.small f.most),
        omega (arith, m, f.some),
      )

  no_zeros : (least z : ℕ) → is_store_entry L least (replicate z 0) ≡ false
  unfolding is_store_entry
  no_zeros least z = rw (lt-leb 1 (L.length_in (replicate z 0)) (omega (arith, lawful.nought z))) (and_no (leb L.size (length (replicate z 0))))

  read_back : (es : List Entry) (least k z : ℕ) → Rising L least es → length (encoded L es ++ replicate z 0) ≤ k → front_entries L k least (encoded L es ++ replicate z 0) ≡ es
  unfolding Rising encoded
  read_back [] least k z v h = no_entry L k least (replicate z 0) (no_zeros least z)
  read_back (e ∷ es) least k z v h =
      let w = read_one e es least k (replicate z 0) v.0 h in
      w.0 ∙ ap (λ (x : List Entry). e ∷ x) (read_back es (e.number + 1) (k - 1) z v.1 w.1)

  -- ---- a store is its entries and then zeros

  pub stored-long : (room : ℕ) (es : List Entry) → size_of L es ≤ room → length (stored L room es) ≡ room
  stored-long room es h = length-append (encoded L es) (replicate (room - size_of L es) 0) ∙ omega (arith, length-replicate {A = ℕ} (room - size_of L es) 0)

  -- the store of such entries that fit holds exactly them
  pub entries-stored : (room : ℕ) (es : List Entry) → Rising L 0 es → size_of L es ≤ room → entries L (stored L room es) ≡ es
  entries-stored room es v h = read_back es 0 (length (stored L room es)) (room - size_of L es) v (omega arith)

  -- and is well formed
  pub stored-formed : (room : ℕ) (es : List Entry) → Rising L 0 es → size_of L es ≤ room → well_formed L (stored L room es) ≡ true
  unfolding well_formed
  stored-formed room es v h =
      ap (λ (l : List Entry). are_zeros (drop (size_of L l) (stored L room es))) (entries-stored room es v h)
      ∙ ap are_zeros (drop_at (encoded L es) (replicate (room - size_of L es) 0) (size_of L es) refl)
      ∙ all_zeros (room - size_of L es)

  -- a well-formed store is the store of its entries
  pub formed-stored : (s : List ℕ) → Bytes s → well_formed L s ≡ true → s ≡ stored L (length s) (entries L s)
  unfolding well_formed
  formed-stored s h e =
      sym (whole-store s h)
      ∙ ap (λ (l : List ℕ). encoded L (entries L s) ++ l) (only-zeros (drop (size_of L (entries L s)) s) e ∙ ap (λ (k : ℕ). replicate {A = ℕ} k 0) (length-drop (size_of L (entries L s)) s))
