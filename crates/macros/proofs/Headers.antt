-- Looking up by the headers alone, and that it gives what looking up gives where both stores are well formed.
use Prim.Native.Nat.{ℕ, zero, suc, ◌+◌, ◌-◌, ◌≤◌, ◌<◌, min}
use mathlib.Core.Path.{◌≡◌, refl, sym, ◌∙◌, ap, subst}
use mathlib.Core.Bool.{Bool, true, false, ◌&&◌}
use mathlib.Core.List.{List, [], ◌∷◌}
use native.Mathlib.Nat.{zero-add}
use native.Mathlib.Omega.{arith}
use borrow.Author.Tests.{le-leb, lt-leb, le-ltb, lt-ltb, eq-eqb, ne_eqb, leb-true, leb-false, eqb-true, eqb-false}
use lib.Arith.{lt_of_le-ne}
use lib.Dec.{leb, eqb}
use lib.ListN.{length, take, drop, length-take, length-drop}
use denote.Ref.{Bor}
use lib.Seq.{drop-drop}
use lib.IntN.{ℤ, nat_abs}
use mir.Syntax.{w32}
use mir.Val.{SFits, to_z, of_z}
use mir.Facts.{to_z-of_z}
use Rattle.refusals.specs.Answers.{pick}
use Rattle.refusals.proofs.Cases.{and_left, and_right, by_pick, bool_apart}
use Rattle.refusals.proofs.Numbers.{met}
use Rattle.ranges.specs.Ranges.{within}
use Rattle.macros.specs.declared.Part.{Part}
use Rattle.macros.specs.declared.EntryAt.{EntryAt}
use Rattle.std.specs.Prelude.{Option, Some, None}
use Rattle.macros.specs.Store.{Entry, Layout, size_of, are_zeros, body_in, is_store_entry, front_entries, entries, well_formed, below, is_macro_number, body_of, or_else, body_in_either, look_refusal, find_refusal, looked_up, Placed, placed_in, placed, bytes_placed, body_pointer, placed_at, has_body, nowhere, part_by_headers, part_in, placed_by_headers, looked_by_headers}
use Rattle.macros.specs.Fronts.{EntryIs, FrontIs, HandsPart}
use Rattle.macros.proofs.Layouts.{Lawful}
use Rattle.macros.proofs.Reading.{stands, body-long, entry_in, behind, size-cons, size-nil, keep-yes, keep-no, and_no}
use Rattle.macros.proofs.Fronts.{entry_of, none_of}
use Rattle.macros.proofs.Listing.{only-zeros}
use Rattle.macros.proofs.Locations.{this_one, another, none_low, low_absent, either_second, looked_none, there_is, located-part}

-- ---- one header

module _ (L : Layout) (n : ℕ) where
  head_size : (d : List ℕ) → has_body L d ≡ true → (1 ≤ L.length_in d) × (L.size + L.length_in d ≤ length d)
  unfolding has_body
  head_size d e =
      let t = and_right (leb L.size (length d)) (leb 1 (L.length_in d) && leb (L.size + L.length_in d) (length d)) e in
      (leb-true 1 _ (and_left (leb 1 (L.length_in d)) _ t), leb-true _ _ (and_right (leb 1 (L.length_in d)) (leb (L.size + L.length_in d) (length d)) t))

  no_head : (k at : ℕ) (d : List ℕ) → has_body L d ≡ false → part_by_headers L k n at d ≡ nowhere
  unfolding part_by_headers
  no_head zero at d e = refl
  no_head (suc k) at d e = rw e

  head_high : (k at : ℕ) (d : List ℕ) → n < L.number_in d → part_by_headers L k n at d ≡ nowhere
  unfolding part_by_headers
  head_high zero at d h = refl
  head_high (suc k) at d h = rw (lt-leb (L.number_in d) n h, and_no (has_body L d))

  head_this : (k at : ℕ) (d : List ℕ) → has_body L d ≡ true → L.number_in d ≡ n → part_by_headers L (suc k) n at d ≡ record { offset = at + L.size; long = L.length_in d }
  unfolding part_by_headers
  head_this k at d e h = rw (e, le-leb (L.number_in d) n (omega (arith, h)), eq-eqb (L.number_in d) n h)

  head_on : (k at : ℕ) (d : List ℕ) → has_body L d ≡ true → L.number_in d < n → part_by_headers L (suc k) n at d ≡ part_by_headers L k n (at + (L.size + L.length_in d)) (behind L d)
  unfolding part_by_headers
  head_on k at d e h = rw (e, le-leb (L.number_in d) n (omega (arith, h)), ne_eqb (L.number_in d) n (λ q. omega (arith, q, h)))

  -- by a header and its number
  by_head : (P : Type 0) (d : List ℕ) → (has_body L d ≡ false → P) → (n < L.number_in d → P) → (has_body L d ≡ true → L.number_in d ≡ n → P) → (has_body L d ≡ true → L.number_in d < n → P) → P
  by_head P d none high this on = go (has_body L d) (leb (L.number_in d) n) (eqb (L.number_in d) n) refl refl refl
    where
      go : (a b c : Bool) → has_body L d ≡ a → leb (L.number_in d) n ≡ b → eqb (L.number_in d) n ≡ c → P
      go false b c ea eb ec = none ea
      go true false c ea eb ec = high (leb-false (L.number_in d) n eb)
      go true true true ea eb ec = this ea (eqb-true (L.number_in d) n ec)
      go true true false ea eb ec = on ea (lt_of_le-ne (leb-true (L.number_in d) n eb) (eqb-false (L.number_in d) n ec))

  -- headers that may be more than there are bytes are all of them
  enough_heads : (k j at : ℕ) (d : List ℕ) → length d ≤ k → length d ≤ j → part_by_headers L k n at d ≡ part_by_headers L j n at d
  enough_heads zero j at d h g = go (has_body L d) refl
    where
      go : (t : Bool) → has_body L d ≡ t → part_by_headers L zero n at d ≡ part_by_headers L j n at d
      go true e = let y = head_size d e in absurd (omega (arith, h, y.0, y.1))
      go false e = no_head zero at d e ∙ sym (no_head j at d e)
  enough_heads (suc k) zero at d h g = go (has_body L d) refl
    where
      go : (t : Bool) → has_body L d ≡ t → part_by_headers L (suc k) n at d ≡ part_by_headers L zero n at d
      go true e = let y = head_size d e in absurd (omega (arith, g, y.0, y.1))
      go false e = no_head (suc k) at d e ∙ sym (no_head zero at d e)
  enough_heads (suc k) (suc j) at d h g =
      by_head (part_by_headers L (suc k) n at d ≡ part_by_headers L (suc j) n at d) d
      (λ e. no_head (suc k) at d e ∙ sym (no_head (suc j) at d e))
      (λ e. head_high (suc k) at d e ∙ sym (head_high (suc j) at d e))
      (λ e q. head_this k at d e q ∙ sym (head_this j at d e q))
      (λ e q.
      let y = head_size d e in
      let l = length-drop (L.size + L.length_in d) d in
      head_on k at d e q ∙ enough_heads k j (at + (L.size + L.length_in d)) (behind L d) (omega (arith, h, l, y.0, y.1)) (omega (arith, g, l, y.0, y.1)) ∙ sym (head_on j at d e q))

  abbrev Ends : (at long : ℕ) → Part → Type 0
  Ends at long p = p.offset + p.long ≤ at + long

  part-within : (k at : ℕ) (d : List ℕ) → Ends at (length d) (part_by_headers L k n at d)
  unfolding part_by_headers
  part-within zero at d = omega arith
  part-within (suc k) at d =
      by_head (Ends at (length d) (part_by_headers L (suc k) n at d)) d
      (λ e. subst (Ends at (length d)) (sym (no_head (suc k) at d e)) (omega arith))
      (λ e. subst (Ends at (length d)) (sym (head_high (suc k) at d e)) (omega arith))
      (λ e q. let y = head_size d e in subst (Ends at (length d)) (sym (head_this k at d e q)) (omega (arith, y.1)))
      (λ e q.
      let y = head_size d e in
      let l = length-drop (L.size + L.length_in d) d in
      let z = part-within k (at + (L.size + L.length_in d)) (behind L d) in
      subst (Ends at (length d)) (sym (head_on k at d e q)) (omega (arith, y.1, l, z)))

-- ---- from header to header

pub record Hopping (L : Layout) (s : List ℕ) (number at : ℕ) : Type 0 where
  pub inside : at ≤ length s
  pub left : part_by_headers L (length s) number at (drop at s) ≡ part_in L number s

pub hopping : (L : Layout) (s : List ℕ) (number : ℕ) → Hopping L s number 0
hopping L s number = record { inside = omega arith; left = refl }

module _ (L : Layout) (s : List ℕ) (number at : ℕ) (inv : Hopping L s number at) (r : Option EntryAt) (is : FrontIs L (has_body L) s at r) where
  pub hopped_end : r ≡ None → part_in L number s ≡ nowhere
  hopped_end g = sym inv.left ∙ no_head L number (length s) at (drop at s) (none_of L (has_body L) s at r is g)

  module _ {x : EntryAt} (g : r ≡ Some x) where
    headed : EntryIs L (has_body L) s at x.number x.from x.to
    headed = entry_of L (has_body L) s at r is g

    fuel : part_by_headers L (length s) number at (drop at s) ≡ part_by_headers L (suc (length s - 1)) number at (drop at s)
    fuel = let y = headed in let k : length s ≡ suc (length s - 1) = omega (arith, y.some, y.inside) in ap (λ (j : ℕ). part_by_headers L j number at (drop at s)) k

    hopped_here : x.number ≡ number → part_in L number s ≡ record { offset = x.from; long = x.to - x.from }
    hopped_here e =
        let y = headed in
        let long : L.length_in (drop at s) ≡ x.to - x.from = omega (arith, y.ends) in
        sym inv.left ∙ fuel ∙ head_this L number (length s - 1) at (drop at s) y.is (sym y.here ∙ e) ∙ rw (← y.begins, long)

    pub here-handed : x.number ≡ number → (store part : Bor (List ℕ)) → s ≡ store.now → part.now ≡ take (x.to - x.from) (drop x.from s) → part.ref_ptr ≡ (store.ref_ptr.0, x.from + store.ref_ptr.1) → HandsPart store (part_in L number s) part
    here-handed e store part q b p =
        rw (hopped_here e) (record { bytes = b ∙ ap (λ (l : List ℕ). take (x.to - x.from) (drop x.from l)) q; block = ap (λ (k : ℕ × ℕ). k.0) p; place = ap (λ (k : ℕ × ℕ). k.1) p })

    pub hopped_past : number ≤ x.number → (x.number ≡ number → ⊥) → part_in L number s ≡ nowhere
    hopped_past h d =
        let high : number < x.number = lt_of_le-ne h (λ e. d (sym e)) in
        sym inv.left ∙ head_high L number (length s) at (drop at s) (omega (arith, high, headed.here))

    pub hopped_on : x.number < number → Hopping L s number x.to
    hopped_on low =
        let y = headed in
        let p : at + (L.size + L.length_in (drop at s)) ≡ x.to = omega (arith, y.begins, y.ends) in
        let l = length-drop x.to s in
        let next : behind L (drop at s) ≡ drop x.to s = drop-drop (L.size + L.length_in (drop at s)) at s ∙ ap (λ (i : ℕ). drop i s) p in
        record {
          inside = y.inside;
          left =
              enough_heads L number (length s) (length s - 1) x.to (drop x.to s) (omega (arith, l)) (omega (arith, l, y.some, y.inside))
              ∙ ap (part_by_headers L (length s - 1) number x.to) (sym next)
              ∙ ap (λ (i : ℕ). part_by_headers L (length s - 1) number i (behind L (drop at s))) (sym p)
              ∙ sym (fuel ∙ head_on L number (length s - 1) at (drop at s) y.is (omega (arith, low, y.here)))
              ∙ inv.left;
        }

pub none_handed : (store part : Bor (List ℕ)) {p : Part} → p ≡ nowhere → part.now ≡ [] → part.ref_ptr ≡ store.ref_ptr → HandsPart store p part
none_handed store part e b q =
    rw e (record { bytes = b; block = ap (λ (x : ℕ × ℕ). x.0) q; place = ap (λ (x : ℕ × ℕ). x.1) q ∙ sym (zero-add store.ref_ptr.1) })

pub ruleset hoppings = (hopping, hopped_end, here-handed, hopped_past, hopped_on, none_handed)

-- ---- in either store

module _ (L : Layout) (v s : List ℕ) (n : ℤ) where
  headers_outside : is_macro_number n ≡ false → placed_by_headers L v s n ≡ placed_at 2 nowhere
  unfolding placed_by_headers
  headers_outside e = rw e

  module _ (e : is_macro_number n ≡ true) where
    headers_volatile : leb 1 (part_in L (nat_abs n) v).long ≡ true → placed_by_headers L v s n ≡ placed_at 1 (part_in L (nat_abs n) v)
    unfolding placed_by_headers
    headers_volatile t = rw (e, t)

    headers_saved : leb 1 (part_in L (nat_abs n) v).long ≡ false → placed_by_headers L v s n ≡ placed_at 2 (part_in L (nat_abs n) s)
    unfolding placed_by_headers
    headers_saved t = rw (e, t)

  -- what is looked up, and where it is pointed to, by where it stands
  module _ {p : Placed} (e : placed_by_headers L v s n ≡ p) where
    bytes-there : bytes_placed p v s ≡ looked_by_headers L v s n
    unfolding looked_by_headers
    bytes-there = ap (λ (x : Placed). bytes_placed x v s) (sym e)

    pointer_there : (pv ps : ℕ × ℕ) → body_pointer p pv ps ≡ body_pointer (placed_by_headers L v s n) pv ps
    pointer_there pv ps = ap (λ (x : Placed). body_pointer x pv ps) (sym e)

-- the number comes back from the callee's contract as the machine reads it
module _ (L : Layout) (v s : List ℕ) (n : ℤ) (f : SFits w32 n) {w : Bool} (ew : w ≡ within 0 32767 (to_z w32 (of_z w32 n))) where
  inside_is : {t : Bool} → w ≡ t → is_macro_number n ≡ t
  inside_is e = sym (rw (to_z-of_z f) at ew) ∙ e

  module _ (t : w ≡ false) where
    pub no_number : [] ≡ looked_by_headers L v s n
    no_number = bytes-there L v s n (headers_outside L v s n (inside_is t))

    pub no_pointer : (pv ps : ℕ × ℕ) → ps ≡ body_pointer (placed_by_headers L v s n) pv ps
    unfolding body_pointer
    no_pointer pv ps = ap (λ (k : ℕ). (ps.0, k)) (sym (zero-add ps.1)) ∙ pointer_there L v s n (headers_outside L v s n (inside_is t)) pv ps

  module _ (t : w ≡ true) {k : ℕ} (ek : k ≡ nat_abs (to_z w32 (of_z w32 n))) {b : List ℕ} (eb : b ≡ take (part_in L k v).long (drop (part_in L k v).offset v)) where
    number_is : nat_abs n ≡ k
    number_is = sym (rw (to_z-of_z f) at ek)

    abbrev p : Part
    p = part_in L k v

    b_long : length b ≡ min p.long (length v - p.offset)
    b_long = ap length eb ∙ length-take p.long (drop p.offset v) ∙ rw (length-drop p.offset v)

    module _ (h : 0 < length b) where
      in_volatile : placed_by_headers L v s n ≡ placed_at 1 p
      in_volatile =
          let u : leb 1 p.long ≡ true = le-leb 1 p.long (omega (arith, h, b_long)) in
          headers_volatile L v s n (inside_is t) (rw number_is u) ∙ rw number_is

      pub by_volatile : b ≡ looked_by_headers L v s n
      by_volatile = eb ∙ bytes-there L v s n in_volatile

      pub pointer_by_volatile : (pv ps pb : ℕ × ℕ) → pb.0 ≡ pv.0 → pb.1 ≡ p.offset + pv.1 → pb ≡ body_pointer (placed_by_headers L v s n) pv ps
      unfolding body_pointer
      pointer_by_volatile pv ps pb e₀ e₁ = ap (λ (i : ℕ). (i, pb.1)) e₀ ∙ ap (λ (i : ℕ). (pv.0, i)) e₁ ∙ pointer_there L v s n in_volatile pv ps

    module _ (h : length b ≤ 0) where
      in_saved : placed_by_headers L v s n ≡ placed_at 2 (part_in L k s)
      in_saved =
          let z = part-within L k (length v) 0 v in
          let u : leb 1 p.long ≡ false = lt-leb 1 p.long (omega (arith, h, b_long, z)) in
          headers_saved L v s n (inside_is t) (rw number_is u) ∙ rw number_is

      pub by_saved : {c : List ℕ} → c ≡ take (part_in L k s).long (drop (part_in L k s).offset s) → c ≡ looked_by_headers L v s n
      by_saved e = e ∙ bytes-there L v s n in_saved

      pub pointer_by_saved : (pv ps pc : ℕ × ℕ) → pc.0 ≡ ps.0 → pc.1 ≡ (part_in L k s).offset + ps.1 → pc ≡ body_pointer (placed_by_headers L v s n) pv ps
      unfolding body_pointer
      pointer_by_saved pv ps pc e₀ e₁ = ap (λ (i : ℕ). (i, pc.1)) e₀ ∙ ap (λ (i : ℕ). (ps.0, i)) e₁ ∙ pointer_there L v s n in_saved pv ps

pub ruleset hops = (no_number, no_pointer, by_volatile, pointer_by_volatile, by_saved, pointer_by_saved)

-- ---- what looking up gives

module _ (L : Layout) (lawful : Lawful L) (n : ℕ) where
  entry_head : (least : ℕ) (d : List ℕ) → is_store_entry L least d ≡ true → has_body L d ≡ true
  unfolding has_body
  entry_head least d e =
      let y = stands L least d e in
      simp (le-leb L.size (length d) (omega (arith, y.whole)), le-leb 1 (L.length_in d) y.some, le-leb (L.size + L.length_in d) (length d) y.whole)

  zeros_head : (d : List ℕ) → are_zeros d ≡ true → has_body L d ≡ false
  unfolding has_body
  zeros_head d e =
      let z : L.length_in d ≡ 0 = ap L.length_in (only-zeros d e) ∙ lawful.nought (length d) in
      rw (lt-leb 1 (L.length_in d) (omega (arith, z))) (and_no (leb L.size (length d)))

  -- where a body stands in bytes that begin with these entries, at being where they begin
  standing : ℕ → List Entry → Part
  standing at es = pick (leb 1 (length (body_of n es))) (record { offset = at + (size_of L (below n es) + L.size); long = length (body_of n es) }) nowhere

  standing_none : (at : ℕ) (es : List Entry) → body_of n es ≡ [] → standing at es ≡ nowhere
  unfolding standing
  standing_none at es e = rw e

  module _ (k least at : ℕ) (d : List ℕ) (e : is_store_entry L least d ≡ true) where
    abbrev rest : List Entry
    rest = front_entries L k (L.number_in d + 1) (behind L d)

    abbrev first : Entry
    first = entry_in L d

    standing_high : n < L.number_in d → standing at (first ∷ rest) ≡ nowhere
    standing_high h = standing_none at (first ∷ rest) (another n first rest (λ q. omega (arith, q, h)) ∙ low_absent L n k (L.number_in d + 1) (behind L d) (omega (arith, h)))

    standing_this : L.number_in d ≡ n → standing at (first ∷ rest) ≡ record { offset = at + L.size; long = L.length_in d }
    unfolding standing
    standing_this h =
        let b : body_of n (first ∷ rest) ≡ body_in L d = this_one n first rest h in
        let l : length (body_in L d) ≡ L.length_in d = body-long L least d e in
        let z : size_of L (below n (first ∷ rest)) ≡ 0 = ap (size_of L) (keep-no _ first rest (le-ltb (L.number_in d) n (omega (arith, h))) ∙ none_low L n k (L.number_in d + 1) (behind L d) (omega (arith, h))) ∙ size-nil L in
        rw (b, l, z, zero-add L.size, le-leb 1 (L.length_in d) (stands L least d e).some)

    standing_on : L.number_in d < n → standing at (first ∷ rest) ≡ standing (at + (L.size + L.length_in d)) rest
    unfolding standing
    standing_on h =
        let b : body_of n (first ∷ rest) ≡ body_of n rest = another n first rest (λ q. omega (arith, q, h)) in
        let z : size_of L (below n (first ∷ rest)) ≡ L.size + L.length_in d + size_of L (below n rest)
        = ap (size_of L) (keep-yes _ first rest (lt-ltb (L.number_in d) n h)) ∙ size-cons L lawful first (below n rest) ∙ omega (arith, body-long L least d e) in
        let o : at + (size_of L (below n (first ∷ rest)) + L.size) ≡ at + (L.size + L.length_in d) + (size_of L (below n rest) + L.size) = omega (arith, z) in
        rw (b, o)

    -- an entry, and those behind it
    same_first : (are_zeros (drop (size_of L rest) (behind L d)) ≡ true → part_by_headers L k n (at + (L.size + L.length_in d)) (behind L d) ≡ standing (at + (L.size + L.length_in d)) rest)
        → are_zeros (drop (size_of L (first ∷ rest)) d) ≡ true → part_by_headers L (suc k) n at d ≡ standing at (first ∷ rest)
    same_first again z =
        let size : size_of L (first ∷ rest) ≡ L.size + L.length_in d + size_of L rest = size-cons L lawful first rest ∙ omega (arith, body-long L least d e) in
        let zs : are_zeros (drop (size_of L rest) (behind L d)) ≡ true = ap are_zeros (drop-drop (size_of L rest) (L.size + L.length_in d) d ∙ ap (λ (i : ℕ). drop i d) (sym size)) ∙ z in
        by_head L n (part_by_headers L (suc k) n at d ≡ standing at (first ∷ rest)) d
        (λ q. absurd (bool_apart (sym q ∙ entry_head least d e)))
        (λ q. head_high L n (suc k) at d q ∙ sym (standing_high q))
        (λ t q. head_this L n k at d t q ∙ sym (standing_this q))
        (λ t q. head_on L n k at d t q ∙ again zs ∙ sym (standing_on q))

  same_none : (k at : ℕ) (d : List ℕ) → are_zeros (drop (size_of L []) d) ≡ true → part_by_headers L k n at d ≡ standing at []
  unfolding body_of
  same_none k at d z = no_head L n k at d (zeros_head d (ap (λ (i : ℕ). are_zeros (drop i d)) (sym (size-nil L)) ∙ z)) ∙ sym (standing_none at [] refl)

  -- entries, and then zeros: from header to header stand the same bodies
  same-part : (k least at : ℕ) (d : List ℕ) → are_zeros (drop (size_of L (front_entries L k least d)) d) ≡ true → part_by_headers L k n at d ≡ standing at (front_entries L k least d)
  unfolding front_entries
  same-part zero least at d = λ z. same_none zero at d z
  same-part (suc k) least at d =
      by_pick (λ (es : List Entry). are_zeros (drop (size_of L es) d) ≡ true → part_by_headers L (suc k) n at d ≡ standing at es) (is_store_entry L least d) _ _
      (λ e. same_first k least at d e (same-part k (L.number_in d + 1) (at + (L.size + L.length_in d)) (behind L d)))
      (λ e z. same_none (suc k) at d z)

  module _ (s : List ℕ) (formed : well_formed L s ≡ true) where
    headed_part : part_in L n s ≡ standing 0 (entries L s)
    unfolding well_formed
    headed_part = same-part (length s) 0 0 s formed

    part-there : leb 1 (length (body_of n (entries L s))) ≡ true → part_in L n s ≡ record { offset = size_of L (below n (entries L s)) + L.size; long = length (body_of n (entries L s)) }
    unfolding standing
    part-there t = headed_part ∙ rw (t, zero-add (size_of L (below n (entries L s)) + L.size))

    part-absent : leb 1 (length (body_of n (entries L s))) ≡ false → part_in L n s ≡ nowhere
    unfolding standing
    part-absent t = headed_part ∙ rw t

neither : (x y : List ℕ) → leb 1 (length (or_else x y)) ≡ false → (leb 1 (length x) ≡ false) × (leb 1 (length y) ≡ false)
neither [] y e = (refl, e)
neither (z ∷ x) y e = absurd (omega (arith, leb-false 1 (length (z ∷ x)) e))

module _ (L : Layout) (lawful : Lawful L) (v s : List ℕ) (n : ℤ) (a : well_formed L v ≡ true) (b : well_formed L s ≡ true) where
  abbrev some : List ℕ → Bool
  some x = leb 1 (length (body_of (nat_abs n) (entries L x)))

  number-inside : eqb (find_refusal L v s n) 0 ≡ true → is_macro_number n ≡ true
  unfolding find_refusal look_refusal
  number-inside t =
      let x = met (well_formed L v && well_formed L s) 12 _ (λ q. omega (arith, q)) (eqb-true (find_refusal L v s n) 0 t) in
      (met (is_macro_number n) 8 _ (λ q. omega (arith, q)) x.1).0

  -- a macro that is there stands where it is placed
  headers_found : eqb (find_refusal L v s n) 0 ≡ true → placed_by_headers L v s n ≡ placed L v s n
  unfolding placed body_in_either
  headers_found t = rw t (go (some v) refl)
    where
      go : (u : Bool) → some v ≡ u → placed_by_headers L v s n ≡ pick (some v) (placed_in L 1 v (nat_abs n)) (placed_in L 2 s (nat_abs n))
      go true u =
          let e = part-there L lawful (nat_abs n) v a u in
          headers_volatile L v s n (number-inside t) (ap (λ (p : Part). leb 1 p.long) e ∙ u) ∙ ap (placed_at 1) e ∙ rw u
      go false u =
          let other : some s ≡ true = ap (λ (l : List ℕ). leb 1 (length l)) (sym (either_second (body_of (nat_abs n) (entries L v)) _ u)) ∙ there_is L v s n t in
          headers_saved L v s n (number-inside t) (ap (λ (p : Part). leb 1 p.long) (part-absent L lawful (nat_abs n) v a u)) ∙ ap (placed_at 2) (part-there L lawful (nat_abs n) s b other) ∙ rw u

  -- and one that is not is nowhere
  none_there : eqb (find_refusal L v s n) 0 ≡ false → is_macro_number n ≡ true → leb 1 (length (body_in_either L v s (nat_abs n))) ≡ false
  unfolding find_refusal look_refusal
  none_there t c = go (leb 1 (length (body_in_either L v s (nat_abs n)))) refl
    where
      go : (u : Bool) → leb 1 (length (body_in_either L v s (nat_abs n))) ≡ u → u ≡ false
      go true u = let z : eqb (find_refusal L v s n) 0 ≡ true = rw (a, b, c, u) in absurd (bool_apart (sym t ∙ z))
      go false u = refl

  headers_absent : eqb (find_refusal L v s n) 0 ≡ false → placed_by_headers L v s n ≡ placed_at 2 nowhere
  unfolding body_in_either
  headers_absent t = go (is_macro_number n) refl
    where
      go : (c : Bool) → is_macro_number n ≡ c → placed_by_headers L v s n ≡ placed_at 2 nowhere
      go true c =
          let y = neither (body_of (nat_abs n) (entries L v)) (body_of (nat_abs n) (entries L s)) (none_there t c) in
          headers_saved L v s n c (ap (λ (p : Part). leb 1 p.long) (part-absent L lawful (nat_abs n) v a y.0)) ∙ ap (placed_at 2) (part-absent L lawful (nat_abs n) s b y.1)
      go false c = headers_outside L v s n c

  pub headers_look : looked_by_headers L v s n ≡ looked_up L v s n
  headers_look = go (eqb (find_refusal L v s n) 0) refl
    where
      go : (t : Bool) → eqb (find_refusal L v s n) 0 ≡ t → looked_by_headers L v s n ≡ looked_up L v s n
      go true t = sym (bytes-there L v s n (headers_found t)) ∙ located-part L v s n lawful
      go false t = sym (bytes-there L v s n (headers_absent t)) ∙ sym (looked_none L v s n t)

  -- the same part of the same store
  pub headers_place : (pv ps : ℕ × ℕ) → body_pointer (placed_by_headers L v s n) pv ps ≡ body_pointer (placed L v s n) pv ps
  unfolding placed body_pointer
  headers_place pv ps = go (eqb (find_refusal L v s n) 0) refl
    where
      go : (t : Bool) → eqb (find_refusal L v s n) 0 ≡ t → body_pointer (placed_by_headers L v s n) pv ps ≡ body_pointer (placed L v s n) pv ps
      go true t = ap (λ (x : Placed). body_pointer x pv ps) (headers_found t)
      go false t = sym (pointer_there L v s n (headers_absent t) pv ps) ∙ rw t
