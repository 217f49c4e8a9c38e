-- What defining a macro does to the bytes of a store, and its tests in their order, by what the parts gave.
use Prim.Native.Nat.{ℕ, ◌+◌, ◌-◌, ◌≤◌, ◌<◌}
use mathlib.Core.Path.{◌≡◌, refl, sym, ◌∙◌, ap}
use mathlib.Core.Bool.{Bool, true, false, ◌&&◌}
use mathlib.Core.List.{List, [], ◌∷◌, ◌++◌, map, append-nil, append_assoc}
use native.Mathlib.Omega.{arith}
use native.Mathlib.Numerals.{add-one}
use borrow.Author.Tests.{le-leb, lt-leb, leb-true}
use lib.Dec.{leb}
use lib.ListN.{length, take, drop, replicate, length-append, length-replicate, length-take, length-drop, length-map, take-append-drop}
use lib.Seq.{sets, sets-eq, length-sets, take-add, drop-drop, take_at, drop_at, drop-append-add}
use lib.IntN.{ℤ, nat_abs}
use mir.Syntax.{w32}
use mir.Val.{SFits, to_z, of_z}
use mir.Facts.{to_z-of_z}
use Rattle.refusals.specs.declared.Refusal.{Refusal}
use Rattle.refusals.specs.declared.Refusal.TheVariants.{NotValid, StoreMalformed, StoreTooShort}
use Rattle.refusals.specs.Refusals.{number_of}
use Rattle.refusals.specs.Answers.{demand, every}
use Rattle.refusals.proofs.Cases.{and_left, and_right}
use Rattle.refusals.proofs.Many.{sets_append}
use Rattle.refusals.proofs.Numbers.{not_nought}
use Rattle.ranges.specs.Ranges.{within}
use Rattle.ranges.proofs.Entries.{within-range}
use Rattle.characters.specs.Characters.{low_bytes}
use Rattle.characters.proofs.Entries.{all_bytes}
use Rattle.macros.specs.declared.Gap.{Gap}
use Rattle.std.specs.Prelude.{Option, Some, None, Ok, Err}
use Rattle.refusals.specs.Answers.{refusal_of}
use Rattle.macros.specs.Store.{Entry, Layout, encoded, size_of, stored, entries, well_formed, keep, below, is_macro_number, entry_size}
use Rattle.macros.specs.Fronts.{Bytes, GapIs, SurveyIs}
use Rattle.defining.specs.Defining.{above, one, put, may_define, before_room, define_refusal, store_after, fits_in, put_in}
use Rattle.macros.proofs.Layouts.{Lawful, three-size, three-longest, three-lawful}
use Rattle.macros.proofs.Reading.{size-cons, size-nil, and_no, room-none, room-some, room-header}
use Rattle.macros.proofs.Listing.{entries-rising, whole-store}
use Rattle.macros.proofs.Fronts.{formed-of, malformed_of}
use Rattle.defining.proofs.Putting.{parted}
use Rattle.defining.proofs.Writing.{moved, cleared}
use Rattle.std.specs.List.{copy_within}
use borrow.Rule.Slice.PartMut.{put_mid}

pub ruleset rooms = (three-size, room-none, room-some)

-- a macro's entry, where it has a body
one-encoded : (L : Layout) (n : ℕ) (cs : List ℤ) → (length cs ≡ 0 → ⊥) → L.pack n (length cs) ++ map nat_abs cs ≡ encoded L (one n (map nat_abs cs))
unfolding encoded
one-encoded L n [] h = absurd (h refl)
one-encoded L n (c ∷ cs) h =
    ap (λ (k : ℕ). L.pack n k ++ map nat_abs (c ∷ cs)) (sym (length-map (c ∷ cs) nat_abs))
    ∙ ap (λ (l : List ℕ). L.pack n (length (map nat_abs (c ∷ cs))) ++ l) (sym (append-nil (map nat_abs (c ∷ cs))))

one_size : (L : Layout) → Lawful L → (n : ℕ) (cs : List ℤ) → size_of L (one n (map nat_abs cs)) ≡ entry_size L (length cs)
one_size L lawful n [] = size-nil L ∙ room-none L 0 refl
one_size L lawful n (c ∷ cs) =
    size-cons L lawful (record { number = n; body = map nat_abs (c ∷ cs) }) []
    ∙ omega (arith, size-nil L, length-map (c ∷ cs) nat_abs, room-some L (length (c ∷ cs)) refl (λ e. apart e))
  where
    apart : length (c ∷ cs) ≡ 0 → ⊥
    apart e = omega (arith, e)

module _ (L : Layout) (number : ℕ) (cs : List ℤ) (s : List ℕ) (at : ℕ) where
  pub nothing_written : length cs ≡ 0 → s ≡ sets s at (encoded L (one number (map nat_abs cs)))
  unfolding encoded
  nothing_written e = go cs e
    where
      go : (xs : List ℤ) → length xs ≡ 0 → s ≡ sets s at (encoded L (one number (map nat_abs xs)))
      go [] q = refl
      go (x ∷ xs) q = absurd (omega (arith, q))

  pub entry_written : (lawful : Lawful L) {size : ℕ} {t u : List ℕ} → size ≡ L.size → (length cs ≡ 0 → ⊥) → every (within 0 127) cs ≡ true → t ≡ sets s at (L.pack number (length cs)) → u ≡ sets t (at + size) (low_bytes cs)
      → u ≡ sets s at (encoded L (one number (map nat_abs cs)))
  entry_written lawful {size} {t} {u} e h ok et eu =
      let p : List ℕ = L.pack number (length cs) in
      let l : size ≡ length p = e ∙ sym (lawful.sized number (length cs)) in
      eu ∙ ap (sets t (at + size)) (all_bytes 0 cs ok)
      ∙ ap (λ (x : List ℕ). sets x (at + size) (map nat_abs cs)) et
      ∙ ap (λ (k : ℕ). sets (sets s at p) (at + k) (map nat_abs cs)) l
      ∙ sets_append p (map nat_abs cs) s at
      ∙ ap (sets s at) (one-encoded L number cs h)

pub ruleset writings = (three-size, three-lawful, room-header, nothing_written, entry_written)

-- ---- the bytes of entries one behind the other

module _ (L : Layout) where
  encoded-append : (xs ys : List Entry) → encoded L (xs ++ ys) ≡ encoded L xs ++ encoded L ys
  unfolding encoded
  encoded-append [] ys = refl
  encoded-append (e ∷ xs) ys =
      ap (λ (x : List ℕ). L.pack e.number (length e.body) ++ (e.body ++ x)) (encoded-append xs ys)
      ∙ ap (λ (x : List ℕ). L.pack e.number (length e.body) ++ x) (sym (append_assoc e.body (encoded L xs) (encoded L ys)))
      ∙ sym (append_assoc (L.pack e.number (length e.body)) (e.body ++ encoded L xs) (encoded L ys))

  size-append : (xs ys : List Entry) → size_of L (xs ++ ys) ≡ size_of L xs + size_of L ys
  size-append xs ys = ap length (encoded-append xs ys) ∙ length-append (encoded L xs) (encoded L ys)

module _ (L : Layout) (lawful : Lawful L) (s : List ℕ) (n : ℕ) (bytes : Bytes s) where
  abbrev es : List Entry
  es = entries L s

  -- those up to the number, and those above it
  upto_above : below (n + 1) es ++ above n es ≡ es
  upto_above = ap (λ (k : ℕ). below (n + 1) es ++ keep (λ x. leb k x) es) (sym (add-one n)) ∙ parted L (n + 1) 0 es (entries-rising L lawful s bytes)

  size_above : size_of L (below (n + 1) es) + size_of L (above n es) ≡ size_of L es
  size_above = sym (size-append L (below (n + 1) es) (above n es)) ∙ ap (size_of L) upto_above

  front : take (size_of L (below n es)) s ≡ encoded L (below n es)
  front =
      let rest : List Entry = keep (λ x. leb n x) es in
      let e : s ≡ encoded L (below n es) ++ (encoded L rest ++ drop (size_of L es) s)
      = sym (whole-store L lawful s bytes)
      ∙ ap (λ (l : List Entry). encoded L l ++ drop (size_of L es) s) (sym (parted L n 0 es (entries-rising L lawful s bytes)))
      ∙ ap (λ (l : List ℕ). l ++ drop (size_of L es) s) (encoded-append L (below n es) rest)
      ∙ append_assoc (encoded L (below n es)) (encoded L rest) (drop (size_of L es) s) in
      ap (take (size_of L (below n es))) e ∙ take_at (encoded L (below n es)) (encoded L rest ++ drop (size_of L es) s) (size_of L (below n es)) refl

  tail : take (size_of L es - size_of L (below (n + 1) es)) (drop (size_of L (below (n + 1) es)) s) ≡ encoded L (above n es)
  tail =
      let upto : List Entry = below (n + 1) es in
      let high : List Entry = above n es in
      let e : s ≡ encoded L upto ++ (encoded L high ++ drop (size_of L es) s)
      = sym (whole-store L lawful s bytes)
      ∙ ap (λ (l : List Entry). encoded L l ++ drop (size_of L es) s) (sym upto_above)
      ∙ ap (λ (l : List ℕ). l ++ drop (size_of L es) s) (encoded-append L upto high)
      ∙ append_assoc (encoded L upto) (encoded L high) (drop (size_of L es) s) in
      ap (λ (l : List ℕ). take (size_of L es - size_of L upto) (drop (size_of L upto) l)) e
      ∙ ap (take (size_of L es - size_of L upto)) (drop_at (encoded L upto) (encoded L high ++ drop (size_of L es) s) (size_of L upto) refl)
      ∙ take_at (encoded L high) (drop (size_of L es) s) (size_of L es - size_of L upto) (omega (arith, size_above))

-- ---- three stretches written in a list, one beside the other

sets_at : (p q r v : List ℕ) (i : ℕ) → length p ≡ i → length v ≡ length q → sets (p ++ (q ++ r)) i v ≡ p ++ (v ++ r)
sets_at p q r v i hp hv =
    sets-eq v (p ++ (q ++ r)) i (omega (arith, hp, hv, length-append p (q ++ r), length-append q r))
    ∙ ap (λ (x : List ℕ). x ++ v ++ drop (i + length v) (p ++ (q ++ r))) (take_at p (q ++ r) i hp)
    ∙ ap (λ (x : ℕ). p ++ v ++ drop (x + length v) (p ++ (q ++ r))) (sym hp)
    ∙ ap (λ (x : List ℕ). p ++ v ++ x) (drop-append-add p (q ++ r) (length v) ∙ drop_at q r (length v) (sym hv))
    ∙ append_assoc p v r

-- a stretch A from t on, O before it from a on, and zeros behind it
placed : (s O A : List ℕ) (a t z : ℕ) → t ≡ a + length O → z ≡ t + length A → z ≤ length s
    → sets (sets (sets s t A) a O) z (replicate (length s - z) 0) ≡ take a s ++ (O ++ (A ++ replicate (length s - z) 0))
placed s O A a t z et ez le =
    let Z : List ℕ = replicate (length s - z) 0 in
    let P : List ℕ = take a s in
    let Q : List ℕ = take (length O) (drop a s) in
    let D : List ℕ = drop z s in
    let lP : length P ≡ a = length-take a s ∙ omega (arith, et, ez, le) in
    let lQ : length Q ≡ length O = length-take (length O) (drop a s) ∙ omega (arith, et, ez, le, length-drop a s) in
    let lA : length (take (length A) (drop t s)) ≡ length A = length-take (length A) (drop t s) ∙ omega (arith, ez, le, length-drop t s) in
    let lT : length (take t s) ≡ t = length-take t s ∙ omega (arith, ez, le) in
    let lD : length D ≡ length s - z = length-drop z s in
    let lZ : length Z ≡ length s - z = length-replicate (length s - z) 0 in
    let rest : take (length A) (drop t s) ++ D ≡ drop t s = ap (λ (x : List ℕ). take (length A) (drop t s) ++ x) (ap (λ (n : ℕ). drop n s) ez ∙ sym (drop-drop (length A) t s)) ∙ take-append-drop (length A) (drop t s) in
    let e₀ : s ≡ take t s ++ (take (length A) (drop t s) ++ D) = sym (ap (λ (x : List ℕ). take t s ++ x) rest ∙ take-append-drop t s) in
    let e₁ : sets s t A ≡ P ++ (Q ++ (A ++ D))
    = ap (λ (x : List ℕ). sets x t A) e₀ ∙ sets_at (take t s) (take (length A) (drop t s)) D A t lT (sym lA)
    ∙ ap (λ (n : ℕ). take n s ++ (A ++ D)) et ∙ ap (λ (x : List ℕ). x ++ (A ++ D)) (take-add a (length O) s) ∙ append_assoc P Q (A ++ D) in
    let e₂ : sets (sets s t A) a O ≡ P ++ (O ++ (A ++ D)) = ap (λ (x : List ℕ). sets x a O) e₁ ∙ sets_at P Q (A ++ D) O a lP (sym lQ) in
    let e₃ : P ++ (O ++ (A ++ D)) ≡ (P ++ (O ++ A)) ++ (D ++ [])
    = ap (λ (x : List ℕ). P ++ x) (sym (append_assoc O A D)) ∙ sym (append_assoc P (O ++ A) D) ∙ ap (λ (x : List ℕ). (P ++ (O ++ A)) ++ x) (sym (append-nil D)) in
    let lF : length (P ++ (O ++ A)) ≡ z = length-append P (O ++ A) ∙ omega (arith, lP, et, ez, length-append O A) in
    ap (λ (x : List ℕ). sets x z Z) (e₂ ∙ e₃)
    ∙ sets_at (P ++ (O ++ A)) D [] Z z lF (lZ ∙ sym lD)
    ∙ ap (λ (x : List ℕ). (P ++ (O ++ A)) ++ x) (append-nil Z)
    ∙ append_assoc P (O ++ A) Z
    ∙ ap (λ (x : List ℕ). P ++ x) (append_assoc O A Z)

-- ---- the new entries in a store

module _ (L : Layout) (lawful : Lawful L) (s : List ℕ) (n : ℕ) (cs : List ℤ) {g : Gap} (gap : GapIs L s n g) {size : ℕ} (room : size ≡ entry_size L (length cs)) where
  abbrev b : List ℕ
  b = map nat_abs cs

  abbrev old-entries : List Entry
  old-entries = entries L s

  size-one : size_of L (one n b) ≡ size
  size-one = one_size L lawful n cs ∙ sym room

  size-put : size_of L (put n b old-entries) ≡ g.at + (size + (g.end - g.old))
  size-put =
      size-append L (below n old-entries) (one n b ++ above n old-entries)
      ∙ omega (arith, size-append L (one n b) (above n old-entries), size-one, gap.at, gap.old, gap.end, size_above L lawful s n gap.bytes)

  module _ (short : length s - (g.at + (g.end - g.old)) < size) where
    no_fit : false ≡ fits_in L s n b
    unfolding fits_in
    no_fit = sym (lt-leb (size_of L (put n b old-entries)) (length s) (omega (arith, size-put, short, gap.forth, gap.further, gap.inside)))

    pub too_short : refusal_of {A = Unit {0}} (Err StoreTooShort) ≡ demand (fits_in L s n b) 13 0
    unfolding refusal_of
    too_short = rw (← no_fit)

    pub not_touched : s ≡ put_in L s n b
    unfolding put_in
    not_touched = rw (← no_fit)

  module _ (fit : size ≤ length s - (g.at + (g.end - g.old))) where
    all_fit : size_of L (put n b old-entries) ≤ length s
    all_fit = omega (arith, size-put, fit, gap.forth, gap.further, gap.inside)

    a_fit : true ≡ fits_in L s n b
    unfolding fits_in
    a_fit = sym (le-leb (size_of L (put n b old-entries)) (length s) all_fit)

    pub in_room : refusal_of {A = Unit {0}} (Ok tt) ≡ demand (fits_in L s n b) 13 0
    unfolding refusal_of
    in_room = rw (← a_fit)

    rewritten : {t u v : List ℕ} → t ≡ sets s (g.at + size) (take (g.end - g.old) (drop g.old s)) → u ≡ sets t g.at (encoded L (one n b))
        → v ≡ sets u (g.at + size + (g.end - g.old)) (replicate (length u - (g.at + size + (g.end - g.old))) 0) → v ≡ put_in L s n b
    unfolding put_in
    rewritten {t} {u} {v} et eu ev =
        let a = g.at in
        let z = a + size + (g.end - g.old) in
        let O : List ℕ = encoded L (one n b) in
        let A : List ℕ = encoded L (above n old-entries) in
        let lu : length u ≡ length s = ap length eu ∙ length-sets t a O ∙ ap length et ∙ length-sets s (a + size) (take (g.end - g.old) (drop g.old s)) in
        let moved : take (g.end - g.old) (drop g.old s) ≡ A
        = ap (λ (k : ℕ). take (k - g.old) (drop g.old s)) gap.end ∙ ap (λ (k : ℕ). take (size_of L old-entries - k) (drop k s)) gap.old ∙ tail L lawful s n gap.bytes in
        let zp : z ≡ size_of L (put n b old-entries) = omega (arith, size-put) in
        let Z : List ℕ = replicate (length s - z) 0 in
        let w : v ≡ sets (sets (sets s (a + size) A) a O) z Z
        = ev ∙ ap (λ (k : ℕ). sets u z (replicate (k - z) 0)) lu ∙ ap (λ (l : List ℕ). sets l z Z) (eu ∙ ap (λ (l : List ℕ). sets l a O) (et ∙ ap (sets s (a + size)) moved)) in
        rw (← a_fit)
        (w
        ∙ placed s O A a (a + size) z (omega (arith, size-one)) (omega (arith, ap length moved, length-take (g.end - g.old) (drop g.old s), length-drop g.old s, gap.inside, gap.further)) (omega (arith, zp, all_fit))
        ∙ ap (λ (l : List ℕ). l ++ (O ++ (A ++ Z))) (ap (λ (k : ℕ). take k s) gap.at ∙ front L lawful s n gap.bytes)
        ∙ ap (λ (l : List ℕ). encoded L (below n old-entries) ++ l) (sym (append_assoc O A Z) ∙ ap (λ (l : List ℕ). l ++ Z) (sym (encoded-append L (one n b) (above n old-entries))))
        ∙ sym (append_assoc (encoded L (below n old-entries)) (encoded L (one n b ++ above n old-entries)) Z)
        ∙ ap (λ (l : List ℕ). l ++ Z) (sym (encoded-append L (below n old-entries) (one n b ++ above n old-entries)))
        ∙ ap (λ (k : ℕ). encoded L (put n b old-entries) ++ replicate (length s - k) 0) zp)

    -- the same of what the code moves, writes and clears
    pub in_place : {t u ys : List ℕ} → t ≡ copy_within s g.old g.end (g.at + size) → u ≡ sets t g.at (encoded L (one n b))
        → ys ≡ replicate (length (take (length u - (g.at + size + (g.end - g.old))) (drop (g.at + size + (g.end - g.old)) u))) 0
        → put_mid (g.at + size + (g.end - g.old)) (length u - (g.at + size + (g.end - g.old))) u ys ≡ put_in L s n b
    in_place {t} {u} {ys} et eu ey =
        let room : g.at + size + (g.end - g.old) ≤ length s = omega (arith, fit, gap.forth, gap.further, gap.inside) in
        let mt = moved s g.old g.end (g.at + size) gap.further gap.inside room et in
        let lu : length u ≡ length s = ap length eu ∙ length-sets t g.at (encoded L (one n b)) ∙ ap length mt ∙ length-sets s (g.at + size) (take (g.end - g.old) (drop g.old s)) in
        rewritten mt eu (cleared u (g.at + size + (g.end - g.old)) (omega (arith, lu, room)) ey)

pub ruleset placings = (three-size, three-lawful, too_short, not_touched, in_room, in_place)

-- ---- 8

module _ (L : Layout) (n : ℤ) (cs : List ℤ) where
  pub too_many : {longest : ℕ} → longest ≡ L.longest → longest < length cs → false ≡ may_define L n cs
  unfolding may_define
  too_many e h = rw (lt-leb (length cs) L.longest (omega (arith, e, h))) (sym (and_no (is_macro_number n)))

  -- the number comes back from the callee's contract as the machine reads it
  module _ (f : SFits w32 n) {k : Bool} (ek : k ≡ within 0 32767 (to_z w32 (of_z w32 n))) where
    number-of : {t : Bool} → k ≡ t → is_macro_number n ≡ t
    number-of e = sym (rw (to_z-of_z f) at ek) ∙ e

    pub number-outside : k ≡ false → false ≡ may_define L n cs
    unfolding may_define
    number-outside e = rw (number-of e)

    pub number-inside : {longest : ℕ} → longest ≡ L.longest → length cs ≤ longest → k ≡ true → {q : Bool} → q ≡ every (within 0 127) cs → q ≡ may_define L n cs
    unfolding may_define
    number-inside el h e j = rw (number-of e, le-leb (length cs) L.longest (omega (arith, el, h))) j

pub ruleset allowances = (three-longest, too_many, number-outside, number-inside)

-- ---- the call

-- where the first two tests pass, the answer is that of what comes next
goes_on : (a b : Bool) (next : ℕ) → a ≡ true → b ≡ true → demand a 12 (demand b 8 next) ≡ next
goes_on a b next x y = rw (x, y)

module _ (L : Layout) (s : List ℕ) (n : ℤ) (cs : List ℤ) where
  module _ (e : Refusal) (q : define_refusal L s n cs ≡ number_of e) where
    refused-said : refusal_of {A = Unit {0}} (Err e) ≡ define_refusal L s n cs
    unfolding refusal_of
    refused-said = sym q

    refused-kept : s ≡ store_after L s n cs
    unfolding store_after
    refused-kept = rw (q, not_nought e)

  module _ {k : ℕ} (ek : k ≡ nat_abs (to_z w32 (of_z w32 n))) {r : Option Gap} (er : SurveyIs L s k r) where
    module _ (e : r ≡ None) where
      twelve : define_refusal L s n cs ≡ 12
      unfolding define_refusal before_room
      twelve = rw (malformed_of L s k er e)

      pub malformed : refusal_of {A = Unit {0}} (Err StoreMalformed) ≡ define_refusal L s n cs
      malformed = refused-said StoreMalformed twelve

      pub malformed_kept : s ≡ store_after L s n cs
      malformed_kept = refused-kept StoreMalformed twelve

    module _ {g : Gap} (eg : r ≡ Some g) where
      pub gap-known : GapIs L s k g
      gap-known = (formed-of L s k er eg).gap

      module _ (f : SFits w32 n) {w : Bool} (ew : w ≡ may_define L (to_z w32 (of_z w32 n)) cs) where
        may_is : {t : Bool} → w ≡ t → may_define L n cs ≡ t
        may_is e = sym (rw (to_z-of_z f) at ew) ∙ e

        module _ (t : w ≡ false) where
          eight : define_refusal L s n cs ≡ 8
          unfolding define_refusal before_room
          eight = rw ((formed-of L s k er eg).formed, may_is t)

          pub may_not : refusal_of {A = Unit {0}} (Err NotValid) ≡ define_refusal L s n cs
          may_not = refused-said NotValid eight

          pub may_not_kept : s ≡ store_after L s n cs
          may_not_kept = refused-kept NotValid eight

        module _ (t : w ≡ true) where
          allowed : is_macro_number n && (leb (length cs) L.longest && every (within 0 127) cs) ≡ true
          unfolding may_define
          allowed = may_is t

          contents_allowed : leb (length cs) L.longest && every (within 0 127) cs ≡ true
          contents_allowed = and_right (is_macro_number n) (leb (length cs) L.longest && every (within 0 127) cs) allowed

          pub count-allowed : {longest : ℕ} → longest ≡ L.longest → length cs ≤ longest
          count-allowed e =
              let h = leb-true (length cs) L.longest (and_left (leb (length cs) L.longest) (every (within 0 127) cs) contents_allowed) in
              omega (arith, e, h)

          pub bytes-allowed : every (within 0 127) cs ≡ true
          bytes-allowed = and_right (leb (length cs) L.longest) (every (within 0 127) cs) contents_allowed

          number_is : k ≡ nat_abs n
          number_is = rw (to_z-of_z f) at ek

          pub number-allowed : k ≤ 32767
          number-allowed =
              let h : nat_abs n ≤ 32767 = (within-range 0 32767 n (and_left (is_macro_number n) (leb (length cs) L.longest && every (within 0 127) cs) allowed)).1.0 in
              omega (arith, number_is, h)

          last : define_refusal L s n cs ≡ demand (fits_in L s k (map nat_abs cs)) 13 0
          unfolding define_refusal before_room fits_in
          last =
              goes_on (well_formed L s) (may_define L n cs) _ (formed-of L s k er eg).formed (may_is t)
              ∙ ap (λ (m : ℕ). demand (leb (size_of L (put m (map nat_abs cs) (entries L s))) (length s)) 13 0) (sym number_is)

          pub is-defined : {a : ℕ} → a ≡ demand (fits_in L s k (map nat_abs cs)) 13 0 → a ≡ define_refusal L s n cs
          is-defined ea = ea ∙ sym last

          pub store-defined : {u : List ℕ} → u ≡ put_in L s k (map nat_abs cs) → u ≡ store_after L s n cs
          unfolding store_after put_in
          store-defined {u} eu = go (fits_in L s k (map nat_abs cs)) refl
            where
              go : (q : Bool) → fits_in L s k (map nat_abs cs) ≡ q → u ≡ store_after L s n cs
              go true e = rw (last, e) (eu ∙ rw e (ap (λ (m : ℕ). stored L (length s) (put m (map nat_abs cs) (entries L s))) number_is))
              go false e = rw (last, e) (eu ∙ rw e)

pub ruleset definings = (three-longest, malformed, malformed_kept, gap-known, may_not, may_not_kept, count-allowed, bytes-allowed, number-allowed, is-defined, store-defined)
