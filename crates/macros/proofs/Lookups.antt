-- Looking up, by what one pass over each store gave.
use Prim.Native.Nat.{ℕ, ◌+◌, ◌-◌, ◌≤◌, ◌<◌}
use mathlib.Core.Path.{◌≡◌, refl, sym, ◌∙◌, ap, subst}
use mathlib.Core.Bool.{Bool, true, false, ◌&&◌}
use mathlib.Core.List.{List, []}
use native.Mathlib.Nat.{zero-add}
use native.Mathlib.Omega.{arith}
use borrow.Author.Tests.{le-leb, leb-true, ltb-true, ltb-false}
use lib.Arith.{lt_of_le-ne}
use lib.Dec.{leb, ltb}
use lib.ListN.{length, take, drop}
use lib.IntN.{ℤ, nat_abs}
use mir.Syntax.{w32}
use mir.Val.{SFits, to_z, of_z}
use mir.Facts.{to_z-of_z}
use Rattle.refusals.specs.declared.Refusal.{Refusal}
use Rattle.refusals.specs.declared.Refusal.TheVariants.{NotValid, StoreMalformed, NoSuchMacro}
use Rattle.refusals.specs.Refusals.{number_of}
use Rattle.refusals.specs.Answers.{demand, pick, refusal_of}
use Rattle.std.specs.Prelude.{Option, Some, None, Result, Ok, Err}
use Rattle.std.proofs.lemmas.Option.{none-some, same_Some}
use Rattle.refusals.proofs.Numbers.{not_nought}
use Rattle.ranges.specs.Ranges.{within}
use Rattle.macros.specs.declared.Gap.{Gap}
use Rattle.macros.specs.declared.Part.{Part}
use Rattle.macros.specs.declared.Place.{Place}
use Rattle.macros.specs.Store.{Layout, size_of, below, entries, well_formed, is_macro_number, body_of, body_in_either, look_refusal, find_refusal, looked_up, Placed, placed, store_named, bytes_placed, body_pointer, body_place_of, entry_size}
use Rattle.macros.specs.Fronts.{GapIs, FormedIs, SurveyIs, body_between}
use Rattle.macros.proofs.Layouts.{Lawful, three-size, three-lawful}
use Rattle.macros.proofs.Reading.{room-none, room-some}
use Rattle.macros.proofs.Fronts.{formed-of, malformed_of}
use Rattle.macros.proofs.Locations.{stand, either_first, either_second, placed-number, located-part, located-inside}

-- ---- the body between where a macro's entry begins and where it ends

module _ (L : Layout) (lawful : Lawful L) (s : List ℕ) (k : ℕ) {g : Gap} (gap : GapIs L s k g) where
  abbrev long : ℕ
  long = length (body_of k (entries L s))

  between : g.old ≡ g.at + entry_size L long
  between = omega (arith, gap.at, gap.old, (stand L lawful k s).room)

  body-between : g.at < g.old → (1 ≤ long) × (g.old ≡ g.at + L.size + long)
  body-between h =
      let some : long ≡ 0 → ⊥ = λ e. omega (arith, h, between, room-none L long e) in
      (one-or_more long some, omega (arith, between, room-some L long refl some))
    where
      one-or_more : (c : ℕ) → (c ≡ 0 → ⊥) → 1 ≤ c
      one-or_more c d = lt_of_le-ne (omega arith) (λ e. d (sym e))

  none_between : g.old ≤ g.at → leb 1 long ≡ false
  none_between h = go (leb 1 long) refl
    where
      go : (t : Bool) → leb 1 long ≡ t → leb 1 long ≡ false
      go true e =
          let l : 1 ≤ long = leb-true 1 long e in
          absurd (omega (arith, h, between, room-some L long refl (λ z. omega (arith, l, z))))
      go false e = e

  module _ {size : ℕ} (es : size ≡ L.size) (h : g.at < g.old) where
    some-there : leb 1 long ≡ true
    some-there = le-leb 1 long (body-between h).0

    offset-there : g.at + size ≡ size_of L (below k (entries L s)) + L.size
    offset-there = omega (arith, es, gap.at)

    long-there : g.old - (g.at + size) ≡ long
    long-there = omega (arith, es, (body-between h).1)

-- what lies between, as the code makes it
module _ (L : Layout) (g : Gap) where
  abbrev lies : Part
  lies = record { offset = g.at + L.size; long = g.old - (g.at + L.size) }

  between_some : {p : Part} → body_between L g ≡ Some p → (g.at < g.old) × (lies ≡ p)
  unfolding body_between
  between_some {p} = go (ltb g.at g.old) refl
    where
      go : (t : Bool) → ltb g.at g.old ≡ t → pick t (Some lies) None ≡ Some p → (g.at < g.old) × (lies ≡ p)
      go true q e = (ltb-true g.at g.old q, same_Some lies p e)
      go false q e = absurd (none-some p e)

  between_none : body_between L g ≡ None → g.old ≤ g.at
  unfolding body_between
  between_none = go (ltb g.at g.old) refl
    where
      go : (t : Bool) → ltb g.at g.old ≡ t → ◌≡◌ {A = Option Part} (pick t (Some lies) None) None → g.old ≤ g.at
      go true q e = absurd (none-some lies (sym e))
      go false q e = ltb-false g.at g.old q

-- the header of an entry that is there
module _ (L : Layout) (lawful : Lawful L) (s : List ℕ) (k : ℕ) (a : Option Gap) (ea : SurveyIs L s k a) {g : Gap} (eg : a ≡ Some g) {size : ℕ} (es : size ≡ L.size) where
  pub header_there : g.at < g.old → g.at + size ≤ g.old
  header_there h = omega (arith, es, (body-between L lawful s k (formed-of L s k ea eg).gap h).1)

-- ---- locating

module _ (L : Layout) (v s : List ℕ) (n : ℤ) where
  refused-place : (e : Refusal) → find_refusal L v s n ≡ number_of e → body_place_of (Err e) ≡ placed L v s n
  unfolding body_place_of placed
  refused-place e q = rw (q, not_nought e)

  malformed_either : well_formed L v && well_formed L s ≡ false → body_place_of (Err StoreMalformed) ≡ placed L v s n
  unfolding find_refusal look_refusal
  malformed_either t = refused-place StoreMalformed (rw t)

  module _ {k : ℕ} (ek : k ≡ nat_abs (to_z w32 (of_z w32 n))) (a : Option Gap) (ea : SurveyIs L v k a) where
    pub first-malformed : a ≡ None → body_place_of (Err StoreMalformed) ≡ placed L v s n
    first-malformed e = malformed_either (rw (malformed_of L v k ea e))

    module _ (b : Option Gap) (eb : SurveyIs L s k b) {g : Gap} (eg : a ≡ Some g) where
      one : FormedIs L v k g
      one = formed-of L v k ea eg

      pub second-malformed : b ≡ None → body_place_of (Err StoreMalformed) ≡ placed L v s n
      second-malformed e = malformed_either (rw (one.formed, malformed_of L s k eb e))

      -- the number comes back from the callee's contract as the machine reads it
      module _ {h : Gap} (eh : b ≡ Some h) (f : SFits w32 n) {w : Bool} (ew : w ≡ within 0 32767 (to_z w32 (of_z w32 n))) where
        other : FormedIs L s k h
        other = formed-of L s k eb eh

        inside_is : {t : Bool} → w ≡ t → is_macro_number n ≡ t
        inside_is e = sym (rw (to_z-of_z f) at ew) ∙ e

        pub outside : w ≡ false → body_place_of (Err NotValid) ≡ placed L v s n
        unfolding find_refusal look_refusal
        outside t = refused-place NotValid (rw (one.formed, other.formed, inside_is t))

        module _ (t : w ≡ true) (lawful : Lawful L) where
          number_is : k ≡ nat_abs n
          number_is = rw (to_z-of_z f) at ek

          last : find_refusal L v s n ≡ demand (leb 1 (length (body_in_either L v s k))) 14 0
          unfolding find_refusal look_refusal
          last = rw (one.formed, other.formed, inside_is t, number_is)

          pub in_volatile : {p : Part} → body_between L g ≡ Some p → body_place_of (Ok (Place.InVolatile p)) ≡ placed L v s n
          unfolding body_place_of placed body_in_either
          in_volatile e =
              let gap = one.gap in
              let l = between_some L g e in
              let u = some-there L lawful v k gap refl l.0 in
              let z : find_refusal L v s n ≡ 0 = last ∙ rw (either_first (body_of k (entries L v)) (body_of k (entries L s)) u, u) in
              rw (← l.1, z, ← number_is, u, long-there L lawful v k gap refl l.0, offset-there L lawful v k gap refl l.0)

          module _ (l : body_between L g ≡ None) where
            none : leb 1 (length (body_of k (entries L v))) ≡ false
            none = none_between L lawful v k one.gap (between_none L g l)

            pub in_saved : {p : Part} → body_between L h ≡ Some p → body_place_of (Ok (Place.InSaved p)) ≡ placed L v s n
            unfolding body_place_of placed body_in_either
            in_saved e =
                let gap = other.gap in
                let m = between_some L h e in
                let z : find_refusal L v s n ≡ 0 = last ∙ rw (either_second (body_of k (entries L v)) (body_of k (entries L s)) none, some-there L lawful s k gap refl m.0) in
                rw (← m.1, z, ← number_is, none, long-there L lawful s k gap refl m.0, offset-there L lawful s k gap refl m.0)

            pub in_neither : body_between L h ≡ None → body_place_of (Err NoSuchMacro) ≡ placed L v s n
            unfolding body_in_either
            in_neither m =
                refused-place NoSuchMacro (last ∙ rw (either_second (body_of k (entries L v)) (body_of k (entries L s)) none, none_between L lawful s k other.gap (between_none L h m)))

pub ruleset locatings = (three-size, three-lawful, first-malformed, second-malformed, outside, header_there, in_volatile, in_saved, in_neither)

-- ---- the part that is located, and whether there is one

-- the number comes back from the callee's contract as the machine reads it
module _ (L : Layout) (v s : List ℕ) (n : ℤ) (f : SFits w32 n) (r : Result Place Refusal) (er : body_place_of r ≡ placed L v s (to_z w32 (of_z w32 n))) where
  said : body_place_of r ≡ placed L v s n
  said = rw (to_z-of_z f) at er

  number-said : (body_place_of r).number ≡ find_refusal L v s n
  number-said = ap (λ (x : Placed). x.number) said ∙ placed-number L v s n

  part-said : Lawful L → bytes_placed (body_place_of r) v s ≡ looked_up L v s n
  part-said lawful = subst (λ (x : Placed). bytes_placed x v s ≡ looked_up L v s n) (sym said) (located-part L v s n lawful)

  inside-said : Lawful L → (body_place_of r).offset + (body_place_of r).long ≤ length (store_named (body_place_of r) v s)
  inside-said lawful = subst (λ (x : Placed). x.offset + x.long ≤ length (store_named x v s)) (sym said) (located-inside L v s n lawful)

  -- where the part points, by where the stores' references point
  pointer_said : (pv ps : ℕ × ℕ) → body_pointer (body_place_of r) pv ps ≡ body_pointer (placed L v s n) pv ps
  pointer_said pv ps = ap (λ (x : Placed). body_pointer x pv ps) said

no_refusal : (x : Place) → 0 ≡ (body_place_of (Ok x)).number
unfolding body_place_of
no_refusal (Place.InVolatile part) = refl
no_refusal (Place.InSaved part) = refl

module _ (L : Layout) (v s : List ℕ) (n : ℤ) (f : SFits w32 n) where
  module _ (x : Place) (er : body_place_of (Ok x) ≡ placed L v s (to_z w32 (of_z w32 n))) where
    pub is_found : refusal_of {A = Unit {0}} (Ok tt) ≡ find_refusal L v s n
    unfolding refusal_of
    is_found = no_refusal x ∙ number-said L v s n f (Ok x) er

    module _ {p : Part} (e : x ≡ Place.InVolatile p) where
      at_volatile : body_place_of (Ok (Place.InVolatile p)) ≡ placed L v s (to_z w32 (of_z w32 n))
      at_volatile = rw e at er

      pub volatile_inside : Lawful L → p.offset + p.long ≤ length v
      unfolding body_place_of
      volatile_inside lawful = inside-said L v s n f (Ok (Place.InVolatile p)) at_volatile lawful

      pub volatile_part : Lawful L → {b : List ℕ} → b ≡ take p.long (drop p.offset v) → b ≡ looked_up L v s n
      unfolding body_place_of
      volatile_part lawful h = h ∙ part-said L v s n f (Ok (Place.InVolatile p)) at_volatile lawful

      pub volatile_pointer : (pv ps pb : ℕ × ℕ) → pb.0 ≡ pv.0 → pb.1 ≡ p.offset + pv.1 → pb ≡ body_pointer (placed L v s n) pv ps
      unfolding body_place_of body_pointer
      volatile_pointer pv ps pb e₀ e₁ =
          ap (λ (i : ℕ). (i, pb.1)) e₀ ∙ ap (λ (i : ℕ). (pv.0, i)) e₁ ∙ pointer_said L v s n f (Ok (Place.InVolatile p)) at_volatile pv ps

    module _ {p : Part} (e : x ≡ Place.InSaved p) where
      at_saved : body_place_of (Ok (Place.InSaved p)) ≡ placed L v s (to_z w32 (of_z w32 n))
      at_saved = rw e at er

      pub saved_inside : Lawful L → p.offset + p.long ≤ length s
      unfolding body_place_of
      saved_inside lawful = inside-said L v s n f (Ok (Place.InSaved p)) at_saved lawful

      pub saved_part : Lawful L → {b : List ℕ} → b ≡ take p.long (drop p.offset s) → b ≡ looked_up L v s n
      unfolding body_place_of
      saved_part lawful h = h ∙ part-said L v s n f (Ok (Place.InSaved p)) at_saved lawful

      pub saved_pointer : (pv ps pb : ℕ × ℕ) → pb.0 ≡ ps.0 → pb.1 ≡ p.offset + ps.1 → pb ≡ body_pointer (placed L v s n) pv ps
      unfolding body_place_of body_pointer
      saved_pointer pv ps pb e₀ e₁ =
          ap (λ (i : ℕ). (i, pb.1)) e₀ ∙ ap (λ (i : ℕ). (ps.0, i)) e₁ ∙ pointer_said L v s n f (Ok (Place.InSaved p)) at_saved pv ps

  module _ (e : Refusal) (er : body_place_of (Err e) ≡ placed L v s (to_z w32 (of_z w32 n))) where
    pub not_found : refusal_of {A = Unit {0}} (Err e) ≡ find_refusal L v s n
    unfolding refusal_of body_place_of
    not_found = number-said L v s n f (Err e) er

    pub empty_part : Lawful L → [] ≡ looked_up L v s n
    unfolding body_place_of
    empty_part lawful = part-said L v s n f (Err e) er lawful

    pub empty_pointer : (pv ps : ℕ × ℕ) → ps ≡ body_pointer (placed L v s n) pv ps
    unfolding body_place_of body_pointer
    empty_pointer pv ps = ap (λ (k : ℕ). (ps.0, k)) (sym (zero-add ps.1)) ∙ pointer_said L v s n f (Err e) er pv ps

pub ruleset findings = (is_found, not_found)
