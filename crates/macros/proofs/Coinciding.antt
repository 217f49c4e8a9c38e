-- Two conforming answers of a call that looks into stores coincide. What is_well_formed gives is fixed as it stands; of what look_up and
-- look_by_headers give, where it points and the bytes are.
use Prim.Native.Nat.{ℕ}
use mathlib.Core.Path.{◌≡◌, refl, sym, ◌∙◌, ap}
use mathlib.Core.List.{List}
use lib.Dec.{eqb}
use Rattle.refusals.specs.Answers.{pick}
use Rattle.refusals.proofs.Cases.{bool_apart}
use Rattle.refusals.proofs.Numbers.{not_nought}
use Rattle.refusals.proofs.Coinciding.{named, named_back, coincide}
use Rattle.std.specs.Prelude.{Option, Some, None, Result, Ok, Err}
use Rattle.refusals.specs.declared.Refusal.{Refusal}
use Rattle.refusals.specs.Answers.{refusal_of}
use Rattle.macros.specs.declared.Place.{Place}
use Rattle.macros.specs.declared.Gap.{Gap}
use Rattle.macros.specs.Store.{Layout, Placed, body_place_of}
use Rattle.macros.specs.Fronts.{SurveyIs}

finding-back : ℕ → Result (Unit {0}) Refusal
finding-back k = pick (eqb k 0) (Ok tt) (Err (named k))

finding-same : (r : Result (Unit {0}) Refusal) → finding-back (refusal_of r) ≡ r
unfolding refusal_of finding-back
finding-same (Ok tt) = refl
finding-same (Err e) = rw (not_nought e) (ap Err (named_back e))

pub findings_coincide : {x y : Result (Unit {0}) Refusal} {d : ℕ} → refusal_of x ≡ d → refusal_of y ≡ d → x ≡ y
findings_coincide = coincide refusal_of finding-back finding-same

place-back : Placed → Result Place Refusal
place-back p =
    pick (eqb p.number 0)
    (Ok (pick (eqb p.store 1) (Place.InVolatile (record { offset = p.offset; long = p.long })) (Place.InSaved (record { offset = p.offset; long = p.long }))))
    (Err (named p.number))

place_same : (r : Result Place Refusal) → place-back (body_place_of r) ≡ r
unfolding body_place_of place-back
place_same (Ok (Place.InVolatile part)) = refl
place_same (Ok (Place.InSaved part)) = refl
place_same (Err e) = rw (not_nought e) (ap Err (named_back e))

pub places-coincide : {x y : Result Place Refusal} {d : Placed} → body_place_of x ≡ d → body_place_of y ≡ d → x ≡ y
places-coincide = coincide body_place_of place-back place_same

gap_of : (at old end : ℕ) → Gap
gap_of at old end = record { at = at; old = old; end = end }

gaps_same : (g h : Gap) → g.at ≡ h.at → g.old ≡ h.old → g.end ≡ h.end → g ≡ h
unfolding gap_of
gaps_same g h a b c =
    ap (λ (x : ℕ). gap_of x g.old g.end) a ∙ ap (λ (x : ℕ). gap_of h.at x g.end) b ∙ ap (gap_of h.at h.old) c

module _ (L : Layout) (s : List ℕ) (number : ℕ) where
  pub surveys_coincide : (x y : Option Gap) → SurveyIs L s number x → SurveyIs L s number y → x ≡ y
  unfolding SurveyIs
  surveys_coincide (Some g) (Some h) a b =
      ap Some (gaps_same g h (a.gap.at ∙ sym b.gap.at) (a.gap.old ∙ sym b.gap.old) (a.gap.end ∙ sym b.gap.end))
  surveys_coincide (Some g) None a b = absurd (bool_apart (sym b ∙ a.formed))
  surveys_coincide None (Some h) a b = absurd (bool_apart (sym a ∙ b.formed))
  surveys_coincide None None a b = refl
