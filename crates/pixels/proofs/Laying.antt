-- Laws of the laying: a step keeps the beam inside, marks laid one behind another are laid as one list, and a beam's place lies on the surface.
use Prim.Native.Nat.{ℕ, ◌+◌, ◌-◌, ◌*◌, ◌≤◌, ◌<◌}
use mathlib.Core.Path.{◌≡◌, refl, ◌∙◌, ap}
use mathlib.Core.Bool.{true, ◌&&◌}
use mathlib.Core.List.{List, [], ◌∷◌, ◌++◌}
use native.Mathlib.Omega.{arith}
use lib.Arith.{digits_lt}
use lib.Dec.{leb, ltb, eqb}
use lib.ListN.{length, get_or, set, length-set}
use borrow.Author.Tests.{leb-true, ltb-true, ltb-false, eqb-true}
use Rattle.refusals.proofs.Cases.{by_pick, and_left, and_right}
use Rattle.beam.specs.declared.Beam.{Beam}
use Rattle.beam.specs.Validity.{is_size, on_surface, in_viewport, is_valid}
use Rattle.beam.specs.Settings.{beam_at, stepped}
use Rattle.pixel_refusals.specs.Tests.{is_surface}
use Rattle.pixel_refusals.proofs.Looking.{area_le, size_of}
use Rattle.pixels.specs.Marks.{Mark, act, place, laid, moved}
use Rattle.pixels.specs.Standing.{BeamInside, Ready}

-- ---- the beam's place

pub place-lt : {w h : ℕ} {beam : Beam} → BeamInside w h beam → place w h beam < h * w
unfolding place
place-lt {w} {h} {beam} v = digits_lt {q = h - 1 - beam.y} {m = h} {r = beam.x} {c = w} (omega arith) (omega arith)

-- the beam's index, as the code works it out, is below the surface's length, which is small
pub place_within : {w h : ℕ} {beam : Beam} {n : ℕ} → Ready w h beam n → ((h - 1 - beam.y) * w + beam.x < n) × (n ≤ 262144)
unfolding place
place_within {w} {h} {beam} {n} r =
    let l : (h - 1 - beam.y) * w + beam.x < h * w = place-lt r.inside in
    let a : h * w ≤ 262144 = area_le r.narrow r.short in
    omega arith

-- ---- one step

-- what holds of the three ways of a step holds of the step
pub by_step : (P : Beam → Type 0) (beam : Beam) → (beam.x < beam.right → P (beam_at beam (beam.x + 1) beam.y))
    → (beam.right ≤ beam.x → beam.bottom < beam.y → P (beam_at beam beam.left (beam.y - 1)))
    → (beam.right ≤ beam.x → beam.y ≤ beam.bottom → P (beam_at beam beam.left beam.top)) → P (stepped beam)
unfolding stepped
by_step P beam f g k =
    by_pick P (ltb beam.x beam.right) _ _ (λ t. f (ltb-true beam.x beam.right t))
    (λ t. by_pick P (ltb beam.bottom beam.y) _ _ (λ u. g (ltb-false beam.x beam.right t) (ltb-true beam.bottom beam.y u))
    (λ u. k (ltb-false beam.x beam.right t) (ltb-false beam.bottom beam.y u)))

pub step-inside : {w h : ℕ} {beam : Beam} → BeamInside w h beam → BeamInside w h (stepped beam)
step-inside {w} {h} {beam} v = by_step (BeamInside w h) beam (λ l. omega arith) (λ l m. omega arith) (λ l m. omega arith)

pub step-bits : (beam : Beam) → (stepped beam).bits ≡ beam.bits
step-bits beam = by_step (λ (b : Beam). b.bits ≡ beam.bits) beam (λ l. refl) (λ l m. refl) (λ l m. refl)

-- ---- marks

pub laid-append : (w h : ℕ) (xs ys : List Mark) (beam : Beam) (s : List ℕ) → laid w h (xs ++ ys) beam s ≡ laid w h ys (moved xs beam) (laid w h xs beam s)
unfolding laid moved
laid-append w h [] ys beam s = refl
laid-append w h (x ∷ xs) ys beam s = laid-append w h xs ys (stepped beam) (set s (place w h beam) (act x (get_or s (place w h beam) 0)))

pub moved-append : (xs ys : List Mark) (beam : Beam) → moved (xs ++ ys) beam ≡ moved ys (moved xs beam)
unfolding moved
moved-append [] ys beam = refl
moved-append (x ∷ xs) ys beam = moved-append xs ys (stepped beam)

pub laid-length : (w h : ℕ) (ms : List Mark) (beam : Beam) (s : List ℕ) → length (laid w h ms beam s) ≡ length s
unfolding laid
laid-length w h [] beam s = refl
laid-length w h (m ∷ ms) beam s =
    laid-length w h ms (stepped beam) (set s (place w h beam) (act m (get_or s (place w h beam) 0))) ∙ length-set s (place w h beam) (act m (get_or s (place w h beam) 0))

pub moved_inside : {w h : ℕ} (ms : List Mark) {beam : Beam} → BeamInside w h beam → BeamInside w h (moved ms beam)
unfolding moved
moved_inside [] v = v
moved_inside (m ∷ ms) v = moved_inside ms (step-inside v)

pub moved-bits : (ms : List Mark) (beam : Beam) → (moved ms beam).bits ≡ beam.bits
unfolding moved
moved-bits [] beam = refl
moved-bits (m ∷ ms) beam = moved-bits ms (stepped beam) ∙ step-bits beam

-- a surface that may be drawn on, and the bits, stay so behind marks
module _ (ms : List Mark) (beam : Beam) {next : Beam} (e : next ≡ moved ms beam) where
  pub ready_behind : {w h m n : ℕ} → m ≡ n → Ready w h beam n → Ready w h next m
  ready_behind l r = record { inside = rw e (moved_inside ms r.inside); whole = l ∙ r.whole; narrow = r.narrow; short = r.short }

  pub bits_behind : next.bits ≡ beam.bits
  bits_behind = ap (λ (b : Beam). b.bits) e ∙ moved-bits ms beam

-- ---- what the tests tell

pub inside_of : (w h : ℕ) (beam : Beam) → is_valid w h beam ≡ true → BeamInside w h beam
unfolding is_valid on_surface in_viewport
inside_of w h beam e =
    let l = leb beam.left beam.x in
    let r = leb beam.x beam.right in
    let b = leb beam.bottom beam.y in
    let t = leb beam.y beam.top in
    let s = and_left (ltb beam.right w && ltb beam.top h) _ e in
    let v : l && (r && (b && t)) ≡ true = and_left (l && (r && (b && t))) _ (and_right (ltb beam.right w && ltb beam.top h) _ e) in
    let v₁ = and_right l _ v in
    let v₂ = and_right r _ v₁ in
    record {
      from-left = leb-true beam.left beam.x (and_left l _ v);
      to_right = leb-true beam.x beam.right (and_left r _ v₁);
      wide = ltb-true beam.right w (and_left (ltb beam.right w) (ltb beam.top h) s);
      from-bottom = leb-true beam.bottom beam.y (and_left b t v₂);
      to_top = leb-true beam.y beam.top (and_right b t v₂);
      tall = ltb-true beam.top h (and_right (ltb beam.right w) (ltb beam.top h) s);
    }

pub ready_of : (w h size : ℕ) (beam : Beam) → is_surface w h size ≡ true → is_valid w h beam ≡ true → Ready w h beam size
unfolding is_surface
ready_of w h size beam e v =
    let n = size_of w h (and_left (is_size w h) (eqb size (h * w)) e) in
    record { inside = inside_of w h beam v; whole = eqb-true size (h * w) (and_right (is_size w h) (eqb size (h * w)) e); narrow = n.0; short = n.1 }
