-- The beam goes round its viewport: each place of it once in a round, and no other place of the surface.
use Prim.Native.Nat.{ℕ, zero, suc, ◌+◌, ◌-◌, ◌*◌, ◌/◌, ◌%◌, ◌≤◌, ◌<◌}
use mathlib.Core.Path.{◌≡◌, refl, sym, ◌∙◌, ap}
use mathlib.Core.Bool.{false}
use native.Mathlib.Nat.{mod-lt, mod-eq_of_lt, mod_self, mod-add-mod, add-mod_right, mod-eq-sub-mod, div-lt_iff_lt-mul, div-add-mod', add-zero, add-suc, suc-add, suc-mul, zero-mul, mul-pos}
use native.Mathlib.Decide.{dec_lt}
use native.Mathlib.Omega.{arith}
use lib.ListN.{replicate}
use lib.Arith.{digits_lt, digits_div, digits_mod}
use borrow.Author.Tests.{le-leb}
use Rattle.beam.specs.declared.Beam.{Beam}
use Rattle.beam.specs.Validity.{in_viewport}
use Rattle.beam.specs.Settings.{beam_at, stepped}
use Rattle.pixels.specs.Marks.{gap, place, moved}
use Rattle.pixels.specs.Standing.{BeamInside}
use Rattle.pixels.proofs.Laying.{by_step}
use Rattle.balance.specs.Balance.{area, track, is_outside}
use Rattle.balance.proofs.Track.{Round}

-- the viewport's columns and rows, and its place number p, counted from the upper left along the rows
abbrev columns : Beam → ℕ
columns b = b.right - b.left + 1

abbrev rows : Beam → ℕ
rows b = b.top - b.bottom + 1

abbrev seat : Beam → ℕ → Beam
seat b p = beam_at b (b.left + p % columns b) (b.top - p / columns b)

abbrev seat_of : Beam → ℕ
seat_of b = (b.top - b.y) * columns b + (b.x - b.left)

-- ---- a step goes to the next number

seat_at : (b : Beam) (q r : ℕ) {x y : ℕ} → r < columns b → x ≡ b.left + r → y ≡ b.top - q → beam_at b x y ≡ seat b (q * columns b + r)
seat_at b q r l ex ey = rw (ex, ey, digits_div q l, digits_mod q l)

step-at : {w h : ℕ} {b : Beam} → BeamInside w h b → (q r : ℕ) → q < rows b → r < columns b
    → stepped (beam_at b (b.left + r) (b.top - q)) ≡ seat b (suc (q * columns b + r) % area b)
step-at {b = b} v q r l m =
    by_step (λ (n : Beam). n ≡ seat b (suc (q * columns b + r) % area b)) (beam_at b (b.left + r) (b.top - q))
    (λ i.
    let s : suc r < columns b = omega arith in
    let n : suc (q * columns b + r) ≡ q * columns b + suc r = omega arith in
    rw (n, mod-eq_of_lt (digits_lt l s)) (seat_at b q (suc r) s (omega arith) refl))
    (λ i j.
    let z : 0 < columns b = omega arith in
    let s : suc q < rows b = omega arith in
    let n : suc (q * columns b + r) ≡ suc q * columns b + 0 = omega (arith, suc-mul q (columns b)) in
    rw (n, mod-eq_of_lt (digits_lt s z)) (seat_at b (suc q) 0 z (omega arith) (omega arith)))
    (λ i j.
    let z : 0 < columns b = omega arith in
    let k : rows b ≡ suc q = omega arith in
    let n : suc (q * columns b + r) ≡ area b = rw k (omega (arith, suc-mul q (columns b))) in
    let o : 0 * columns b + 0 ≡ 0 = omega (arith, zero-mul (columns b)) in
    rw (n, mod_self (area b)) (seat_at b 0 0 z (omega arith) (omega arith) ∙ ap (seat b) o))

module _ {w h : ℕ} {b : Beam} (v : BeamInside w h b) where
  row_lt : (p : ℕ) → p < area b → p / columns b < rows b
  row_lt p l = (div-lt_iff_lt-mul {k = columns b} {x = p} {y = rows b} (omega arith)).1 l

  column_lt : (p : ℕ) → p % columns b < columns b
  column_lt p = mod-lt p (omega arith)

  area-pos : 0 < area b
  area-pos = mul-pos (omega arith) (omega arith)

  step-seat : (p : ℕ) → p < area b → stepped (seat b p) ≡ seat b (suc p % area b)
  step-seat p l =
      step-at v (p / columns b) (p % columns b) (row_lt p l) (column_lt p) ∙ ap (λ (n : ℕ). seat b (suc n % area b)) (div-add-mod' p (columns b))

  moved-seat : (k p : ℕ) → p < area b → moved (replicate k gap) (seat b p) ≡ seat b ((p + k) % area b)
  unfolding moved
  moved-seat zero p l = ap (seat b) (sym (ap (λ (n : ℕ). n % area b) (add-zero p) ∙ mod-eq_of_lt l))
  moved-seat (suc k) p l =
      ap (moved (replicate k gap)) (step-seat p l) ∙ moved-seat k (suc p % area b) (mod-lt (suc p) area-pos)
      ∙ ap (seat b) (mod-add-mod (suc p) (area b) k ∙ ap (λ (n : ℕ). n % area b) (suc-add p k ∙ sym (add-suc p k)))

  seated : b ≡ seat b (seat_of b)
  seated = seat_at b (b.top - b.y) (b.x - b.left) (omega arith) (omega arith) (omega arith)

  -- the beam after k steps
  stands : (k : ℕ) → moved (replicate k gap) b ≡ seat b ((seat_of b + k) % area b)
  stands k =
      ap (moved (replicate k gap)) seated
      ∙ moved-seat k (seat_of b) (digits_lt {q = b.top - b.y} {m = rows b} {r = b.x - b.left} {c = columns b} (omega arith) (omega arith))

  -- ---- a place's column and row

  column_of : (p : ℕ) → place w h (seat b p) % w ≡ b.left + p % columns b
  unfolding place
  column_of p = digits_mod (h - 1 - (b.top - p / columns b)) (omega (arith, column_lt p))

  row_of : (p : ℕ) → h - 1 - place w h (seat b p) / w ≡ b.top - p / columns b
  unfolding place
  row_of p =
      let e : place w h (seat b p) / w ≡ h - 1 - (b.top - p / columns b) = digits_div (h - 1 - (b.top - p / columns b)) (omega (arith, column_lt p)) in
      rw e (omega arith)

  place_inside : (p : ℕ) → p < area b → is_outside w h b (place w h (seat b p)) ≡ false
  unfolding in_viewport
  place_inside p l =
      let c : p % columns b < columns b = column_lt p in
      let r : p / columns b < rows b = row_lt p l in
      let c₁ = le-leb b.left (b.left + p % columns b) (omega arith) in
      let c₂ = le-leb (b.left + p % columns b) b.right (omega arith) in
      let r₁ = le-leb b.bottom (b.top - p / columns b) (omega arith) in
      let r₂ = le-leb (b.top - p / columns b) b.top (omega arith) in
      rw (column_of p, row_of p, c₁, c₂, r₁, r₂)

  -- two numbers of one place are the same
  one_number : (p q : ℕ) → p < area b → q < area b → place w h (seat b p) ≡ place w h (seat b q) → p ≡ q
  one_number p q l m e =
      let c : b.left + p % columns b ≡ b.left + q % columns b = sym (column_of p) ∙ ap (λ (n : ℕ). n % w) e ∙ column_of q in
      let r : b.top - p / columns b ≡ b.top - q / columns b = sym (row_of p) ∙ ap (λ (n : ℕ). h - 1 - n / w) e ∙ row_of q in
      let c' : p % columns b ≡ q % columns b = omega arith in
      let r' : p / columns b ≡ q / columns b = omega (arith, row_lt p l, row_lt q m) in
      sym (div-add-mod' p (columns b)) ∙ (rw (c', r') (div-add-mod' q (columns b)))

-- ---- going round

-- less than a round further is elsewhere
mod_apart : (a u d : ℕ) → 0 < d → d < a → u % a ≡ (u + d) % a → ⊥
mod_apart a u d l m e = go (dec_lt (u % a + d) a)
  where
    b : u % a < a
    b = mod-lt u (omega arith)

    f : u % a ≡ (u % a + d) % a
    f = e ∙ sym (mod-add-mod u a d)

    go : Dec (u % a + d < a) → ⊥
    go (yes n) = omega (arith, b, f ∙ mod-eq_of_lt n)
    go (no n) =
        let o : a ≤ u % a + d = omega arith in
        let i : u % a + d - a < a = omega (arith, b) in
        omega (arith, b, f ∙ mod-eq-sub-mod o ∙ mod-eq_of_lt i)

module _ {w h : ℕ} {b : Beam} (v : BeamInside w h b) where
  pub track-round : Round (area b) (track w h b)
  track-round = record {
    some = area-pos v;
    again = λ k. ap (place w h)
        (stands v (k + area b) ∙ ap (seat b) (ap (λ (n : ℕ). n % area b) (omega arith) ∙ add-mod_right (seat_of b + k) (area b)) ∙ sym (stands v k));
    apart = λ k d l m e. mod_apart (area b) (seat_of b + k) d l m
        (one_number v _ _ (mod-lt (seat_of b + k) (area-pos v)) (mod-lt (seat_of b + k + d) (area-pos v))
        (ap (place w h) (sym (stands v k)) ∙ e ∙ ap (place w h) (stands v (k + d) ∙ ap (λ (n : ℕ). seat b (n % area b)) (omega arith))));
  }

  pub track-inside : (k : ℕ) → is_outside w h b (track w h b k) ≡ false
  track-inside k = ap (λ (n : Beam). is_outside w h b (place w h n)) (stands v k) ∙ place_inside v _ (mod-lt (seat_of b + k) (area-pos v))
