-- "the same list cut into other writes": RP cut behind whole characters, ends of rows among them, names what it names in one write.
use Prim.Native.Nat.{ℕ, ◌+◌, ◌-◌, ◌*◌, ◌/◌, min}
use mathlib.Core.Path.{◌≡◌, refl, sym, ◌∙◌, ap}
use mathlib.Core.Bool.{Bool, true, false}
use mathlib.Core.List.{List, [], ◌∷◌, ◌++◌, map, append-nil, append_assoc, map-append}
use native.Mathlib.Nat.{zero-add, mul-zero, mul-suc}
use native.Mathlib.Omega.{arith}
use lib.Dec.{eqb}
use lib.IntN.{ℤ, pos, nat_abs}
use borrow.Author.Tests.{eq-eqb}
use Rattle.refusals.specs.Answers.{pick}
use Rattle.beam.specs.declared.Beam.{Beam}
use Rattle.pixel_refusals.specs.Tests.{per_character, end_of_row, pixel_characters}
use Rattle.pixels.specs.Marks.{Mark, moved, row_end}
use Rattle.pixels.specs.Writes.{pixels, character_marks, left_after, raster_marks, raster_of, written, draw_raster}
use Rattle.pixels.proofs.Laying.{moved-append, moved-bits}
use Rattle.balance.specs.Balance.{raster, State, raster_outcome, after, named, named_by}

-- n pixels that just fill the characters ch and then k more
module _ (beam : Beam) (n m ch k : ℕ) (e : n ≡ per_character beam.bits * (pick (eqb ch end_of_row) 0 1 + k)) where
  p : ℕ
  p = 6 / beam.bits

  filled : n ≡ p * (pick (eqb ch end_of_row) 0 1 + k)
  unfolding p
  filled = e

  same-marks : character_marks beam (n + m) ch ≡ character_marks beam n ch
  unfolding character_marks p
  same-marks = go (eqb ch end_of_row) filled
    where
      go : (t : Bool) → n ≡ p * (pick t 0 1 + k) → pick t (row_end beam) (pixels beam.bits (min (n + m) p) 6 (ch - 32)) ≡ pick t (row_end beam) (pixels beam.bits (min n p) 6 (ch - 32))
      go true f = refl
      go false f =
          let l : min (n + m) p ≡ min n p = omega (arith, f, mul-suc p k) in
          ap (λ (i : ℕ). pixels beam.bits i 6 (ch - 32)) l

  same_left : left_after beam (n + m) ch ≡ left_after beam n ch + m
  unfolding left_after p
  same_left = go (eqb ch end_of_row) filled
    where
      go : (t : Bool) → n ≡ p * (pick t 0 1 + k) → pick t (n + m) (n + m - p) ≡ pick t n (n - p) + m
      go true f = refl
      go false f = omega (arith, f, mul-suc p k)

  left_filled : left_after beam n ch ≡ per_character beam.bits * k
  unfolding left_after p
  left_filled = go (eqb ch end_of_row) filled
    where
      go : (t : Bool) → n ≡ p * (pick t 0 1 + k) → pick t n (n - p) ≡ p * k
      go true f = f ∙ ap (λ (i : ℕ). p * i) (zero-add k)
      go false f = omega (arith, f, mul-suc p k)

-- the characters a hold just n pixels, the characters b the m that follow
pub raster-cut : (a b : List ℕ) (beam : Beam) (n m : ℕ) → n ≡ per_character beam.bits * pixel_characters a
    → raster_marks beam (n + m) (a ++ b) ≡ raster_marks beam n a ++ raster_marks (moved (raster_marks beam n a) beam) m b
unfolding raster_marks pixel_characters moved
raster-cut [] b beam n m e = ap (λ (i : ℕ). raster_marks beam i b) (ap (λ (i : ℕ). i + m) (e ∙ mul-zero (6 / beam.bits)) ∙ zero-add m)
raster-cut (ch ∷ a) b beam n m e =
    let c : List Mark = character_marks beam n ch in
    let next : Beam = moved c beam in
    let l : ℕ = left_after beam n ch in
    let f : l ≡ per_character next.bits * pixel_characters a = rw (moved-bits c beam) (left_filled beam n m ch (pixel_characters a) e) in
    let ih = raster-cut a b next l m f in
    rw (same-marks beam n m ch (pixel_characters a) e, same_left beam n m ch (pixel_characters a) e, ih, moved-append c (raster_marks next l a) beam)
    (sym (append_assoc c (raster_marks next l a) (raster_marks (moved (raster_marks next l a) next) m b)))

-- ---- calls

module _ (w h : ℕ) (st : State) (n m : ℕ) (a b : List ℤ) (filled : n ≡ per_character st.beam.bits * pixel_characters (map nat_abs a))
    (whole : (raster_outcome w h (pos (n + m)) (a ++ b) st).number ≡ 0) (first : (raster_outcome w h (pos n) a st).number ≡ 0)
    (second : (raster_outcome w h (pos m) b (after w h (raster (pos n) a) st)).number ≡ 0) where
  behind : (after w h (raster (pos n) a) st).beam ≡ moved (raster_of st.beam (pos n) a) st.beam
  unfolding after draw_raster written
  behind = rw (eq-eqb _ 0 first)

  -- where all are accepted, the two writes name what the one names; and so, by the theorem, leave what it leaves
  pub raster-cut_named : named_by w h (raster (pos (n + m)) (a ++ b) ∷ []) st ≡ named_by w h (raster (pos n) a ∷ raster (pos m) b ∷ []) st
  unfolding named_by named
  raster-cut_named =
      rw (eq-eqb _ 0 whole, eq-eqb _ 0 first, eq-eqb _ 0 second, behind, map-append nat_abs a b, append-nil, append-nil)
      (raster-cut (map nat_abs a) (map nat_abs b) st.beam n m filled)
