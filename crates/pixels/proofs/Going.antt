-- A loop that lays marks: what is left from here ends where the whole ends.
use Prim.Native.Nat.{ℕ, suc, ◌+◌, ◌-◌, ◌*◌, ◌/◌, ◌%◌, ◌^◌, ◌≤◌, ◌<◌, min}
use mathlib.Core.Path.{◌≡◌, refl, sym, ◌∙◌, ap}
use mathlib.Core.List.{List, [], ◌∷◌, ◌++◌}
use native.Mathlib.Nat.{mul-suc, mul-le-mul_left, min-le_right, mul-div-le, le_trans}
use native.Mathlib.Omega.{arith}
use borrow.Author.Tests.{eq-eqb, ne_eqb}
use Rattle.beam.specs.declared.Beam.{Beam}
use Rattle.pixels.specs.declared.Canvas.{Canvas}
use Rattle.pixel_refusals.specs.Tests.{per_character, end_of_row}
use Rattle.pixels.specs.Marks.{Mark, ink, laid, moved, row_end}
use Rattle.pixels.specs.Writes.{pixels, character_marks, run}
use Rattle.pixels.specs.Standing.{MarksLaid}
use Rattle.pixels.specs.Canvas.{Lays}
use Rattle.pixels.proofs.Laying.{laid-append, moved-append}
use Rattle.pixels.proofs.Rows.{row_kept}

-- the marks ms that are left, from the record and the surface of here, come to the same end as all marks from those of the start
pub record Going (w h : ℕ) (ms₀ : List Mark) (beam₀ : Beam) (s₀ : List ℕ) (ms : List Mark) (beam : Beam) (s : List ℕ) : Type 0 where
  pub surface : laid w h ms beam s ≡ laid w h ms₀ beam₀ s₀
  pub end : moved ms beam ≡ moved ms₀ beam₀

pub going : {w h : ℕ} (ms : List Mark) (beam : Beam) (s : List ℕ) → Going w h ms beam s ms beam s
going ms beam s = record { surface = refl; end = refl }

module _ {w h : ℕ} {ms₀ : List Mark} {beam₀ : Beam} {s₀ : List ℕ} {ms : List Mark} {beam : Beam} {s : List ℕ} (g : Going w h ms₀ beam₀ s₀ ms beam s) where
  -- the marks xs are laid, and ys are left
  pub going_on : (xs ys : List Mark) {next : Beam} {t : List ℕ} → ms ≡ xs ++ ys → MarksLaid w h xs beam s next t → Going w h ms₀ beam₀ s₀ ys next t
  going_on xs ys e m = record {
    surface = rw (m.behind, m.surface, ← laid-append w h xs ys beam s, ← e) g.surface;
    end = rw (m.behind, ← moved-append xs ys beam, ← e) g.end;
  }

  -- none are left
  pub going_done : ms ≡ [] → MarksLaid w h ms₀ beam₀ s₀ beam s
  unfolding laid moved
  going_done e = record { behind = ap (λ (l : List Mark). moved l beam) (sym e) ∙ g.end; surface = ap (λ (l : List Mark). laid w h l beam s) (sym e) ∙ g.surface }

-- ---- the same of a canvas

pub record Drawing (ms₀ : List Mark) (c₀ : Canvas) (ms : List Mark) (c : Canvas) : Type 0 where
  pub going : Going c₀.size.w c₀.size.h ms₀ c₀.beam c₀.surface.now ms c.beam c.surface.now
  pub size : c.size ≡ c₀.size
  pub same : c.surface.ghost_name ≡ c₀.surface.ghost_name

pub drawing : (ms : List Mark) (c : Canvas) → Drawing ms c ms c
drawing ms c = record { going = going ms c.beam c.surface.now; size = refl; same = refl }

module _ {ms₀ : List Mark} {c₀ : Canvas} {ms : List Mark} {c : Canvas} (d : Drawing ms₀ c₀ ms c) where
  pub drawing_on : (xs ys : List Mark) {next : Canvas} → ms ≡ xs ++ ys → Lays xs c next → Drawing ms₀ c₀ ys next
  drawing_on xs ys e l = record { going = going_on d.going xs ys e (rw d.size at l.laid); size = l.size ∙ d.size; same = l.same ∙ d.same }

  pub drawing_done : ms ≡ [] → Lays ms₀ c₀ c
  drawing_done e = record { laid = going_done d.going e; size = d.size; same = d.same }

-- ---- runs and pixels, i of n laid

pub run_next : (c n i : ℕ) → i < n → run c (n - i) ≡ ink c ∷ run c (n - (i + 1))
run_next c n i l = let e : n - i ≡ suc (n - (i + 1)) = omega arith in rw e

pub run_done : (c n i : ℕ) → n ≤ i → run c (n - i) ≡ []
run_done c n i l = let e : n - i ≡ 0 = omega arith in rw e

pub pixels_next : (bits n i sh v : ℕ) → i < n → pixels bits (n - i) sh v ≡ ink (v / 2 ^ (sh - bits) % 2 ^ bits) ∷ pixels bits (n - (i + 1)) (sh - bits) v
unfolding pixels
pixels_next bits n i sh v l = let e : n - i ≡ suc (n - (i + 1)) = omega arith in rw e

pub pixels_done : (bits n i sh v : ℕ) → n ≤ i → pixels bits (n - i) sh v ≡ []
unfolding pixels
pixels_done bits n i sh v l = let e : n - i ≡ 0 = omega arith in rw e

-- the bits of the pixels left
pub bits_less : (b n i : ℕ) → i < n → b * (n - i) ≡ b * (n - (i + 1)) + b
bits_less b n i l = let e : n - i ≡ suc (n - (i + 1)) = omega arith in rw (e, mul-suc)

-- a character has room for its pixels
pub room : (b n : ℕ) → b * min n (per_character b) ≤ 6
room b n = le_trans (mul-le-mul_left b (min-le_right n (6 / b))) (mul-div-le 6 b)

-- ---- one character

module _ (beam : Beam) (n ch : ℕ) {m : ℕ} (em : m ≡ min n (6 / beam.bits)) where
  pub character_room : beam.bits * m ≤ 6
  character_room = rw em (room beam.bits n)

  module _ (o : ch ≡ end_of_row → ⊥) where
    pub character_laid : {w h : ℕ} {s t : List ℕ} {next : Beam} → MarksLaid w h (pixels beam.bits m 6 (ch - 32)) beam s next t → MarksLaid w h (character_marks beam n ch) beam s next t
    unfolding character_marks
    character_laid j = rw (ne_eqb ch end_of_row o) (rw em at j)

module _ (beam : Beam) (n ch : ℕ) (e : ch ≡ end_of_row) where
  pub end_laid : {w h : ℕ} (s : List ℕ) {next : Beam} → next ≡ moved (row_end beam) beam → MarksLaid w h (character_marks beam n ch) beam s next s
  unfolding character_marks
  end_laid {w} {h} s j = rw (eq-eqb ch end_of_row e) (record { behind = j; surface = sym (row_kept beam w h s) })
