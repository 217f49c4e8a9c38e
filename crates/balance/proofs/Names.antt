-- What a call names: as many colours as it returns, and no gaps where it is refused or has no 96.
use Prim.Native.Nat.{ℕ, zero, suc, ◌+◌, ◌-◌, ◌*◌, ◌/◌, ◌%◌, ◌^◌, ◌≤◌, ◌<◌, min}
use mathlib.Core.Path.{◌≡◌, refl, sym, ◌∙◌, ap}
use mathlib.Core.Bool.{Bool, true, false, not, ◌||◌}
use mathlib.Core.List.{List, [], ◌∷◌, ◌++◌, map}
use native.Mathlib.Nat.{zero-add, mul-zero, mul-suc, div-add-mod, mod-lt, min-eq_left}
use native.Mathlib.Omega.{arith}
use lib.ListN.{length, length-append, replicate}
use lib.Dec.{eqb}
use lib.IntN.{ℤ, pos, negsuc, nat_abs}
use borrow.Author.Tests.{eqb-true, not-true}
use Rattle.refusals.specs.Answers.{pick, every}
use Rattle.refusals.proofs.Cases.{by_pick, and_left, and_right, bool_apart}
use Rattle.refusals.proofs.Many.{every-split}
use Rattle.beam.specs.declared.Beam.{Beam}
use Rattle.pixel_refusals.specs.Tests.{per_character, end_of_row, is_raster, pixel_characters, raster_refusal}
use Rattle.pixels.specs.Marks.{Mark, ink, gap, moved, row_end, colours}
use Rattle.pixels.specs.Writes.{pixels, character_marks, left_after, raster_marks, run, run_marks, run_total, written, draw_raster, draw_runs, raster_of}
use Rattle.pixels.proofs.Laying.{moved-bits}
use Rattle.pixel_refusals.proofs.Looking.{some_per_character, raster-passed, raster-enough, raster-within}
use Rattle.balance.specs.Balance.{Call, raster, runs, bits, State, raster_outcome, runs_outcome, refusal, after, returned, named, named_by, inks, is_row_end, no_row_end, no_row_ends}

colours-append : (xs ys : List Mark) → colours (xs ++ ys) ≡ colours xs ++ colours ys
unfolding colours
colours-append [] ys = refl
colours-append (ink c ∷ xs) ys = ap (λ (l : List ℕ). c ∷ l) (colours-append xs ys)
colours-append (gap ∷ xs) ys = colours-append xs ys

-- how many colours marks name
abbrev tally : List Mark → ℕ
tally ms = length (colours ms)

tally_append : (xs ys : List Mark) → tally (xs ++ ys) ≡ tally xs + tally ys
tally_append xs ys = ap length (colours-append xs ys) ∙ length-append (colours xs) (colours ys)

-- ---- no gaps

unfoldable pub Inked : List Mark → Type 0
Inked [] = Unit {0}
Inked (ink c ∷ ms) = Inked ms
Inked (gap ∷ ms) = ⊥

pub inked_all : (ms : List Mark) → Inked ms → ms ≡ inks (colours ms)
unfolding Inked colours
inked_all [] i = refl
inked_all (ink c ∷ ms) i = ap (λ (l : List Mark). ink c ∷ l) (inked_all ms i)
inked_all (gap ∷ ms) i = absurd i

inked_none : Inked []
unfolding Inked
inked_none = tt

inked_append : (xs ys : List Mark) → Inked xs → Inked ys → Inked (xs ++ ys)
unfolding Inked
inked_append [] ys i j = j
inked_append (ink c ∷ xs) ys i j = inked_append xs ys i j
inked_append (gap ∷ xs) ys i j = absurd i

inked_pixels : (b n sh v : ℕ) → Inked (pixels b n sh v)
unfolding Inked pixels
inked_pixels b zero sh v = tt
inked_pixels b (suc n) sh v = inked_pixels b n (sh - b) v

inked_character : (beam : Beam) (n ch : ℕ) → eqb ch end_of_row ≡ false → Inked (character_marks beam n ch)
unfolding character_marks
inked_character beam n ch e = rw e (inked_pixels beam.bits (min n (6 / beam.bits)) 6 (ch - 32))

-- a character that is allowed and is not 96; -96 is not allowed
other-than : (v : ℤ) → is_raster v ≡ true → not (is_row_end v) ≡ true → eqb (nat_abs v) end_of_row ≡ false
other-than (pos n) a e = not-true (eqb n end_of_row) e
other-than (negsuc n) a e = absurd (bool_apart a)

inked_raster : (beam : Beam) (n : ℕ) (chs : List ℤ) → every is_raster chs ≡ true → every (λ v. not (is_row_end v)) chs ≡ true → Inked (raster_marks beam n (map nat_abs chs))
unfolding raster_marks
inked_raster beam n [] a e = inked_none
inked_raster beam n (ch ∷ chs) a e =
    let allowed = every-split is_raster ch chs a in
    let others = every-split (λ v. not (is_row_end v)) ch chs e in
    inked_append _ _ (inked_character beam n (nat_abs ch) (other-than ch allowed.0 others.0)) (inked_raster (moved (character_marks beam n (nat_abs ch)) beam) (left_after beam n (nat_abs ch)) chs allowed.1 others.1)

inked_run : (c n : ℕ) → Inked (run c n)
unfolding Inked
inked_run c zero = tt
inked_run c (suc n) = inked_run c n

inked_runs : (b : ℕ) (codes : List ℕ) → Inked (run_marks b codes)
unfolding run_marks
inked_runs b [] = inked_none
inked_runs b (k ∷ ks) = inked_append _ _ (inked_run (k % 2 ^ b) (k / 2 ^ b)) (inked_runs b ks)

-- where a call is accepted, it has no 96
accepted_so : (accepted without : Bool) → not accepted || without ≡ true → accepted ≡ true → without ≡ true
accepted_so true without e a = e
accepted_so false without e a = absurd (bool_apart a)

inked_pick : (b : Bool) (ms : List Mark) → (b ≡ true → Inked ms) → Inked (pick b ms [])
inked_pick b ms i = by_pick Inked b ms [] i (λ e. inked_none)

inked_named : (w h : ℕ) (call : Call) (st : State) → not (eqb (refusal w h call st) 0) || no_row_end call ≡ true → Inked (named w h call st)
unfolding named refusal no_row_end draw_raster written
inked_named w h (raster n chs) st e =
    let number = (raster_outcome w h n chs st).number in
    inked_pick (eqb number 0) _
    (λ a. inked_raster st.beam (nat_abs n) chs (raster-within w h (length st.surface) st.beam n chs (eqb-true number 0 a)) (accepted_so (eqb number 0) _ e a))
inked_named w h (runs codes) st e = inked_pick (eqb (runs_outcome w h codes st).number 0) _ (λ a. inked_runs st.beam.bits (map nat_abs codes))
inked_named w h (bits first second third) st e = inked_none

pub inked_by : (w h : ℕ) (calls : List Call) (st : State) → no_row_ends w h calls st ≡ true → Inked (named_by w h calls st)
unfolding named_by no_row_ends
inked_by w h [] st e = inked_none
inked_by w h (call ∷ calls) st e =
    let here = not (eqb (refusal w h call st) 0) || no_row_end call in
    inked_append _ _ (inked_named w h call st (and_left here _ e)) (inked_by w h calls (after w h call st) (and_right here _ e))

-- ---- how many: run codes

tally_run : (c n : ℕ) → tally (run c n) ≡ n
unfolding colours
tally_run c zero = refl
tally_run c (suc n) = ap suc (tally_run c n)

tally_runs : (b : ℕ) (codes : List ℕ) → tally (run_marks b codes) ≡ run_total b codes
unfolding colours run_marks run_total
tally_runs b [] = refl
tally_runs b (k ∷ ks) = tally_append (run (k % 2 ^ b) (k / 2 ^ b)) (run_marks b ks) ∙ rw (tally_run (k % 2 ^ b) (k / 2 ^ b), tally_runs b ks)

-- ---- how many: raster characters

tally_pixels : (b n sh v : ℕ) → tally (pixels b n sh v) ≡ n
unfolding colours pixels
tally_pixels b zero sh v = refl
tally_pixels b (suc n) sh v = ap suc (tally_pixels b n (sh - b) v)

tally_gaps : (k : ℕ) → tally (replicate k gap) ≡ 0
unfolding colours
tally_gaps zero = refl
tally_gaps (suc k) = tally_gaps k

tally_character : (beam : Beam) (n ch : ℕ) → tally (character_marks beam n ch) ≡ pick (eqb ch end_of_row) 0 (min n (per_character beam.bits))
unfolding character_marks row_end
tally_character beam n ch = go (eqb ch end_of_row)
  where
    m : ℕ
    m = min n (per_character beam.bits)

    go : (b : Bool) → tally (pick b (row_end beam) (pixels beam.bits m 6 (ch - 32))) ≡ pick b 0 m
    go true = tally_gaps (beam.right - beam.x + 1)
    go false = tally_pixels beam.bits m 6 (ch - 32)

-- a character that holds pixels takes p of n, an end-of-row none
one_more : (b : Bool) (n p k : ℕ) → pick b 0 (min n p) + min (pick b n (n - p)) (p * k) ≡ min n (p * (pick b 0 1 + k))
one_more true n p k = rw (zero-add k, zero-add (min n (p * k)))
one_more false n p k = omega (arith, mul-suc p k)

tally_raster : (b : ℕ) (beam : Beam) → beam.bits ≡ b → (n : ℕ) (chs : List ℕ) → tally (raster_marks beam n chs) ≡ min n (per_character b * pixel_characters chs)
unfolding colours raster_marks left_after pixel_characters
tally_raster b beam e n [] = omega (arith, mul-zero (6 / b))
tally_raster b beam e n (ch ∷ chs) =
    let ms = character_marks beam n ch in
    let rest = tally_raster b (moved ms beam) (moved-bits ms beam ∙ e) (left_after beam n ch) chs in
    tally_append ms _ ∙ rw (tally_character beam n ch, rest, e) (one_more (eqb ch end_of_row) n (6 / b) (pixel_characters chs))

-- as many characters as n pixels need have room for them
enough : (m n : ℕ) → 0 < m → n ≤ m * ((n + m - 1) / m)
enough m n l =
    let e : m * ((n + m - 1) / m) + (n + m - 1) % m ≡ n + m - 1 = div-add-mod (n + m - 1) m in
    let r : (n + m - 1) % m < m = mod-lt (n + m - 1) l in
    omega arith

tally_accepted : (w h size : ℕ) (beam : Beam) (n : ℤ) (chs : List ℤ) → raster_refusal w h size beam n chs ≡ 0 → tally (raster_of beam n chs) ≡ nat_abs n
tally_accepted w h size beam n chs e =
    let b = beam.bits in
    let p = raster-passed w h size beam n chs e in
    let m : nat_abs n ≤ 6 / b * pixel_characters (map nat_abs chs) = rw (raster-enough w h size beam n chs e) (enough (6 / b) (nat_abs n) (some_per_character b p.some p.six)) in
    tally_raster b beam refl (nat_abs n) (map nat_abs chs) ∙ min-eq_left m

-- ---- a call returns as many as it names

tally_written : (f n : ℕ) (ms : List Mark) (beam : Beam) → (f ≡ 0 → tally ms ≡ n)
    → (written f n ms beam).count ≡ tally (pick (eqb (written f n ms beam).number 0) ms [])
unfolding written colours
tally_written f n ms beam h = go (eqb f 0) refl
  where
    go : (b : Bool) → eqb f 0 ≡ b → pick b n 0 ≡ tally (pick b ms [])
    go true e = sym (h (eqb-true f 0 e))
    go false e = refl

pub returns_named : (w h : ℕ) (call : Call) (st : State) → returned w h call st ≡ length (colours (named w h call st))
unfolding returned named draw_raster draw_runs colours
returns_named w h (raster n chs) st = tally_written _ _ _ _ (tally_accepted w h (length st.surface) st.beam n chs)
returns_named w h (runs codes) st = tally_written _ _ _ _ (λ e. tally_runs st.beam.bits (map nat_abs codes))
returns_named w h (bits first second third) st = refl
