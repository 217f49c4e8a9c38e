-- The tests of a write in their order, by what their parts gave, and what holds once they have passed.
use Rattle.std.proofs.lemmas.Grind.{div_ceil_times}
use Rattle.std.specs.Int.{div_ceil}
use Prim.Native.Nat.{ℕ, suc, min, ◌%◌, ◌+◌, ◌-◌, ◌*◌, ◌/◌, ◌≤◌, ◌<◌}
use mathlib.Core.Path.{◌≡◌, refl, sym, ◌∙◌}
use mathlib.Core.Bool.{Bool, true, false, not, ◌&&◌, ◌||◌}
use mathlib.Core.List.{List, map}
use native.Mathlib.Nat.{pos_of_ne-zero, le-div_iff_mul-le, one-mul, mul-le-mul}
use native.Mathlib.Omega.{arith}
use borrow.Author.Tests.{eq-eqb, ne_eqb, leb-true, eqb-true, eqb-false}
use lib.Dec.{leb, eqb}
use lib.ListN.{length}
use lib.IntN.{ℤ, nat_abs}
use mir.Syntax.{w32}
use mir.Val.{SFits, to_z, of_z}
use mir.Facts.{to_z-of_z}
use Rattle.refusals.specs.declared.Refusal.{Refusal}
use Rattle.refusals.specs.declared.Refusal.TheVariants.{NotValid, RasterCharacters}
use Rattle.refusals.specs.Refusals.{number_of}
use Rattle.refusals.specs.Answers.{demand, every, refusal_of}
use Rattle.std.specs.Prelude.{Ok, Err}
use Rattle.refusals.proofs.Cases.{and_left, and_right, bool_apart}
use Rattle.refusals.proofs.Numbers.{not_nought, met}
use Rattle.ranges.specs.Ranges.{most_entries}
use Rattle.ranges.specs.Ranges.{within}
use Rattle.beam.specs.declared.Beam.{Beam}
use Rattle.beam.specs.Validity.{is_size, is_bits, on_surface, in_viewport, is_valid}
use Rattle.pixel_refusals.specs.Tests.{is_surface, is_pixel_number, is_raster, needed, pixel_characters, raster_numbers, raster_characters, run_numbers, write_refusal, raster_refusal, run_refusal}

-- ---- the surface's size

pub area_le : {w h : ℕ} → w ≤ 512 → h ≤ 512 → h * w ≤ 262144
area_le {w} {h} hw hh = mul-le-mul {n₁ = h} {m₁ = w} {n₂ = 512} {m₂ = 512} hh hw

pub size_of : (w h : ℕ) → is_size w h ≡ true → (w ≤ 512) × (h ≤ 512)
unfolding is_size
size_of w h n =
    let n₁ = and_right (leb 1 w) (leb w 512 && (leb 1 h && leb h 512)) n in
    (leb-true w 512 (and_left (leb w 512) (leb 1 h && leb h 512) n₁), leb-true h 512 (and_right (leb 1 h) (leb h 512) (and_right (leb w 512) (leb 1 h && leb h 512) n₁)))

pub small_area : (w h : ℕ) → is_size w h ≡ true → h * w ≤ 262144
small_area w h t = let z = size_of w h t in area_le {w = w} {h = h} z.0 z.1

pub sized : (w h size : ℕ) {s : Bool} → s ≡ is_size w h → s ≡ true → eqb size (h * w) ≡ is_surface w h size
unfolding is_surface
sized w h size e t = rw (sym e ∙ t)

-- ---- bits that are set

or_cases : {P : Type 0} (a b : Bool) → (a ≡ true → P) → (b ≡ true → P) → a || b ≡ true → P
or_cases true b f g e = f refl
or_cases false b f g e = g e

six-bits : (b : ℕ) → is_bits b ≡ true → b ≤ 6
unfolding is_bits
six-bits b =
    or_cases (eqb b 1) _ (λ t. omega (arith, eqb-true b 1 t))
    (or_cases (eqb b 2) _ (λ t. omega (arith, eqb-true b 2 t)) (or_cases (eqb b 3) (eqb b 6) (λ t. omega (arith, eqb-true b 3 t)) (λ t. omega (arith, eqb-true b 6 t))))

pub valid-bits : (w h : ℕ) (beam : Beam) → is_valid w h beam ≡ true → beam.bits ≤ 6
unfolding is_valid
valid-bits w h beam e =
    or_cases (eqb beam.bits 0) (is_bits beam.bits) (λ t. omega (arith, eqb-true beam.bits 0 t)) (six-bits beam.bits)
    (and_right (in_viewport beam beam.x beam.y) _ (and_right (on_surface w h beam.right beam.top) _ e))

pub some_per_character : (b : ℕ) → 0 < b → b ≤ 6 → 0 < 6 / b
some_per_character b l m = (le-div_iff_mul-le l).1 (rw (one-mul b) m)

-- ---- 8 and 10 of a raster write, 8 of a run write; N comes back from the callees' contracts as the machine reads it

module _ (n : ℤ) (f : SFits w32 n) where
  pub within_so : (least most : ℕ) {q : Bool} → q ≡ within least most (to_z w32 (of_z w32 n)) → q ≡ within least most n
  within_so least most j = rw (to_z-of_z f) at j

  pub magnitude_so : {m : ℕ} → m ≡ nat_abs (to_z w32 (of_z w32 n)) → m ≡ nat_abs n
  magnitude_so j = rw (to_z-of_z f) at j

-- as many characters as n pixels need, as the code divides
pub needed_so : (n b : ℕ) → 0 < b → n / b + min 1 (n % b) ≡ (n + b - 1) / b
needed_so n b p =
    let q : ℕ = n / b + min 1 (n % b) in
    let t : (n ≤ q * b) × (q * b < n + b) = div_ceil_times n b p in
    let low : q ≤ (n + b - 1) / b = (le-div_iff_mul-le p).1 (omega (arith, t)) in
    let high : suc q ≤ (n + b - 1) / b → ⊥ = λ h. omega (arith, (le-div_iff_mul-le p).0 h, t) in
    omega (arith, low, high)

pub characters_tested : (n : ℤ) → SFits w32 n → (list : List ℤ) (b : ℕ) → 0 < b → b ≤ 6 → {m k d : ℕ} → m ≡ nat_abs (to_z w32 (of_z w32 n)) → k ≡ pixel_characters (map nat_abs list) → d ≡ div_ceil m (6 / b)
    → k ≡ d → {q : Bool} → q ≡ every (within 32 96) list → q ≡ raster_characters b n list
unfolding raster_characters
characters_tested n f list b p six em ek ed h j =
    let full : div_ceil (nat_abs n) (6 / b) ≡ needed b (nat_abs n) = needed_so (nat_abs n) (6 / b) (some_per_character b p six) in
    rw (eq-eqb (pixel_characters (map nat_abs list)) (needed b (nat_abs n)) (sym ek ∙ h ∙ ed ∙ rw (magnitude_so n f em) full)) j

module _ (list : List ℤ) where
  pub few-codes : run_numbers list ≡ true → length list ≤ most_entries
  unfolding run_numbers
  few-codes e = leb-true (length list) most_entries (and_left (leb (length list) most_entries) (every is_pixel_number list) e)

  pub codes_within : run_numbers list ≡ true → every is_pixel_number list ≡ true
  unfolding run_numbers
  codes_within e = and_right (leb (length list) most_entries) (every is_pixel_number list) e

-- ---- the write's own tests behind these

module _ (w h size : ℕ) (beam : Beam) where
  -- what stands once 11, 8 and 9 are passed
  pub record Passed : Type 0 where
    pub surface : is_surface w h size ≡ true
    pub valid : is_valid w h beam ≡ true
    pub some : 0 < beam.bits
    pub six : beam.bits ≤ 6

  pub passed_of : (next : ℕ) → write_refusal w h size beam next ≡ 0 → Passed × (next ≡ 0)
  unfolding write_refusal
  passed_of next e =
      let a = met (is_surface w h size) 11 _ (λ q. omega arith) e in
      let b = met (is_valid w h beam) 8 _ (λ q. omega arith) a.1 in
      let c = met (not (eqb beam.bits 0)) 9 next (λ q. omega arith) b.1 in
      let set : beam.bits ≡ 0 → ⊥ = λ q. bool_apart (rw (eq-eqb beam.bits 0 q) at c.0) in
      (record { surface = a.0; valid = b.0; some = pos_of_ne-zero set; six = valid-bits w h beam b.0 }, c.1)

  pub goes_on : Passed → (next : ℕ) → write_refusal w h size beam next ≡ next
  unfolding write_refusal
  goes_on p next = rw (p.surface, p.valid, ne_eqb beam.bits 0 (λ q. omega arith))

  pub stands : (k next : ℕ) → eqb k 0 ≡ false → write_refusal w h size beam 0 ≡ k → write_refusal w h size beam next ≡ k
  unfolding write_refusal
  stands k next z e = go (is_surface w h size) (is_valid w h beam) (not (eqb beam.bits 0)) e
    where
      go : (a b c : Bool) → demand a 11 (demand b 8 (demand c 9 0)) ≡ k → demand a 11 (demand b 8 (demand c 9 next)) ≡ k
      go true true true q = absurd (eqb-false k 0 z (sym q))
      go true true false q = q
      go true false c q = q
      go false b c q = q

  -- the exit with their refusal, and what stands where there is none
  module _ (e : Refusal) (ev : refusal_of {A = Unit {0}} (Err e) ≡ write_refusal w h size beam 0) where
    first : (next : ℕ) → number_of e ≡ write_refusal w h size beam next
    unfolding refusal_of
    first next = sym (stands (number_of e) next (not_nought e) (sym ev))

    pub raster_first : (n : ℤ) (list : List ℤ) → refusal_of {A = Unit {0}} (Err e) ≡ raster_refusal w h size beam n list
    unfolding refusal_of raster_refusal
    raster_first n list = first _

    pub runs_first : (list : List ℤ) → refusal_of {A = Unit {0}} (Err e) ≡ run_refusal w h size beam list
    unfolding refusal_of run_refusal
    runs_first list = first _

  module _ {u : Unit {0}} (ev : refusal_of (Ok u) ≡ write_refusal w h size beam 0) where
    none : Passed
    unfolding refusal_of
    none = (passed_of 0 (sym ev)).0

    pub bits_some : 0 < beam.bits
    bits_some = none.some

    pub bits_six : beam.bits ≤ 6
    bits_six = none.six

    -- N comes back from the callees' contracts as the machine reads it
    module _ (n : ℤ) (list : List ℤ) (f : SFits w32 n) {a : Bool} (ea : a ≡ raster_numbers (to_z w32 (of_z w32 n)) list) where
      numbers : {t : Bool} → a ≡ t → raster_numbers n list ≡ t
      numbers q = sym (rw (to_z-of_z f) at ea) ∙ q

      pub raster_numbered : a ≡ false → refusal_of {A = Unit {0}} (Err NotValid) ≡ raster_refusal w h size beam n list
      unfolding refusal_of raster_refusal
      raster_numbered t = rw (goes_on none _, numbers t)

      module _ (t : a ≡ true) {b : Bool} (eb : b ≡ raster_characters beam.bits (to_z w32 (of_z w32 n)) list) where
        characters : {v : Bool} → b ≡ v → raster_characters beam.bits n list ≡ v
        characters q = sym (rw (to_z-of_z f) at eb) ∙ q

        pub raster_wrong : b ≡ false → refusal_of {A = Unit {0}} (Err RasterCharacters) ≡ raster_refusal w h size beam n list
        unfolding refusal_of raster_refusal
        raster_wrong v = rw (goes_on none _, numbers t, characters v)

        pub raster_allowed : b ≡ true → refusal_of (Ok (tt {0})) ≡ raster_refusal w h size beam n list
        unfolding refusal_of raster_refusal
        raster_allowed v = rw (goes_on none _, numbers t, characters v)

    module _ (list : List ℤ) {a : Bool} (ea : a ≡ run_numbers list) where
      pub runs_wrong : a ≡ false → refusal_of {A = Unit {0}} (Err NotValid) ≡ run_refusal w h size beam list
      unfolding refusal_of run_refusal
      runs_wrong t = rw (goes_on none _, sym ea ∙ t)

      pub runs_allowed : a ≡ true → refusal_of (Ok (tt {0})) ≡ run_refusal w h size beam list
      unfolding refusal_of run_refusal
      runs_allowed t = rw (goes_on none _, sym ea ∙ t)

pub ruleset raster_verdicts = (bits_some, bits_six, raster_first, raster_numbered, raster_wrong, raster_allowed)

pub ruleset run_verdicts = (runs_first, runs_wrong, runs_allowed)

-- ---- what an allowed write has passed

module _ (w h size : ℕ) (beam : Beam) (n : ℤ) (list : List ℤ) (z : raster_refusal w h size beam n list ≡ 0) where
  raster-tests : Passed w h size beam × (demand (raster_numbers n list) 8 (demand (raster_characters beam.bits n list) 10 0) ≡ 0)
  unfolding raster_refusal
  raster-tests = passed_of w h size beam _ z

  pub raster-passed : Passed w h size beam
  raster-passed = raster-tests.0

  raster-spelt : raster_characters beam.bits n list ≡ true
  raster-spelt =
      (met (raster_characters beam.bits n list) 10 0 (λ q. omega arith) (met (raster_numbers n list) 8 (demand (raster_characters beam.bits n list) 10 0) (λ q. omega arith) raster-tests.1).1).0

  pub raster-enough : pixel_characters (map nat_abs list) ≡ needed beam.bits (nat_abs n)
  unfolding raster_characters
  raster-enough =
      let c : ℕ = pixel_characters (map nat_abs list) in
      let k : ℕ = needed beam.bits (nat_abs n) in
      eqb-true c k (and_left (eqb c k) (every is_raster list) raster-spelt)

  pub raster-within : every is_raster list ≡ true
  unfolding raster_characters
  raster-within = and_right (eqb (pixel_characters (map nat_abs list)) (needed beam.bits (nat_abs n))) (every is_raster list) raster-spelt

module _ (w h size : ℕ) (beam : Beam) (list : List ℤ) (z : run_refusal w h size beam list ≡ 0) where
  run-tests : Passed w h size beam × (demand (run_numbers list) 8 0 ≡ 0)
  unfolding run_refusal
  run-tests = passed_of w h size beam _ z

  pub runs-passed : Passed w h size beam
  runs-passed = run-tests.0

  pub runs-within : run_numbers list ≡ true
  runs-within = (met (run_numbers list) 8 0 (λ q. omega arith) run-tests.1).0
