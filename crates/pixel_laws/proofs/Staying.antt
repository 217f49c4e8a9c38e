-- A record stays valid, as specs/Records.antt states it: first behind an accepted call, then behind any, then behind any list of calls.
use Prim.Native.Nat.{ℕ, ◌<◌}
use mathlib.Core.Path.{◌≡◌, refl, sym, ◌∙◌}
use mathlib.Core.Bool.{Bool, true, false, not, ◌&&◌, ◌||◌}
use mathlib.Core.List.{List, [], ◌∷◌}
use native.Mathlib.Omega.{arith}
use lib.Dec.{eqb, ltb}
use lib.ListN.{length}
use lib.IntN.{ℤ, pos, negsuc, nat_abs}
use borrow.Author.Tests.{lt-ltb, le-leb, ltb-true, eqb-true, eq-eqb}
use Rattle.refusals.specs.Answers.{pick, demand}
use Rattle.refusals.proofs.Cases.{and_left, and_right, bool_apart}
use Rattle.refusals.proofs.Numbers.{met}
use Rattle.memory.specs.declared.Point.{Point}
use Rattle.beam.specs.declared.Beam.{Beam}
use Rattle.beam.specs.Validity.{is_size, is_bits, on_surface, in_viewport, is_valid}
use Rattle.beam.specs.Settings.{settled, fresh_beam, make_fresh, bits_from, with_bits, set_bits, corners_on, framed, set_viewport, beam_at, set_beam, stepped, make_step}
use Rattle.beam.proofs.Settling.{size_w, size_h}
use Rattle.pixel_refusals.specs.Tests.{is_surface, raster_numbers, raster_characters, run_numbers, write_refusal, raster_refusal, run_refusal}
use Rattle.pixel_refusals.proofs.Looking.{raster-passed, runs-passed}
use Rattle.pixels.specs.Marks.{Mark, moved}
use Rattle.pixels.specs.Writes.{written, draw_raster, draw_runs}
use Rattle.pixels.specs.Standing.{BeamInside}
use Rattle.pixels.proofs.Laying.{step-inside, step-bits, moved_inside, moved-bits, inside_of}
use Rattle.balance.specs.Balance.{raster, runs, bits, State, refusal, after, ran}
use Rattle.balance.proofs.Theorem.{balanced}
use Rattle.pixel_laws.specs.Records.{RecordCall, fresh, rs, rh, step, of_balance, answered, surface_behind, left_behind, went, by_values, StaysValid}

-- ---- a valid record, as what its tests tell

bits_of : (w h : ℕ) (r : Beam) → is_valid w h r ≡ true → eqb r.bits 0 || is_bits r.bits ≡ true
unfolding is_valid
bits_of w h r v = and_right (in_viewport r r.x r.y) _ (and_right (on_surface w h r.right r.top) _ v)

valid-of : (w h : ℕ) (r : Beam) → BeamInside w h r → eqb r.bits 0 || is_bits r.bits ≡ true → is_valid w h r ≡ true
unfolding is_valid on_surface in_viewport
valid-of w h r i b =
    rw (
      lt-ltb r.right w i.wide,
      lt-ltb r.top h i.tall,
      le-leb r.left r.x i.from-left,
      le-leb r.x r.right i.to_right,
      le-leb r.bottom r.y i.from-bottom,
      le-leb r.y r.top i.to_top,
    )
    b

-- ---- the records that accepted calls leave

fresh-valid : (w h : ℕ) → is_size w h ≡ true → is_valid w h (fresh_beam w h) ≡ true
fresh-valid w h z =
    let one-column = size_w w h z in
    let one-row = size_h w h z in
    valid-of w h (fresh_beam w h) (omega arith) refl

bits-set : (v : ℤ) → bits_from v ≡ true → is_bits (nat_abs v) ≡ true
unfolding bits_from
bits-set (pos n) e = e
bits-set (negsuc n) e = absurd (bool_apart e)

or_right : (a b : Bool) → b ≡ true → a || b ≡ true
or_right true b e = refl
or_right false b e = e

module _ (w h : ℕ) (r : Beam) (v : is_valid w h r ≡ true) where
  bits-valid : (third : ℤ) → bits_from third ≡ true → is_valid w h (with_bits (nat_abs third) r) ≡ true
  bits-valid third e =
      let i = inside_of w h r v in
      valid-of w h (with_bits (nat_abs third) r) (omega arith) (or_right (eqb (nat_abs third) 0) _ (bits-set third e))

  framed-valid : (a b : Point) → corners_on w h a b ≡ true → is_valid w h (framed r a b) ≡ true
  unfolding corners_on on_surface framed
  framed-valid a b e =
      let from = and_left (ltb a.x w && ltb a.y h) _ e in
      let to = and_right (ltb a.x w && ltb a.y h) _ e in
      let ax = ltb-true a.x w (and_left (ltb a.x w) _ from) in
      let ay = ltb-true a.y h (and_right (ltb a.x w) _ from) in
      let bx = ltb-true b.x w (and_left (ltb b.x w) _ to) in
      let by = ltb-true b.y h (and_right (ltb b.x w) _ to) in
      valid-of w h (framed r a b) (omega arith) (bits_of w h r v)

  placed-valid : (x y : ℕ) → in_viewport r x y ≡ true → is_valid w h (beam_at r x y) ≡ true
  unfolding is_valid in_viewport
  placed-valid x y e = rw (and_left (on_surface w h r.right r.top) _ v, e) (bits_of w h r v)

  moved-valid : (ms : List Mark) → is_valid w h (moved ms r) ≡ true
  moved-valid ms = valid-of w h (moved ms r) (moved_inside ms (inside_of w h r v)) (rw (moved-bits ms r) (bits_of w h r v))

  stepped-valid : is_valid w h (stepped r) ≡ true
  stepped-valid = valid-of w h (stepped r) (step-inside (inside_of w h r v)) (rw (step-bits r) (bits_of w h r v))

-- ---- an accepted call

settled-valid : (w h : ℕ) (r : Beam) (allowed : Bool) (new : Beam) → (is_valid w h r ≡ true → allowed ≡ true → is_valid w h new ≡ true)
    → (settled w h r allowed new).number ≡ 0 → is_valid w h (settled w h r allowed new).after ≡ true
unfolding settled
settled-valid w h r allowed new k e =
    let size = met (is_size w h) 11 _ (λ q. omega arith) e in
    let valid = met (is_valid w h r) 8 _ (λ q. omega arith) size.1 in
    let values = met allowed 8 0 (λ q. omega arith) valid.1 in
    rw (eq-eqb _ 0 e) (k valid.0 values.0)

-- what a write leaves, by its refusal f
written-valid : (w h f : ℕ) (ms : List Mark) (r : Beam) → is_valid w h r ≡ true → f ≡ 0 → is_valid w h (pick (eqb f 0) (moved ms r) r) ≡ true
written-valid w h f ms r v e = rw (eq-eqb f 0 e) (moved-valid w h r v ms)

-- after an accepted fresh, RS, RH, step, RP, RL or RU the record is valid for the same W and H
pub accepted_valid : (w h : ℕ) (call : RecordCall) (st : State) → (answered w h call st).number ≡ 0 → is_valid w h (answered w h call st).after ≡ true
unfolding answered make_fresh set_viewport set_beam make_step refusal after set_bits draw_raster draw_runs written
accepted_valid w h fresh st e = rw (eq-eqb _ 0 e) (fresh-valid w h (met (is_size w h) 11 0 (λ q. omega arith) e).0)
accepted_valid w h (rs a b) st e = settled-valid w h st.beam _ _ (λ v. framed-valid w h st.beam v a b) e
accepted_valid w h (rh p) st e = settled-valid w h st.beam _ _ (λ v. placed-valid w h st.beam v p.x p.y) e
accepted_valid w h step st e = settled-valid w h st.beam _ _ (λ v _. stepped-valid w h st.beam v) e
accepted_valid w h (of_balance (raster n chs)) st e = written-valid w h _ _ st.beam (raster-passed w h (length st.surface) st.beam n chs e).valid e
accepted_valid w h (of_balance (runs codes)) st e = written-valid w h _ _ st.beam (runs-passed w h (length st.surface) st.beam codes e).valid e
accepted_valid w h (of_balance (bits first second third)) st e = settled-valid w h st.beam _ _ (λ v. bits-valid w h st.beam v third) e

-- ---- any call on a surface of the right size and a valid record

module _ (w h : ℕ) (st : State) (s : is_surface w h (length st.surface) ≡ true) (v : is_valid w h st.beam ≡ true) where
  size_ok : is_size w h ≡ true
  unfolding is_surface
  size_ok = and_left (is_size w h) _ s

  -- 11 and 8 for the record do not come
  settled-number : (allowed : Bool) (new : Beam) → (settled w h st.beam allowed new).number ≡ demand allowed 8 0
  unfolding settled
  settled-number allowed new = rw (size_ok, v)

  written-number : (next : ℕ) → write_refusal w h (length st.surface) st.beam next ≡ demand (not (eqb st.beam.bits 0)) 9 next
  unfolding write_refusal
  written-number next = rw (s, v)

  numbers : (call : RecordCall) → (answered w h call st).number ≡ by_values w h call st.beam
  unfolding answered by_values make_fresh set_viewport set_beam make_step refusal set_bits draw_raster draw_runs written raster_refusal run_refusal
  numbers fresh = rw size_ok
  numbers (rs a b) = settled-number _ _
  numbers (rh p) = settled-number _ _
  numbers step = settled-number true _
  numbers (of_balance (raster n chs)) = written-number _
  numbers (of_balance (runs codes)) = written-number _
  numbers (of_balance (bits first second third)) = settled-number _ _

  -- refused, the record is as it came; a fresh one is not refused here
  kept : (call : RecordCall) → eqb (answered w h call st).number 0 ≡ false → (answered w h call st).after ≡ st.beam
  unfolding answered make_fresh set_viewport set_beam make_step settled refusal after set_bits draw_raster draw_runs written
  kept fresh e = absurd (bool_apart (sym e ∙ rw size_ok))
  kept (rs a b) e = rw e
  kept (rh p) e = rw e
  kept step e = rw e
  kept (of_balance (raster n chs)) e = rw e
  kept (of_balance (runs codes)) e = rw e
  kept (of_balance (bits first second third)) e = rw e

  pub next-valid : (call : RecordCall) → is_valid w h (answered w h call st).after ≡ true
  next-valid call = go (eqb (answered w h call st).number 0) refl
    where
      go : (b : Bool) → eqb (answered w h call st).number 0 ≡ b → is_valid w h (answered w h call st).after ≡ true
      go true e = accepted_valid w h call st (eqb-true _ 0 e)
      go false e = rw (kept call e) v

  next-surface : (call : RecordCall) → is_surface w h (length (surface_behind w h call st)) ≡ true
  unfolding surface_behind ran
  next-surface fresh = s
  next-surface (rs a b) = s
  next-surface (rh p) = s
  next-surface step = s
  next-surface (of_balance c) = rw (balanced w h st (c ∷ []) s v).size s

-- ---- what the values alone give is no 11

below-11 : (ok : Bool) (e next : ℕ) → e < 11 → next < 11 → demand ok e next < 11
below-11 true e next l m = m
below-11 false e next l m = l

values-below_11 : (w h : ℕ) (call : RecordCall) (r : Beam) → by_values w h call r < 11
unfolding by_values
values-below_11 w h fresh r = omega arith
values-below_11 w h (rs a b) r = below-11 (corners_on w h a b) 8 0 (omega arith) (omega arith)
values-below_11 w h (rh p) r = below-11 (in_viewport r p.x p.y) 8 0 (omega arith) (omega arith)
values-below_11 w h step r = omega arith
values-below_11 w h (of_balance (raster n chs)) r =
    let characters = below-11 (raster_characters r.bits n chs) 10 0 (omega arith) (omega arith) in
    below-11 (not (eqb r.bits 0)) 9 _ (omega arith) (below-11 (raster_numbers n chs) 8 _ (omega arith) characters)
values-below_11 w h (of_balance (runs codes)) r = below-11 (not (eqb r.bits 0)) 9 _ (omega arith) (below-11 (run_numbers codes) 8 0 (omega arith) (omega arith))
values-below_11 w h (of_balance (bits first second third)) r = below-11 (bits_from third) 8 0 (omega arith) (omega arith)

-- ---- calls, one after another

pub stays_valid : (w h : ℕ) (calls : List RecordCall) (st : State) → is_surface w h (length st.surface) ≡ true → is_valid w h st.beam ≡ true
    → StaysValid w h st calls
unfolding went
stays_valid w h [] st s v = record {
  valid = v;
  surface = s;
  by_values_lem = numbers w h st s v;
  never-11 = λ next q. omega (arith, numbers w h st s v next, q, values-below_11 w h next st.beam);
}
stays_valid w h (call ∷ calls) st s v =
    let rest = stays_valid w h calls (left_behind w h call st) (next-surface w h st s v call) (next-valid w h st s v call) in
    record { valid = rest.valid; surface = rest.surface; by_values_lem = rest.by_values_lem; never-11 = rest.never-11 }

-- a run that begins with an accepted fresh one, whatever the record was before
pub stays_valid_fresh : (w h : ℕ) (calls : List RecordCall) (st : State) → is_surface w h (length st.surface) ≡ true → (answered w h fresh st).number ≡ 0
    → StaysValid w h (left_behind w h fresh st) calls
unfolding surface_behind
stays_valid_fresh w h calls st s e = stays_valid w h calls (left_behind w h fresh st) s (accepted_valid w h fresh st e)
