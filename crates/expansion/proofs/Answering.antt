-- The whole call, by what the run that only looks has found.
use Prim.Native.Nat.{ℕ, ◌+◌, ◌≤◌, ◌<◌}
use mathlib.Core.Path.{◌≡◌, refl, sym, ◌∙◌, ap}
use mathlib.Core.Bool.{Bool, true, false, ◌&&◌}
use mathlib.Core.List.{List}
use native.Mathlib.Omega.{arith}
use borrow.Author.Tests.{lt-leb, le-leb}
use lib.Dec.{eqb, leb}
use lib.ListN.{length}
use lib.Seq.{sets-eq}
use lib.IntN.{ℤ, nat_abs}
use mir.Syntax.{w32}
use mir.Val.{SFits, to_z, of_z}
use mir.Facts.{to_z-of_z}
use Rattle.memory.specs.declared.Remembered.{Remembered}
use Rattle.memory.specs.Memory.{inside}
use Rattle.refusals.specs.declared.Refusal.{Refusal}
use Rattle.refusals.specs.declared.Refusal.TheVariants.{TooShort}
use Rattle.refusals.specs.Refusals.{number_of}
use Rattle.refusals.specs.Answers.{Answer, answer_of, refusal_of, demand}
use Rattle.refusals.proofs.Cases.{and_left, and_right}
use Rattle.refusals.proofs.Numbers.{not_nought, met}
use Rattle.std.specs.Prelude.{Result, Ok, Err}
use Rattle.macros.specs.Store.{three_bytes, well_formed, is_macro_number, body_in_either, look_refusal, find_refusal}
use Rattle.expansion.specs.declared.Expanded.{Expanded}
use Rattle.expansion.specs.Expansion.{Stretch, call_stretch, started, reached_by, told_of, out_of, or_next, room_refusal, room_told, room_out, start_refusal, expand_refusal, expand_told, expand_out}
use Rattle.expansion.specs.Running.{Ran}
use Rattle.expansion.proofs.Walking.{went_on, was_refused}

-- ---- the run

pub ran-start : (volatile saved : List ℕ) (number : ℤ) (kept : Remembered) {out out' : List ℕ} {r : Result Expanded Refusal} → SFits w32 number → Ran (call_stretch volatile saved 8 (to_z w32 (of_z w32 number)) kept 0) 0 out out' r → Ran (started volatile saved number kept) 0 out out' r
unfolding started
ran-start volatile saved number kept f ran = rw (to_z-of_z f) at ran

pub looked : (volatile saved : List ℕ) (number : ℤ) (kept : Remembered) {out out' : List ℕ} {r : Result Expanded Refusal} → SFits w32 number → Ran (started volatile saved (to_z w32 (of_z w32 number)) kept) 0 out out' r → answer_of r ≡ reached_by 0 (started volatile saved number kept)
looked volatile saved number kept f ran = rw (to_z-of_z f) at ran.told

-- ---- a refusal is told with no counts, and leaves the output as it was

refused-told : (e : Refusal) {f : ℕ} (c : Stretch) → number_of e ≡ f → answer_of (Err e) ≡ told_of f c
unfolding answer_of
refused-told e c z = rw (← z, not_nought e)

refused-out : (e : Refusal) {f : ℕ} (c : Stretch) (out : List ℕ) → number_of e ≡ f → out ≡ out_of f c out
refused-out e c out z = rw (← z, not_nought e)

-- the first trouble is the refusal, whatever would come next
trouble_first : (f next : ℕ) → eqb f 0 ≡ false → or_next f next ≡ f
trouble_first f next e = rw e

module _ (volatile saved : List ℕ) (number : ℤ) (kept : Remembered) (f : SFits w32 number) (r : Result Expanded Refusal) (t : answer_of r ≡ reached_by 0 (started volatile saved (to_z w32 (of_z w32 number)) kept)) where
  told_of_lem : answer_of r ≡ reached_by 0 (started volatile saved number kept)
  told_of_lem = rw (to_z-of_z f) at t

  module _ {e : Refusal} (g : r ≡ Err e) where
    refusal_is : (room : ℕ) → number_of e ≡ room_refusal (started volatile saved number kept) room
    refusal_is room = let q = was_refused 0 (started volatile saved number kept) told_of_lem g in q.1 ∙ sym (trouble_first (started volatile saved number kept).number _ q.0)

    pub look_refused_told : (room : ℕ) → answer_of (Err e) ≡ room_told (started volatile saved number kept) room
    unfolding room_told
    look_refused_told room = refused-told e (started volatile saved number kept) (refusal_is room)

    pub look_refused_out : (out : List ℕ) → out ≡ room_out (started volatile saved number kept) out
    unfolding room_out
    look_refused_out out = refused-out e (started volatile saved number kept) out (refusal_is (length out))

  module _ {end : Expanded} (g : r ≡ Ok end) where
    length_is : end.written ≡ length (started volatile saved number kept).bytes
    length_is = ap (λ (x : Expanded). x.written) (went_on 0 (started volatile saved number kept) told_of_lem g).1 ∙ omega arith

    entered-is : end.entered ≡ (started volatile saved number kept).entered
    entered-is = ap (λ (x : Expanded). x.entered) (went_on 0 (started volatile saved number kept) told_of_lem g).1

    kept-is : end.kept ≡ (started volatile saved number kept).kept
    kept-is = ap (λ (x : Expanded). x.kept) (went_on 0 (started volatile saved number kept) told_of_lem g).1

    module _ (out : List ℕ) (h : length out < end.written) where
      short-is : number_of TooShort ≡ room_refusal (started volatile saved number kept) (length out)
      short-is = rw ((went_on 0 (started volatile saved number kept) told_of_lem g).0, lt-leb (length (started volatile saved number kept).bytes) (length out) (omega (arith, h, length_is)))

      pub short-told : answer_of (Err TooShort) ≡ room_told (started volatile saved number kept) (length out)
      unfolding room_told
      short-told = refused-told TooShort (started volatile saved number kept) short-is

      pub short-out : out ≡ room_out (started volatile saved number kept) out
      unfolding room_out
      short-out = refused-out TooShort (started volatile saved number kept) out short-is

    module _ (out : List ℕ) (h : end.written ≤ length out) where
      none : room_refusal (started volatile saved number kept) (length out) ≡ 0
      none = rw ((went_on 0 (started volatile saved number kept) told_of_lem g).0, le-leb (length (started volatile saved number kept).bytes) (length out) (omega (arith, h, length_is)))

      end_told : answer_of (Ok (record { written = end.written; entered = end.entered; kept = end.kept })) ≡ room_told (started volatile saved number kept) (length out)
      unfolding room_told answer_of
      end_told = rw (none, length_is, entered-is, kept-is)

      -- the run that writes gives what the one that looks gave
      pub done-told : {out' : List ℕ} {q : Result Expanded Refusal} → Ran (started volatile saved (to_z w32 (of_z w32 number)) kept) 0 out out' q → answer_of q ≡ room_told (started volatile saved number kept) (length out)
      done-told {q = q} ran =
          let w : Ran (started volatile saved number kept) 0 out _ q = rw (to_z-of_z f) at ran in
          w.told ∙ sym told_of_lem ∙ ap answer_of g ∙ end_told

      pub done-out : {out' : List ℕ} {q : Result Expanded Refusal} → Ran (started volatile saved (to_z w32 (of_z w32 number)) kept) 0 out out' q → out' ≡ room_out (started volatile saved number kept) out
      unfolding room_out
      done-out ran =
          let z : 0 + length (started volatile saved number kept).bytes ≡ length (started volatile saved number kept).bytes = omega arith in
          let w : Ran (started volatile saved number kept) 0 out _ _ = rw (to_z-of_z f) at ran in
          w.stands ∙ sets-eq (started volatile saved number kept).bytes out 0 (omega (arith, h, length_is)) ∙ rw (none, z)

-- ---- the start

-- from a point outside: 12, then 8
module _ (volatile saved : List ℕ) (number : ℤ) (kept : Remembered) {b : Bool} (eb : b ≡ inside kept.point) where
  module _ (h : b ≡ false) (e : Refusal) (ee : number_of e ≡ demand (well_formed three_bytes volatile && well_formed three_bytes saved) 12 8) where
    outside-is : (room : ℕ) → number_of e ≡ expand_refusal volatile saved number kept room
    unfolding expand_refusal start_refusal
    outside-is room = rw (← eb, h, ← ee, not_nought e)

    pub outside_told : (room : ℕ) → answer_of (Err e) ≡ expand_told volatile saved number kept room
    unfolding expand_told
    outside_told room = refused-told e (started volatile saved number kept) (outside-is room)

    pub outside-out : (out : List ℕ) → out ≡ expand_out volatile saved number kept out
    unfolding expand_out
    outside-out out = refused-out e (started volatile saved number kept) out (outside-is (length out))

  -- from a point inside the start is that of looking up
  start_is : b ≡ true → start_refusal volatile saved number kept ≡ find_refusal three_bytes volatile saved number
  unfolding start_refusal find_refusal look_refusal
  start_is h =
      rw (← eb, h)
      (twice (well_formed three_bytes volatile && well_formed three_bytes saved) 12 (demand (is_macro_number number) 8 (demand (leb 1 (length (body_in_either three_bytes volatile saved (nat_abs number)))) 14 0)))
    where
      twice : (ok : Bool) (e next : ℕ) → demand ok e (demand ok e next) ≡ demand ok e next
      twice true e next = refl
      twice false e next = refl

  module _ (h : b ≡ true) (f : SFits w32 number) (r : Result (Unit {0}) Refusal) (t : refusal_of r ≡ find_refusal three_bytes volatile saved (to_z w32 (of_z w32 number))) where
    finding : refusal_of r ≡ start_refusal volatile saved number kept
    finding = (rw (to_z-of_z f) at t) ∙ sym (start_is h)

    module _ {e : Refusal} (g : r ≡ Err e) where
      unfound_is : (room : ℕ) → number_of e ≡ expand_refusal volatile saved number kept room
      unfolding refusal_of expand_refusal
      unfound_is room = let q : number_of e ≡ start_refusal volatile saved number kept = sym (rw g) ∙ finding in rw (← q, not_nought e)

      pub unfound_told : (room : ℕ) → answer_of (Err e) ≡ expand_told volatile saved number kept room
      unfolding expand_told
      unfound_told room = refused-told e (started volatile saved number kept) (unfound_is room)

      pub unfound_out : (out : List ℕ) → out ≡ expand_out volatile saved number kept out
      unfolding expand_out
      unfound_out out = refused-out e (started volatile saved number kept) out (unfound_is (length out))

    module _ {u : Unit {0}} (g : r ≡ Ok u) where
      none_yet : start_refusal volatile saved number kept ≡ 0
      unfolding refusal_of
      none_yet = sym finding ∙ rw g

      both : well_formed three_bytes volatile && well_formed three_bytes saved ≡ true
      unfolding start_refusal
      both = (met (well_formed three_bytes volatile && well_formed three_bytes saved) 12 _ (λ e. omega (arith, e)) none_yet).0

      pub first-found : well_formed three_bytes volatile ≡ true
      first-found = and_left (well_formed three_bytes volatile) (well_formed three_bytes saved) both

      pub second-found : well_formed three_bytes saved ≡ true
      second-found = and_right (well_formed three_bytes volatile) (well_formed three_bytes saved) both

      found_is : (room : ℕ) → expand_refusal volatile saved number kept room ≡ room_refusal (started volatile saved number kept) room
      unfolding expand_refusal
      found_is room = rw none_yet

      pub found_told : (room : ℕ) {x : Answer Expanded} → x ≡ room_told (started volatile saved (to_z w32 (of_z w32 number)) kept) room → x ≡ expand_told volatile saved number kept room
      unfolding expand_told room_told
      found_told room e = (rw (to_z-of_z f) at e) ∙ ap (λ (k : ℕ). told_of k (started volatile saved number kept)) (sym (found_is room))

      pub found_out : (out : List ℕ) {out' : List ℕ} → out' ≡ room_out (started volatile saved (to_z w32 (of_z w32 number)) kept) out → out' ≡ expand_out volatile saved number kept out
      unfolding expand_out room_out
      found_out out e = (rw (to_z-of_z f) at e) ∙ ap (λ (k : ℕ). out_of k (started volatile saved number kept) out) (sym (found_is (length out)))

pub ruleset starts = (outside_told, outside-out, unfound_told, unfound_out, first-found, second-found, found_told, found_out)

pub ruleset runs = (ran-start, looked)
