-- The walker's loop: what it has given, and what is left of the body, are the whole body's stretch.
use Prim.Native.Nat.{ℕ, ◌+◌, ◌-◌, ◌*◌, ◌^◌, ◌≤◌, ◌<◌}
use mathlib.Core.Path.{◌≡◌, refl, sym, ◌∙◌, ap, subst}
use mathlib.Core.Bool.{Bool, true, false}
use mathlib.Core.List.{List, [], ◌++◌}
use native.Mathlib.Omega.{arith}
use lib.Dec.{eqb}
use lib.ListN.{length, length-append}
use lib.Seq.{sets}
use lib.IntN.{ℤ}
use mir.Syntax.{w32}
use mir.Val.{SFits, to_z, of_z}
use mir.Facts.{to_z-of_z}
use Rattle.memory.specs.declared.Remembered.{Remembered}
use Rattle.refusals.specs.declared.Refusal.{Refusal}
use Rattle.refusals.specs.Refusals.{number_of}
use Rattle.refusals.specs.Answers.{Answer, pick, done, refused, answer_of}
use Rattle.refusals.proofs.Numbers.{not_nought}
use Rattle.refusals.proofs.Many.{sets_append}
use Rattle.pieces.specs.declared.Piece.{Piece}
use Rattle.pieces.specs.Pieces.{piece_at, piece_of}
use Rattle.pieces.proofs.Within.{copied-onward, called-onward}
use Rattle.std.specs.Prelude.{Result, Ok, Err}
use Rattle.expansion.specs.declared.Expanded.{Expanded}
use Rattle.expansion.specs.Expansion.{Stretch, gives, stops, front, and_then, item_bytes, on_piece, walked, call_stretch, body_stretch, reached_by}
use Rattle.expansion.specs.Running.{Roomy, Ran}
use Rattle.expansion.proofs.Stretches.{front-front, item-long, walked_step, fuel_enough, call_small}

-- ---- what an answer says of a stretch

on_of : (b : Bool) (g h : Expanded) (e : ℕ) → done g ≡ pick b (done h) (refused e 0) → (b ≡ true) × (g ≡ h)
on_of true g h e q = (refl, cc)
on_of false g h e q = let z : ◌≡◌ {A = ℕ} 0 1 = cc in absurd (omega arith)

refused-of : (b : Bool) (h : Expanded) (x e : ℕ) → ◌≡◌ {A = Answer Expanded} (refused x 0) (pick b (done h) (refused e 0)) → (b ≡ false) × (x ≡ e)
refused-of true h x e q = let z : ◌≡◌ {A = ℕ} 0 1 = cc in absurd (omega arith)
refused-of false h x e q = (refl, cc)

module _ (at : ℕ) (c : Stretch) {r : Result Expanded Refusal} (t : answer_of r ≡ reached_by at c) where
  pub went_on : {g : Expanded} → r ≡ Ok g → (eqb c.number 0 ≡ true) × (g ≡ record { written = at + length c.bytes; entered = c.entered; kept = c.kept })
  unfolding answer_of reached_by
  went_on {g = g} e = on_of (eqb c.number 0) g _ c.number (sym (rw e) ∙ t)

  pub was_refused : {x : Refusal} → r ≡ Err x → (eqb c.number 0 ≡ false) × (number_of x ≡ c.number)
  unfolding answer_of reached_by
  was_refused {x = x} e = refused-of (eqb c.number 0) _ (number_of x) c.number (sym (rw e) ∙ t)

pub ran-given : (bs : List ℕ) (c : Stretch) (at : ℕ) (out₀ out out' : List ℕ) (r : Result Expanded Refusal) → out ≡ sets out₀ at bs → Ran c (at + length bs) out out' r → Ran (front bs c) at out₀ out' r
unfolding reached_by
ran-given bs c at out₀ out out' r e w =
    let z : at + length bs + length c.bytes ≡ at + length (bs ++ c.bytes) = rw (length-append bs c.bytes) (omega arith) in
    record {
      told = w.told ∙ ap (λ (k : ℕ). pick (eqb c.number 0) (done (record { written = k; entered = c.entered; kept = c.kept })) (refused c.number 0)) z;
      stands = w.stands ∙ ap (λ (l : List ℕ). sets l (at + length bs) c.bytes) e ∙ sets_append bs c.bytes out₀ at;
    }

pub ran-none : (going : Expanded) (out : List ℕ) → Ran (gives [] going.entered going.kept) going.written out out (Ok going)
unfolding answer_of reached_by
ran-none going out = let z : going.written ≡ going.written + 0 = omega arith in record { told = ap (λ (k : ℕ). done (record { written = k; entered = going.entered; kept = going.kept })) z; stands = refl }

pub ran-stops : (x : Refusal) (at n : ℕ) (kept : Remembered) (out : List ℕ) → Ran (stops (number_of x) n kept) at out out (Err x)
unfolding answer_of reached_by
ran-stops x at n kept out = record { told = rw (not_nought x); stands = refl }

-- ---- the loop

pub record Walking (volatile saved : List ℕ) (d : ℕ) (body : List ℕ) (from : Expanded) (out₀ : List ℕ) (going : Expanded) (i : ℕ) (out : List ℕ) : Type 0 where
  pub few : going.entered ≤ 1024
  pub given : List ℕ
  pub here : going.written ≡ from.written + length given
  pub stands : out ≡ sets out₀ from.written given
  pub cap : length given + (length body - i) + 256 * (1024 - going.entered) ≤ length body + 256 * (1024 - from.entered)
  pub whole : front given (walked (call_stretch volatile saved d) (length body - i + 1) body i going.kept going.entered) ≡ body_stretch volatile saved d body from.kept from.entered

module _ (volatile saved : List ℕ) (d : ℕ) (body : List ℕ) (from : Expanded) (out₀ : List ℕ) where
  pub walking_none : Roomy from (length body) → Walking volatile saved d body from out₀ from 0 out₀
  unfolding body_stretch
  walking_none r =
      let z : length body - 0 ≡ length body = omega arith in
      record {
        few = r.few;
        given = [];
        here = omega arith;
        stands = refl;
        cap = omega arith;
        whole = ap (λ (k : ℕ). walked (call_stretch volatile saved d) (k + 1) body 0 from.kept from.entered) z;
      }

  module _ {going : Expanded} {i : ℕ} {out : List ℕ} (w : Walking volatile saved d body from out₀ going i out) where
    -- what is run from here is run behind what is given
    ends : (c : Stretch) {out' : List ℕ} {r : Result Expanded Refusal} → walked (call_stretch volatile saved d) (length body - i + 1) body i going.kept going.entered ≡ c → Ran c going.written out out' r → Ran (body_stretch volatile saved d body from.kept from.entered) from.written out₀ out' r
    ends c {out' = out'} {r = r} e ran =
        subst (λ (x : Stretch). Ran x from.written out₀ out' r) (ap (front w.given) (sym e) ∙ w.whole)
        (ran-given w.given c from.written out₀ out out' r w.stands (subst (λ (k : ℕ). Ran c k out out' r) w.here ran))

    -- what is left behind a piece, with the fuel for it
    onward : (bs : List ℕ) (next : ℕ) (after : Expanded) {out' : List ℕ} → (i < next) × (next ≤ length body) → walked (call_stretch volatile saved d) (length body - i + 1) body i going.kept going.entered ≡ front bs (walked (call_stretch volatile saved d) (length body - i) body next after.kept after.entered) → after.written ≡ going.written + length bs → after.entered ≤ 1024 → length bs + 256 * (1024 - after.entered) ≤ next - i + 256 * (1024 - going.entered) → out' ≡ sets out going.written bs → Walking volatile saved d body from out₀ after next out'
    onward bs next after {out' = out'} h e at few cap stands =
        let la = length-append w.given bs in
        let fuel = fuel_enough (call_stretch volatile saved d) body (length body - i) (length body - next + 1) next after.kept after.entered (omega (arith, h.0, h.1)) (omega arith) in
        record {
          few = few;
          given = w.given ++ bs;
          here = omega (arith, at, w.here, la);
          stands = stands ∙ ap (λ (l : List ℕ). sets l going.written bs) w.stands ∙ ap (λ (k : ℕ). sets (sets out₀ from.written w.given) k bs) w.here ∙ sets_append w.given bs out₀ from.written;
          cap = omega (arith, w.cap, cap, la, h.0, h.1);
          whole = sym (front-front w.given bs _) ∙ ap (λ (x : Stretch). front w.given (front bs x)) (sym fuel) ∙ ap (front w.given) (sym e) ∙ w.whole;
        }

    here-is : (q : Result Piece Refusal) → piece_of q ≡ piece_at going.kept body i → walked (call_stretch volatile saved d) (length body - i + 1) body i going.kept going.entered ≡ on_piece (call_stretch volatile saved d) (walked (call_stretch volatile saved d) (length body - i) body) body i going.kept going.entered (piece_of q)
    here-is q eq =
        walked_step (call_stretch volatile saved d) body (length body - i) i going.kept going.entered
        ∙ ap (on_piece (call_stretch volatile saved d) (walked (call_stretch volatile saved d) (length body - i) body) body i going.kept going.entered) (sym eq)

    pub piece-refused : {x : Refusal} → piece_of (Err x) ≡ piece_at going.kept body i → Ran (body_stretch volatile saved d body from.kept from.entered) from.written out₀ out (Err x)
    unfolding piece_of
    piece-refused {x} e = ends _ (here-is (Err x) e) (ran-stops x going.written going.entered going.kept out)

    module _ {p : Piece} (ep : piece_of (Ok p) ≡ piece_at going.kept body i) where
      of-kind : {q : Piece} → p ≡ q → piece_of (Ok q) ≡ piece_at going.kept body i
      of-kind g = sym (ap (λ (x : Piece). piece_of (Ok x)) g) ∙ ep

      pub walked_end : p ≡ Piece.End → Ran (body_stretch volatile saved d body from.kept from.entered) from.written out₀ out (Ok going)
      unfolding piece_of
      walked_end e = ends _ (here-is (Ok Piece.End) (of-kind e)) (ran-none going out)

      module _ {next : ℕ} {after : Remembered} (g : p ≡ Piece.Copied next after) where
        copied-within : (i < next) × (next ≤ length body)
        unfolding piece_of
        copied-within = copied-onward going.kept body i (sym (of-kind g))

        pub copied-from : i ≤ next
        copied-from = let h = copied-within in omega (arith, h.0)

        pub copied-to : next ≤ length body
        copied-to = copied-within.1

        pub copied-less : length body - next < length body - i
        copied-less = let h = copied-within in omega (arith, h.0, h.1)

        pub copied-counts : Roomy from (length body) → going.written + (next - i) < 2 ^ 64
        copied-counts r = let h = copied-within in omega (arith, h.0, h.1, w.here, w.cap, r.fits)

        pub walking_copied : {out' : List ℕ} → out' ≡ sets out going.written (item_bytes i next body) → Walking volatile saved d body from out₀ (record { written = going.written + (next - i); entered = going.entered; kept = after }) next out'
        unfolding piece_of
        walking_copied stands =
            let h = copied-within in
            let l = item-long i next body h.1 in
            onward (item_bytes i next body) next (record { written = going.written + (next - i); entered = going.entered; kept = after }) h (here-is (Ok (Piece.Copied next after)) (of-kind g)) (omega (arith, l)) w.few (omega (arith, l)) stands

      module _ {number : ℤ} {next : ℕ} {after : Remembered} (g : p ≡ Piece.Called number next after) where
        called-within : (i < next) × (next ≤ length body)
        unfolding piece_of
        called-within = called-onward going.kept body i (sym (of-kind g))

        pub called-less : length body - next < length body - i
        called-less = let h = called-within in omega (arith, h.0, h.1)

        pub called-roomy : Roomy from (length body) → Roomy (record { written = going.written; entered = going.entered; kept = after }) 0
        called-roomy r = record { few = w.few; fits = omega (arith, w.here, w.cap, r.fits) }

        module _ (f : SFits w32 number) {out' : List ℕ} {r : Result Expanded Refusal} (ran : Ran (call_stretch volatile saved d (to_z w32 (of_z w32 number)) after going.entered) going.written out out' r) where
          called : Stretch
          called = call_stretch volatile saved d number after going.entered

          ran-called : Ran called going.written out out' r
          unfolding called
          ran-called = rw (to_z-of_z f) at ran

          pub walking_called : {behind : Expanded} → r ≡ Ok behind → Walking volatile saved d body from out₀ behind next out'
          unfolding called piece_of
          walking_called e =
              let q = went_on going.written called ran-called.told e in
              let small = call_small volatile saved d number after going.entered w.few in
              let into : Expanded = record { written = going.written + length called.bytes; entered = called.entered; kept = called.kept } in
              let step : and_then called (walked (call_stretch volatile saved d) (length body - i) body next) ≡ front called.bytes (walked (call_stretch volatile saved d) (length body - i) body next called.kept called.entered) = rw q.0 in
              subst (λ (x : Expanded). Walking volatile saved d body from out₀ x next out') (sym q.1)
              (onward called.bytes next into called-within (here-is (Ok (Piece.Called number next after)) (of-kind g) ∙ step) refl small.few (omega (arith, small.cap)) ran-called.stands)

          pub walked-refused : {x : Refusal} → r ≡ Err x → Ran (body_stretch volatile saved d body from.kept from.entered) from.written out₀ out' (Err x)
          unfolding called piece_of
          walked-refused {x = x} e =
              let q = was_refused going.written called ran-called.told e in
              let step : and_then called (walked (call_stretch volatile saved d) (length body - i) body next) ≡ called = rw q.0 in
              ends called (here-is (Ok (Piece.Called number next after)) (of-kind g) ∙ step) (subst (Ran called going.written out out') e ran-called)
