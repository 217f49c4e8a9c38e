-- Slots and records are the same thing, and the exported calls balance, as specs/Lending.antt states it.
use Prim.Native.Nat.{ℕ, suc, ◌≤◌, ◌<◌}
use mathlib.Core.Path.{◌≡◌, refl, sym, ◌∙◌, ap}
use mathlib.Core.Bool.{true}
use mathlib.Core.List.{List, [], ◌∷◌}
use native.Mathlib.Omega.{arith}
use lib.ListN.{length, get_or, drop, drop_of_length-le}
use lib.Seq.{drop-cons}
use lib.IntN.{ℤ}
use Rattle.beam.specs.declared.Beam.{Beam}
use Rattle.beam.specs.Validity.{is_valid}
use Rattle.pixel_refusals.specs.Tests.{is_surface}
use Rattle.balance.specs.Balance.{Call, raster, runs, bits, State, refusal, after, returned, ran, bits_aside}
use Rattle.balance.proofs.Theorem.{balanced}
use Rattle.pixel_calls.specs.Fields.{beam_in, fields_of}
use Rattle.pixel_laws.specs.Lending.{Lent, held, Promised, Made, no_call, then_call, BalancedLent}

-- ---- slots and records

-- a record laid and read again is the same record
pub record_back : (b : Beam) → beam_in (fields_of b) ≡ b
unfolding beam_in fields_of
record_back b = refl

-- seven slots read and laid again are the same slots
pub slots-back : (l : List ℕ) → length l ≡ 7 → fields_of (beam_in l) ≡ l
unfolding beam_in fields_of
slots-back l q =
    let all : length l ≤ 7 = omega arith in
    let end : drop 7 l ≡ [] = drop_of_length-le l all in
    sym (slot 0 (omega arith) ∙ rw (slot 1 (omega arith), slot 2 (omega arith), slot 3 (omega arith), slot 4 (omega arith), slot 5 (omega arith), slot 6 (omega arith), end))
  where
    slot : (i : ℕ) → i < 7 → drop i l ≡ get_or l i 0 ∷ drop (suc i) l
    slot i h = drop-cons l i 0 (rw q h)

-- ---- one call

module _ (w h : ℕ) (before : Lent) (number count : ℕ) (behind : Lent) where
  -- what is lent behind it is what the balance's call leaves
  promised_state : (call : Call) → Promised w h call before number count behind → held behind ≡ after w h call (held before)
  unfolding Promised after
  promised_state (raster n chs) p = rw (p.0.same-record, p.1, record_back _)
  promised_state (runs codes) p = rw (p.0.same-record, p.1, record_back _)
  promised_state (bits first second third) p = rw (p.0.same-record, p.1, record_back _)

  promised_slots : (call : Call) → Promised w h call before number count behind → length behind.slots ≡ 7
  unfolding Promised fields_of
  promised_slots (raster n chs) p = ap length p.0.same-record
  promised_slots (runs codes) p = ap length p.0.same-record
  promised_slots (bits first second third) p = ap length p.0.same-record

  -- the number that it returns is the balance's, and the count of a write too
  pub promised_number : (call : Call) → Promised w h call before number count behind → number ≡ refusal w h call (held before)
  unfolding Promised refusal
  promised_number (raster n chs) p = p.0.same_number
  promised_number (runs codes) p = p.0.same_number
  promised_number (bits first second third) p = p.0.same_number

  pub raster-count : (n : ℤ) (chs : List ℤ) → Promised w h (raster n chs) before number count behind → count ≡ returned w h (raster n chs) (held before)
  unfolding Promised returned
  raster-count n chs p = p.0.same_count

  pub runs-count : (codes : List ℤ) → Promised w h (runs codes) before number count behind → count ≡ returned w h (runs codes) (held before)
  unfolding Promised returned
  runs-count codes p = p.0.same_count

-- ---- calls

made_state : (w h : ℕ) {calls : List Call} {before behind : Lent} → Made w h calls before behind → held behind ≡ ran w h calls (held before)
unfolding ran
made_state w h (no_call l) = refl
made_state w h (then_call call calls before next behind number count p m) = made_state w h m ∙ ap (ran w h calls) (promised_state w h before number count next call p)

made_slots : (w h : ℕ) {calls : List Call} {before behind : Lent} → Made w h calls before behind → length before.slots ≡ 7 → length behind.slots ≡ 7
made_slots w h (no_call l) e = e
made_slots w h (then_call call calls before next behind number count p m) e = made_slots w h m (promised_slots w h before number count next call p)

pub lent_balanced : (w h : ℕ) (calls : List Call) (before behind : Lent) → is_surface w h (length before.surface) ≡ true → is_valid w h (beam_in before.slots) ≡ true
    → length before.slots ≡ 7 → Made w h calls before behind → BalancedLent w h calls before behind
lent_balanced w h calls before behind s v seven m =
    let e : held behind ≡ ran w h calls (held before) = made_state w h m in
    record {
      same-surface = ap (λ (st : State). st.surface) e;
      same-slots = sym (slots-back behind.slots (made_slots w h m seven)) ∙ ap (λ (st : State). fields_of st.beam) e;
      balanced = balanced w h (held before) calls s v;
      same-list = λ others left n free freed same.
          let f : held left ≡ ran w h others (held before) = made_state w h n in
          let (surface, beam) = (balanced w h (held before) calls s v).same-colours free others freed same in (
            ap (λ (st : State). st.surface) f ∙ surface ∙ sym (ap (λ (st : State). st.surface) e),
            ap (λ (st : State). bits_aside st.beam) f ∙ beam ∙ sym (ap (λ (st : State). bits_aside st.beam) e),
          );
    }
