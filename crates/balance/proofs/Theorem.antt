-- The balance of the pixel writes, as specs/Balance.antt states it: first for any marks, then for those that the calls name.
use Prim.Native.Nat.{ℕ, ◌+◌, ◌<◌, min}
use mathlib.Core.Path.{◌≡◌, refl, sym, ◌∙◌, ap}
use mathlib.Core.Bool.{true}
use mathlib.Core.List.{List, [], ◌∷◌}
use lib.ListN.{length, get_or, set, replicate}
use Rattle.refusals.proofs.Cases.{bool_apart}
use Rattle.beam.specs.declared.Beam.{Beam}
use Rattle.beam.specs.Validity.{is_valid}
use Rattle.beam.specs.Settings.{stepped}
use Rattle.pixel_refusals.specs.Tests.{is_surface}
use Rattle.pixels.specs.Marks.{Mark, gap, act, place, laid, moved, colours}
use Rattle.pixels.specs.Standing.{Ready}
use Rattle.pixels.proofs.Laying.{place-lt, laid-length, moved_inside, ready_of}
use Rattle.balance.specs.Balance.{Call, State, ran, named_by, count, last_of, area, steps, track, is_reached, elsewhere, last_laid, coloured, kept, is_outside, bits_aside, inks, no_row_ends, LeaveTheSame, Balanced}
use Rattle.balance.proofs.Track.{along, elsewhere-ext, balance_any, along_last, along_other, coloured-inks, kept-last}
use Rattle.balance.proofs.Round.{track-round, track-inside}
use Rattle.balance.proofs.Names.{inked_all, inked_by, returns_named}
use Rattle.balance.proofs.Sequences.{ran-surface, ran-beam}

-- ---- marks laid from a beam on

laid-along : (w h : ℕ) (ms : List Mark) (beam : Beam) (s : List ℕ) → laid w h ms beam s ≡ along (track w h beam) ms s
unfolding laid along moved
laid-along w h [] beam s = refl
laid-along w h (m ∷ ms) beam s = laid-along w h ms (stepped beam) (set s (place w h beam) (act m (get_or s (place w h beam) 0)))

module _ {w h : ℕ} {beam : Beam} (s : List ℕ) (r : Ready w h beam (length s)) where
  track-lt : (k : ℕ) → track w h beam k < length s
  track-lt k = rw r.whole (place-lt (moved_inside (replicate k gap) r.inside))

  pub places-marks : (ms : List Mark) (i : ℕ) → get_or (laid w h ms beam s) i 0 ≡ last_laid (track w h beam) ms i (get_or s i 0)
  places-marks ms i = rw (laid-along w h ms beam s) (along_last ms (track w h beam) s i track-lt)

  -- any marks: the colours that stay, and the bytes that no colour is laid on
  pub balance_marks : (c : ℕ) (ms : List Mark)
      → count c (laid w h ms beam s) ≡ count c (kept (track w h beam) ms) + count c (elsewhere (coloured (track w h beam) ms) s)
  balance_marks c ms = rw (laid-along w h ms beam s) (balance_any c ms (track w h beam) s track-lt)

  -- marks that are all colours: the last of them, and the bytes not reached
  pub balance_inks : (c : ℕ) (cs : List ℕ)
      → count c (laid w h (inks cs) beam s) ≡ count c (last_of (min (length cs) (area beam)) cs) + count c (elsewhere (is_reached (track w h beam) (length cs)) s)
  balance_inks c cs =
      let f : ℕ → ℕ = track w h beam in
      let e = elsewhere-ext (coloured f (inks cs)) (is_reached f (length cs)) s (coloured-inks f cs) in
      balance_marks c (inks cs) ∙ rw (kept-last cs (track-round r.inside), e)

  pub outside-marks : (ms : List Mark) (i : ℕ) → is_outside w h beam i ≡ true → get_or (laid w h ms beam s) i 0 ≡ get_or s i 0
  outside-marks ms i o =
      rw (laid-along w h ms beam s)
      (along_other ms (track w h beam) s i (λ k e. bool_apart (sym (track-inside r.inside k) ∙ ap (is_outside w h beam) e ∙ o)))

-- marks are steps of the beam, one each
moved-steps : (ms : List Mark) (beam : Beam) → moved ms beam ≡ steps (length ms) beam
unfolding moved
moved-steps [] beam = refl
moved-steps (m ∷ ms) beam = moved-steps ms (stepped beam)

-- ---- calls

module _ (w h : ℕ) (st : State) where
  beam-moved : (calls : List Call) → bits_aside (ran w h calls st).beam ≡ bits_aside (steps (length (named_by w h calls st)) st.beam)
  beam-moved calls = ran-beam w h calls st ∙ ap bits_aside (moved-steps (named_by w h calls st) st.beam)

  -- calls that name the same marks leave the same
  same-marks : (calls others : List Call) → named_by w h others st ≡ named_by w h calls st → LeaveTheSame w h st calls others
  same-marks calls others q = (
    ran-surface w h others st ∙ ap (λ (l : List Mark). laid w h l st.beam st.surface) q ∙ sym (ran-surface w h calls st),
    beam-moved others ∙ ap (λ (l : List Mark). bits_aside (steps (length l) st.beam)) q ∙ sym (beam-moved calls),
  )

  no_gaps : (calls : List Call) → no_row_ends w h calls st ≡ true → named_by w h calls st ≡ inks (colours (named_by w h calls st))
  no_gaps calls p = inked_all (named_by w h calls st) (inked_by w h calls st p)

  -- without gaps the colours are the marks
  colours-marks : (calls others : List Call) → no_row_ends w h calls st ≡ true → no_row_ends w h others st ≡ true
      → colours (named_by w h others st) ≡ colours (named_by w h calls st) → named_by w h others st ≡ named_by w h calls st
  colours-marks calls others p o k = no_gaps others o ∙ ap inks k ∙ sym (no_gaps calls p)

pub balanced : (w h : ℕ) (st : State) (calls : List Call)
    → is_surface w h (length st.surface) ≡ true → is_valid w h st.beam ≡ true → Balanced w h st calls
balanced w h st calls s v =
    let r : Ready w h st.beam (length st.surface) = ready_of w h (length st.surface) st.beam s v in
    let ms : List Mark = named_by w h calls st in
    let e : (ran w h calls st).surface ≡ laid w h ms st.beam st.surface = ran-surface w h calls st in
    record {
      places = λ i. rw e (places-marks st.surface r ms i);
      counts = λ c. rw e (balance_marks st.surface r c ms);
      outside = λ i o. rw e (outside-marks st.surface r ms i o);
      size = ap length e ∙ laid-length w h ms st.beam st.surface;
      surface-laid = e;
      beam-moved = beam-moved w h st calls;
      same-marks = same-marks w h st calls;
      numbers = returns_named w h;
      no_gaps = no_gaps w h st calls;
      without_gaps = λ p c. ap (count c) (e ∙ ap (λ (l : List Mark). laid w h l st.beam st.surface) (no_gaps w h st calls p)) ∙ balance_inks st.surface r c (colours ms);
      same-colours = λ p others o k. same-marks w h st calls others (colours-marks w h st calls others p o k);
    }
