-- Demand 3: "The pixels balance. Take any surface and valid record, and any pixel writes, with RU between them or not, each call taking the surface, its
-- size and the record as the last left them, and no viewport or beam set or stepped between. List the colours that the accepted writes name, in
-- order; refused writes name none. Let T be their number and A the viewport's area. Afterwards each colour's count on the surface equals its count
-- among the last T or A of the list, the smaller, plus its count on the places not reached. Nothing outside the viewport changes, and the same list cut
-- into other writes, run or raster, leaves the same surface."
-- K1: "Demand 3's list then has gaps: each place holds the last colour laid on it, gaps aside, and the counts are taken of those places. T counts gaps for
-- the beam and not for the number returned." What both say: the record Balanced. proofs/Theorem.antt proves it.
use Rattle.std.specs.Prelude.{ℕ, zero, suc, ◌+◌, ◌-◌, ◌*◌, ◌/◌, ◌%◌, min, ◌≡◌, Bool, true, false, not, ◌&&◌, ◌||◌, List, [], ◌∷◌, ◌++◌, map, length, get_or, drop, replicate, eqb, ℤ, pos, negsuc}
use Rattle.refusals.specs.Answers.{pick, every}
use Rattle.beam.specs.declared.Beam.{Beam}
use Rattle.beam.specs.Validity.{in_viewport}
use Rattle.beam.specs.Settings.{with_bits, set_bits}
use Rattle.pixel_refusals.specs.Tests.{end_of_row}
use Rattle.pixels.specs.Marks.{Mark, ink, gap, place, laid, moved, colours}
use Rattle.pixels.specs.Writes.{WriteOutcome, raster_of, draw_raster, raster_surface, runs_of, draw_runs, runs_surface}

-- ---- calls: RP, RL and RU, by the definitions that their promises name

pub data Call : Type 0 where
  raster : ℤ → List ℤ → Call
  runs : List ℤ → Call
  bits : (first second third : ℤ) → Call

pub record State : Type 0 where
  pub beam : Beam
  pub surface : List ℕ

-- what RP and RL answer: 0 or the refusal's number, the number of pixels, and the record
abbrev pub raster_outcome : (w h : ℕ) → ℤ → List ℤ → State → WriteOutcome
raster_outcome w h n chs st = draw_raster w h st.beam n chs (length st.surface)

abbrev pub runs_outcome : (w h : ℕ) → List ℤ → State → WriteOutcome
runs_outcome w h codes st = draw_runs w h st.beam codes (length st.surface)

-- 0 or the number of a call's refusal
unfoldable pub refusal : (w h : ℕ) → Call → State → ℕ
refusal w h (raster n chs) st = (raster_outcome w h n chs st).number
refusal w h (runs codes) st = (runs_outcome w h codes st).number
refusal w h (bits first second third) st = (set_bits w h st.beam first second third).number

-- what a call leaves
unfoldable pub after : (w h : ℕ) → Call → State → State
after w h (raster n chs) st = record { beam = (raster_outcome w h n chs st).after; surface = raster_surface w h st.beam n chs st.surface }
after w h (runs codes) st = record { beam = (runs_outcome w h codes st).after; surface = runs_surface w h st.beam codes st.surface }
after w h (bits first second third) st = record { beam = (set_bits w h st.beam first second third).after; surface = st.surface }

-- the number of pixels that it returns
unfoldable pub returned : (w h : ℕ) → Call → State → ℕ
returned w h (raster n chs) st = (raster_outcome w h n chs st).count
returned w h (runs codes) st = (runs_outcome w h codes st).count
returned w h (bits first second third) st = 0

-- the marks that it names: none where it is refused
unfoldable pub named : (w h : ℕ) → Call → State → List Mark
named w h (raster n chs) st = pick (eqb (raster_outcome w h n chs st).number 0) (raster_of st.beam n chs) []
named w h (runs codes) st = pick (eqb (runs_outcome w h codes st).number 0) (runs_of st.beam codes) []
named w h (bits first second third) st = []

-- calls one after another, each on what the last one left: the state in the end, and all marks that they name
unfoldable pub ran : (w h : ℕ) → List Call → State → State
ran w h [] st = st
ran w h (call ∷ calls) st = ran w h calls (after w h call st)

unfoldable pub named_by : (w h : ℕ) → List Call → State → List Mark
named_by w h [] st = []
named_by w h (call ∷ calls) st = named w h call st ++ named_by w h calls (after w h call st)

-- ---- counting

-- how often c stands in a list
unfoldable pub count : ℕ → List ℕ → ℕ
count c [] = 0
count c (x ∷ xs) = pick (eqb x c) 1 0 + count c xs

-- the last k of a list
abbrev pub last_of : ℕ → List ℕ → List ℕ
last_of k l = drop (length l - k) l

-- how many places the viewport has: its rows times its columns
abbrev pub area : Beam → ℕ
area beam = (beam.top - beam.bottom + 1) * (beam.right - beam.left + 1)

-- the record after k steps of the beam; a gap is a step alone
abbrev pub steps : ℕ → Beam → Beam
steps k beam = moved (replicate k gap) beam

-- the beam's place then
abbrev pub track : (w h : ℕ) → Beam → ℕ → ℕ
track w h beam k = place w h (steps k beam)

-- whether i is one of the places f 0, f 1, .. f (n - 1)
unfoldable pub is_reached : (f : ℕ → ℕ) → (n i : ℕ) → Bool
is_reached f zero i = false
is_reached f (suc n) i = eqb (f 0) i || is_reached (λ k. f (suc k)) n i

-- the bytes at the places where the test fails
unfoldable pub elsewhere : (ℕ → Bool) → List ℕ → List ℕ
elsewhere test [] = []
elsewhere test (x ∷ xs) = pick (test 0) (elsewhere (λ i. test (suc i)) xs) (x ∷ elsewhere (λ i. test (suc i)) xs)

-- ---- what stays of marks laid at f 0, f 1, ..

-- the last colour laid on the place i, gaps aside; the old byte where there is none
unfoldable pub last_laid : (f : ℕ → ℕ) → List Mark → (i old : ℕ) → ℕ
last_laid f [] i old = old
last_laid f (gap ∷ ms) i old = last_laid (λ k. f (suc k)) ms i old
last_laid f (ink c ∷ ms) i old = last_laid (λ k. f (suc k)) ms i (pick (eqb (f 0) i) c old)

-- whether a colour is laid on the place i
unfoldable pub coloured : (f : ℕ → ℕ) → List Mark → (i : ℕ) → Bool
coloured f [] i = false
coloured f (gap ∷ ms) i = coloured (λ k. f (suc k)) ms i
coloured f (ink c ∷ ms) i = eqb (f 0) i || coloured (λ k. f (suc k)) ms i

-- the colours that no later colour covers
unfoldable pub kept : (f : ℕ → ℕ) → List Mark → List ℕ
kept f [] = []
kept f (gap ∷ ms) = kept (λ k. f (suc k)) ms
kept f (ink c ∷ ms) = pick (coloured (λ k. f (suc k)) ms (f 0)) (kept (λ k. f (suc k)) ms) (c ∷ kept (λ k. f (suc k)) ms)

-- ---- the statement

-- the byte i lies in column i % w and, the top row being first, in row h - 1 - i / w
abbrev pub is_outside : (w h : ℕ) → Beam → (i : ℕ) → Bool
is_outside w h beam i = not (in_viewport beam (i % w) (h - 1 - i / w))

-- the record but for its bits
abbrev pub bits_aside : Beam → Beam
bits_aside beam = with_bits 0 beam

-- colours as marks
abbrev pub inks : List ℕ → List Mark
inks cs = map ink cs

-- the character 96
abbrev pub is_row_end : ℤ → Bool
is_row_end (pos n) = eqb n end_of_row
is_row_end (negsuc n) = false

-- a call without a 96
unfoldable pub no_row_end : Call → Bool
no_row_end (raster n chs) = every (λ v. not (is_row_end v)) chs
no_row_end (runs codes) = true
no_row_end (bits first second third) = true

-- of calls one after another, each on what the last one left, those that are accepted are without a 96
unfoldable pub no_row_ends : (w h : ℕ) → List Call → State → Bool
no_row_ends w h [] st = true
no_row_ends w h (call ∷ calls) st = (not (eqb (refusal w h call st) 0) || no_row_end call) && no_row_ends w h calls (after w h call st)

module _ (w h : ℕ) (st : State) (calls : List Call) where
  -- the state in the end, and the marks named
  abbrev end : State
  end = ran w h calls st

  abbrev ms : List Mark
  ms = named_by w h calls st

  -- "List the colours that the accepted writes name, in order; refused writes name none."
  abbrev cs : List ℕ
  cs = colours ms

  -- the beam's places, one after the other, and how many of them the beam goes on: "T counts gaps for the beam"
  abbrev f : ℕ → ℕ
  f = track w h st.beam

  abbrev T : ℕ
  T = length ms

  -- "A the viewport's area"
  abbrev A : ℕ
  A = area st.beam

  -- other calls, from the same state, leave the same surface and the same beam; the record's bits aside
  abbrev pub LeaveTheSame : List Call → Type 0
  LeaveTheSame others = ((ran w h others st).surface ≡ end.surface) × (bits_aside (ran w h others st).beam ≡ bits_aside end.beam)

  pub record Balanced : Type 0 where
    -- "each place holds the last colour laid on it, gaps aside"
    pub places : (i : ℕ) → get_or end.surface i 0 ≡ last_laid f ms i (get_or st.surface i 0)
    -- "and the counts are taken of those places": the colours that stay, and the bytes that no colour is laid on
    pub counts : (c : ℕ) → count c end.surface ≡ count c (kept f ms) + count c (elsewhere (coloured f ms) st.surface)
    -- "Nothing outside the viewport changes"
    pub outside : (i : ℕ) → is_outside w h st.beam i ≡ true → get_or end.surface i 0 ≡ get_or st.surface i 0
    pub size : length end.surface ≡ length st.surface
    -- what is left is what laying the list leaves, and the beam is T steps on, the record's bits aside
    pub surface-laid : end.surface ≡ laid w h ms st.beam st.surface
    pub beam-moved : bits_aside end.beam ≡ bits_aside (steps T st.beam)
    -- so calls that name the same list, gaps too, leave the same
    pub same-marks : (others : List Call) → named_by w h others st ≡ ms → LeaveTheSame others
    -- a write "returns its number of pixels": as many as the colours that it names, gaps aside, whatever state it meets
    pub numbers : (call : Call) (met : State) → returned w h call met ≡ length (colours (named w h call met))
    -- Where the accepted calls are without a 96, the list has no gaps,
    pub no_gaps : no_row_ends w h calls st ≡ true → ms ≡ inks cs
    -- and "Let T be their number", that of the colours: "each colour's count on the surface equals its count among the last T or A of the list, the
    -- smaller, plus its count on the places not reached";
    pub without_gaps : no_row_ends w h calls st ≡ true → (c : ℕ)
        → count c end.surface ≡ count c (last_of (min (length cs) A) cs) + count c (elsewhere (is_reached f (length cs)) st.surface)
    -- and where those of the others are too, "the same list cut into other writes, run or raster, leaves the same surface", and the same beam
    pub same-colours : no_row_ends w h calls st ≡ true → (others : List Call) → no_row_ends w h others st ≡ true → colours (named_by w h others st) ≡ cs
        → LeaveTheSame others
