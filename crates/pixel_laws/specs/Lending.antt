-- The exported calls ardh_draw_raster, ardh_draw_runs and ardh_set_bits one after another, on what a program lends them: the record's seven slots and
-- the surface. Each is taken by its promise alone. proofs/Lending.antt proves that they are the balance's calls.
use Rattle.std.specs.Prelude.{ℕ, ◌≡◌, true, List, [], ◌∷◌}
use Rattle.pixels.specs.Marks.{colours}
use Rattle.balance.specs.Balance.{Call, raster, runs, bits, State, ran, named_by, no_row_ends, bits_aside, Balanced}
use Rattle.pixel_calls.specs.Fields.{beam_in, fields_of}
use Rattle.pixel_calls.specs.Promises.{BitsHanded, RasterHanded, RasterLeaves, RunsHanded, RunsLeave}

pub record Lent : Type 0 where
  pub slots : List ℕ
  pub surface : List ℕ

-- what the slots and the surface hold
abbrev pub held : Lent → State
held l = record { beam = beam_in l.slots; surface = l.surface }

-- a call's promise, by the definitions that its head has: what is lent before it, the number returned, the count, and what is lent behind it. ardh_set_bits is not
-- lent the surface, and has no count.
unfoldable pub Promised : (w h : ℕ) → Call → (before : Lent) → (number count : ℕ) → (behind : Lent) → Type 0
Promised w h (raster n chs) before number count behind =
    RasterHanded w h before.slots before.surface n chs number count behind.slots × RasterLeaves w h before.slots before.surface n chs behind.surface
Promised w h (runs codes) before number count behind =
    RunsHanded w h before.slots before.surface codes number count behind.slots × RunsLeave w h before.slots before.surface codes behind.surface
Promised w h (bits first second third) before number count behind =
    BitsHanded w h before.slots first second third number behind.slots × (behind.surface ≡ before.surface)

-- calls made one after another: each takes what the last one left, and keeps its promise
pub data Made (w h : ℕ) : List Call → (before behind : Lent) → Type 0 where
  no_call : (l : Lent) → Made w h [] l l
  then_call : (call : Call) (calls : List Call) (before next behind : Lent) (number count : ℕ) → Promised w h call before number count next
      → Made w h calls next behind → Made w h (call ∷ calls) before behind

-- what is lent in the end is what the balance's calls leave of what was lent: so they balance
pub record BalancedLent (w h : ℕ) (calls : List Call) (before behind : Lent) : Type 0 where
  pub same-surface : behind.surface ≡ (ran w h calls (held before)).surface
  pub same-slots : behind.slots ≡ fields_of (ran w h calls (held before)).beam
  pub balanced : Balanced w h (held before) calls
  -- "the same list cut into other writes, run or raster, leaves the same surface", and the same beam, where no accepted call has a 96
  pub same-list : (others : List Call) (left : Lent) → Made w h others before left → no_row_ends w h calls (held before) ≡ true
      → no_row_ends w h others (held before) ≡ true → colours (named_by w h others (held before)) ≡ colours (named_by w h calls (held before))
      → (left.surface ≡ behind.surface) × (bits_aside (beam_in left.slots) ≡ bits_aside (beam_in behind.slots))
