-- A record stays valid. Any calls on it, in any order, each on what the last one left: a fresh record, RS, RH, the step, and RP, RL and RU as the balance
-- has them. Where they begin well, 11 and "8 for the record" do not come. proofs/Staying.antt proves it.
use Rattle.std.specs.Prelude.{ℕ, ◌≡◌, true, not, List, [], ◌∷◌, length, eqb}
use Rattle.refusals.specs.Answers.{demand}
use Rattle.memory.specs.declared.Point.{Point}
use Rattle.beam.specs.declared.Beam.{Beam}
use Rattle.beam.specs.Validity.{in_viewport, is_valid}
use Rattle.beam.specs.Settings.{Settled, make_fresh, bits_from, corners_on, set_viewport, set_beam, make_step}
use Rattle.pixel_refusals.specs.Tests.{is_surface, raster_numbers, raster_characters, run_numbers}
use Rattle.balance.specs.Balance.{Call, raster, runs, bits, State, refusal, after}

pub data RecordCall : Type 0 where
  fresh : RecordCall
  rs : (a b : Point) → RecordCall
  rh : Point → RecordCall
  step : RecordCall
  of_balance : Call → RecordCall

-- what a call answers: 0 or the refusal's number, and the record
unfoldable pub answered : (w h : ℕ) → RecordCall → State → Settled
answered w h fresh st = make_fresh w h
answered w h (rs a b) st = set_viewport w h st.beam a b
answered w h (rh p) st = set_beam w h st.beam p
answered w h step st = make_step w h st.beam
answered w h (of_balance c) st = record { number = refusal w h c st; after = (after w h c st).beam }

-- the surface behind it: RP and RL alone change it
unfoldable pub surface_behind : (w h : ℕ) → RecordCall → State → List ℕ
surface_behind w h fresh st = st.surface
surface_behind w h (rs a b) st = st.surface
surface_behind w h (rh p) st = st.surface
surface_behind w h step st = st.surface
surface_behind w h (of_balance c) st = (after w h c st).surface

abbrev pub left_behind : (w h : ℕ) → RecordCall → State → State
left_behind w h call st = record { beam = (answered w h call st).after; surface = surface_behind w h call st }

-- calls one after another: the state in the end
unfoldable pub went : (w h : ℕ) → List RecordCall → State → State
went w h [] st = st
went w h (call ∷ calls) st = went w h calls (left_behind w h call st)

-- a call's refusals but for 11 and "8 for the record"
unfoldable pub by_values : (w h : ℕ) → RecordCall → Beam → ℕ
by_values w h fresh r = 0
by_values w h (rs a b) r = demand (corners_on w h a b) 8 0
by_values w h (rh p) r = demand (in_viewport r p.x p.y) 8 0
by_values w h step r = 0
by_values w h (of_balance (raster n chs)) r = demand (not (eqb r.bits 0)) 9 (demand (raster_numbers n chs) 8 (demand (raster_characters r.bits n chs) 10 0))
by_values w h (of_balance (runs codes)) r = demand (not (eqb r.bits 0)) 9 (demand (run_numbers codes) 8 0)
by_values w h (of_balance (bits first second third)) r = demand (bits_from third) 8 0

-- Behind the calls the surface, W and H and the record are as they must be. So whatever is called next is refused by its values alone.
pub record StaysValid (w h : ℕ) (st : State) (calls : List RecordCall) : Type 0 where
  pub valid : is_valid w h (went w h calls st).beam ≡ true
  pub surface : is_surface w h (length (went w h calls st).surface) ≡ true
  pub by_values_lem : (next : RecordCall) → (answered w h next (went w h calls st)).number ≡ by_values w h next (went w h calls st).beam
  pub never-11 : (next : RecordCall) → (answered w h next (went w h calls st)).number ≡ 11 → ⊥
