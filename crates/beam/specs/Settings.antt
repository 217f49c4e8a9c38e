-- "RU, RS, RH and the making of a fresh record take W and H without the lent bytes: 11 for either outside 1..512, then 8 for the record, 8 for
-- the values. Where a fresh record is refused, all its fields are 0."
use Rattle.std.specs.Prelude.{ℕ, ◌+◌, ◌-◌, min, max, Bool, true, false, ◌&&◌, ltb, eqb, ℤ, pos, negsuc, nat_abs, Result, Ok, Err}
use Rattle.refusals.specs.declared.Refusal.{Refusal}
use Rattle.refusals.specs.Refusals.{number_of}
use Rattle.refusals.specs.Answers.{pick, demand}
use Rattle.memory.specs.declared.Point.{Point}
use Rattle.beam.specs.declared.Beam.{Beam}
use Rattle.beam.specs.declared.RefusedFresh.{RefusedFresh}
use Rattle.beam.specs.Validity.{is_size, is_bits, on_surface, in_viewport, is_valid}

-- what a call on the record gives back: 0 or the refusal's number, and a record
pub record Settled : Type 0 where
  pub number : ℕ
  pub after : Beam

-- what the answer of a call on the record `came` says: where it is refused, the record is as it came
unfoldable pub settled_by : (came : Beam) → Result Beam Refusal → Settled
settled_by came (Ok r) = record { number = 0; after = r }
settled_by came (Err e) = record { number = number_of e; after = came }

-- what the answer of `fresh` says, to which no record came: where it is refused, the record is the one beside the refusal
unfoldable pub fresh_by : Result Beam RefusedFresh → Settled
fresh_by (Ok r) = record { number = 0; after = r }
fresh_by (Err e) = record { number = number_of e.refusal; after = e.beam }

-- the new record; where the call is refused, the record as it came
abbrev pub unless_refused : ℕ → (new old : Beam) → Settled
unless_refused f new old = record { number = f; after = pick (eqb f 0) new old }

-- 11, then 8 for the record, then 8 for the values
unfoldable pub settled : (w h : ℕ) → Beam → (allowed : Bool) → (new : Beam) → Settled
settled w h r allowed new = unless_refused (demand (is_size w h) 11 (demand (is_valid w h r) 8 (demand allowed 8 0))) new r

-- ---- "Fresh: the whole surface, beam at the upper left."

abbrev pub fresh_beam : (w h : ℕ) → Beam
fresh_beam w h = record { bits = 0; left = 0; bottom = 0; right = w - 1; top = h - 1; x = 0; y = h - 1 }

abbrev pub no_beam : Beam
no_beam = record { bits = 0; left = 0; bottom = 0; right = 0; top = 0; x = 0; y = 0 }

unfoldable pub make_fresh : (w h : ℕ) → Settled
make_fresh w h = unless_refused (demand (is_size w h) 11 0) (fresh_beam w h) no_beam

-- ---- "RU sets the bits from its third integer and nothing else; its first two are handed on unused."

-- "8 for other bits than 1, 2, 3 or 6"
unfoldable pub bits_from : ℤ → Bool
bits_from (pos n) = is_bits n
bits_from (negsuc n) = false

abbrev pub with_bits : ℕ → Beam → Beam
with_bits b r = record { bits = b; left = r.left; bottom = r.bottom; right = r.right; top = r.top; x = r.x; y = r.y }

unfoldable pub set_bits : (w h : ℕ) → Beam → (first second third : ℤ) → Settled
set_bits w h r first second third = settled w h r (bits_from third) (with_bits (nat_abs third) r)

-- ---- "RS takes any two opposite corners, sets the viewport, and the beam to its upper left."

-- 8 "for a corner outside the surface"
unfoldable pub corners_on : (w h : ℕ) → (a b : Point) → Bool
corners_on w h a b = on_surface w h a.x a.y && on_surface w h b.x b.y

unfoldable pub framed : Beam → (a b : Point) → Beam
framed r a b = record {
  bits = r.bits;
  left = min a.x b.x;
  bottom = min a.y b.y;
  right = max a.x b.x;
  top = max a.y b.y;
  x = min a.x b.x;
  y = max a.y b.y;
}

unfoldable pub set_viewport : (w h : ℕ) → Beam → (a b : Point) → Settled
set_viewport w h r a b = settled w h r (corners_on w h a b) (framed r a b)

-- ---- "RH sets the beam, measured on the surface"; 8 "for a place outside the viewport"

abbrev pub beam_at : Beam → (x y : ℕ) → Beam
beam_at r x y = record { bits = r.bits; left = r.left; bottom = r.bottom; right = r.right; top = r.top; x = x; y = y }

unfoldable pub set_beam : (w h : ℕ) → Beam → Point → Settled
set_beam w h r p = settled w h r (in_viewport r p.x p.y) (beam_at r p.x p.y)

-- ---- "the beam goes right, then to the left edge of the row below, and from the last place to the upper left"

unfoldable pub stepped : Beam → Beam
stepped r =
    pick (ltb r.x r.right)
    (beam_at r (r.x + 1) r.y)
    (pick (ltb r.bottom r.y) (beam_at r r.left (r.y - 1)) (beam_at r r.left r.top))

-- "refused with 11 for W or H outside 1..512, then with 8 on a record that is not valid"
unfoldable pub make_step : (w h : ℕ) → Beam → Settled
make_step w h r = settled w h r true (stepped r)
