-- The balance worked out on a small surface: fewer colours named than the viewport has places, as many, and more; and with ends of rows.
use Rattle.std.specs.Prelude.{ℕ, ◌≡◌, refl, Bool, true, false, List, [], ◌∷◌, map, ℤ, pos, negsuc}
use Rattle.refusals.specs.Answers.{every}
use Rattle.beam.specs.Validity.{is_size, is_bits, on_surface, in_viewport, is_valid}
use Rattle.beam.specs.Settings.{settled, bits_from, set_bits, stepped}
use Rattle.pixel_refusals.specs.Tests.{is_surface, pixel_characters, raster_numbers, raster_characters, run_numbers, write_refusal, raster_refusal, run_refusal}
use Rattle.pixels.specs.Marks.{Mark, ink, gap, place, laid, moved, row_end}
use Rattle.pixels.specs.Writes.{pixels, character_marks, left_after, raster_marks, run_marks, run_total, written, surface_after, draw_raster, raster_surface, draw_runs, runs_surface}
use Rattle.balance.specs.Balance.{Call, raster, runs, bits, State, refusal, after, returned, named, ran, named_by, count, track, elsewhere, coloured, kept, inks, no_row_end, no_row_ends}

-- 4 by 3 bytes; the viewport is columns 1 and 2 of the two lower rows, and the beam stands at its upper right
abbrev pub start : State
start = record {
  beam = record { bits = 0; left = 1; bottom = 0; right = 2; top = 1; x = 2; y = 1 };
  surface = 9 ∷ 9 ∷ 9 ∷ 9 ∷ 9 ∷ 5 ∷ 6 ∷ 9 ∷ 9 ∷ 7 ∷ 5 ∷ 5 ∷ [];
}

-- what is asked of each call, on what the last one left
unfoldable pub each : (asked : (w h : ℕ) → Call → State → ℕ) → (w h : ℕ) → List Call → State → List ℕ
each asked w h [] st = []
each asked w h (call ∷ calls) st = asked w h call st ∷ each asked w h calls (after w h call st)

-- calls and what they give: refusals, numbers returned, the marks named, whether the accepted ones are without a 96, the beam and the surface in the
-- end; and the balance of the colour 5: how often it stands on the surface, among the colours that stay, and on the places that no colour is laid on
pub record Example : Type 0 where
  pub calls : List Call
  pub refusals : List ℕ
  pub numbers : List ℕ
  pub named : List Mark
  pub no_row_ends : Bool
  pub x : ℕ
  pub y : ℕ
  pub surface : List ℕ
  pub fives : ℕ
  pub staying : ℕ
  pub untouched : ℕ

abbrev pub worked : List Call → (ms : List Mark) → (end : State) → Example
worked calls ms end = record {
  calls = calls;
  refusals = each refusal 4 3 calls start;
  numbers = each returned 4 3 calls start;
  named = ms;
  no_row_ends = no_row_ends 4 3 calls start;
  x = end.beam.x;
  y = end.beam.y;
  surface = end.surface;
  fives = count 5 end.surface;
  staying = count 5 (kept (track 4 3 start.beam) ms);
  untouched = count 5 (elsewhere (coloured (track 4 3 start.beam) ms) start.surface);
}

-- RU with so many bits; RP; RL with one code
abbrev ru : ℤ → Call
ru b = bits (pos 0) (pos 0) b

abbrev rp : ℕ → List ℕ → Call
rp n chs = raster (pos n) (map pos chs)

abbrev rl : ℤ → Call
rl code = runs (code ∷ [])

abbrev pub worked_examples : List Example
worked_examples =
    -- three colours: RP is refused before RU, and RL with a code below 0
    record {
      calls = rp 2 (45 ∷ []) ∷ ru (pos 3) ∷ rp 2 (45 ∷ []) ∷ rl (negsuc 0) ∷ rl (pos 11) ∷ [];
      refusals = 9 ∷ 0 ∷ 0 ∷ 8 ∷ 0 ∷ [];
      numbers = 0 ∷ 0 ∷ 2 ∷ 0 ∷ 1 ∷ [];
      named = inks (1 ∷ 5 ∷ 3 ∷ []);
      no_row_ends = true;
      x = 1;
      y = 1;
      surface = 9 ∷ 9 ∷ 9 ∷ 9 ∷ 9 ∷ 5 ∷ 1 ∷ 9 ∷ 9 ∷ 5 ∷ 3 ∷ 5 ∷ [];
      fives = 3;
      staying = 1;
      untouched = 2;
    }
    -- four: RP is refused with a character too few, so that its 96 does not matter, and RU with four bits
    ∷ record {
      calls = ru (pos 3) ∷ rp 3 (45 ∷ 96 ∷ []) ∷ rp 3 (45 ∷ 40 ∷ []) ∷ ru (pos 4) ∷ rl (pos 13) ∷ [];
      refusals = 0 ∷ 10 ∷ 0 ∷ 8 ∷ 0 ∷ [];
      numbers = 0 ∷ 0 ∷ 3 ∷ 0 ∷ 1 ∷ [];
      named = inks (1 ∷ 5 ∷ 1 ∷ 5 ∷ []);
      no_row_ends = true;
      x = 2;
      y = 1;
      surface = 9 ∷ 9 ∷ 9 ∷ 9 ∷ 9 ∷ 5 ∷ 1 ∷ 9 ∷ 9 ∷ 5 ∷ 1 ∷ 5 ∷ [];
      fives = 3;
      staying = 2;
      untouched = 1;
    }
    -- six: the bits change between the writes, and RP is refused with the character 97
    ∷ record {
      calls = ru (pos 3) ∷ rl (pos 21) ∷ ru (pos 6) ∷ rp 1 (37 ∷ []) ∷ rp 1 (97 ∷ []) ∷ rl (pos 194) ∷ [];
      refusals = 0 ∷ 0 ∷ 0 ∷ 0 ∷ 10 ∷ 0 ∷ [];
      numbers = 0 ∷ 2 ∷ 0 ∷ 1 ∷ 0 ∷ 3 ∷ [];
      named = inks (5 ∷ 5 ∷ 5 ∷ 2 ∷ 2 ∷ 2 ∷ []);
      no_row_ends = true;
      x = 2;
      y = 0;
      surface = 9 ∷ 9 ∷ 9 ∷ 9 ∷ 9 ∷ 2 ∷ 2 ∷ 9 ∷ 9 ∷ 2 ∷ 5 ∷ 5 ∷ [];
      fives = 2;
      staying = 1;
      untouched = 1;
    }
    -- an end-of-row first, from the row's last place: the 6 there stays
    ∷ record {
      calls = ru (pos 6) ∷ rp 2 (96 ∷ 37 ∷ 34 ∷ []) ∷ [];
      refusals = 0 ∷ 0 ∷ [];
      numbers = 0 ∷ 2 ∷ [];
      named = gap ∷ inks (5 ∷ 2 ∷ []);
      no_row_ends = false;
      x = 1;
      y = 1;
      surface = 9 ∷ 9 ∷ 9 ∷ 9 ∷ 9 ∷ 5 ∷ 6 ∷ 9 ∷ 9 ∷ 5 ∷ 2 ∷ 5 ∷ [];
      fives = 3;
      staying = 1;
      untouched = 2;
    }
    -- twice running at the end, each from a left edge, the first in the last row; and one with N = 0, so that the beam goes round past the 5.
    -- RP is refused with an end-of-row for the character that N needs
    ∷ record {
      calls = ru (pos 6) ∷ rp 1 (96 ∷ []) ∷ rp 1 (37 ∷ 96 ∷ 96 ∷ []) ∷ rp 0 (96 ∷ []) ∷ rl (pos 67) ∷ [];
      refusals = 0 ∷ 10 ∷ 0 ∷ 0 ∷ 0 ∷ [];
      numbers = 0 ∷ 0 ∷ 1 ∷ 0 ∷ 1 ∷ [];
      named = ink 5 ∷ gap ∷ gap ∷ gap ∷ gap ∷ gap ∷ gap ∷ ink 3 ∷ [];
      no_row_ends = false;
      x = 2;
      y = 1;
      surface = 9 ∷ 9 ∷ 9 ∷ 9 ∷ 9 ∷ 3 ∷ 5 ∷ 9 ∷ 9 ∷ 7 ∷ 5 ∷ 5 ∷ [];
      fives = 3;
      staying = 1;
      untouched = 2;
    }
    -- behind a whole character, which keeps its pixel in the row below: the end-of-row is that row's; the next write covers the pixel
    ∷ record {
      calls = ru (pos 3) ∷ rp 2 (45 ∷ 96 ∷ []) ∷ rp 1 (96 ∷ 40 ∷ []) ∷ [];
      refusals = 0 ∷ 0 ∷ 0 ∷ [];
      numbers = 0 ∷ 2 ∷ 1 ∷ [];
      named = ink 1 ∷ ink 5 ∷ gap ∷ gap ∷ gap ∷ ink 1 ∷ [];
      no_row_ends = false;
      x = 2;
      y = 0;
      surface = 9 ∷ 9 ∷ 9 ∷ 9 ∷ 9 ∷ 5 ∷ 1 ∷ 9 ∷ 9 ∷ 1 ∷ 5 ∷ 5 ∷ [];
      fives = 3;
      staying = 0;
      untouched = 3;
    }
    ∷ []

abbrev worked-of : Example → Example
worked-of e = worked e.calls (named_by 4 3 e.calls start) (ran 4 3 e.calls start)

-- the one claim
pub all_as_worked : map worked-of worked_examples ≡ worked_examples
unfolding is_size is_bits on_surface in_viewport is_valid settled bits_from set_bits stepped place laid moved row_end pixels character_marks left_after
    raster_marks run_marks run_total is_surface pixel_characters raster_numbers raster_characters run_numbers write_refusal raster_refusal run_refusal every
    written surface_after draw_raster raster_surface draw_runs runs_surface after returned named ran named_by refusal each count coloured kept elsewhere no_row_end no_row_ends
all_as_worked = refl
