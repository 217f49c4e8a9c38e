-- Document 003's worked example of the end-of-row (003:4206-4227): a fill pattern of eight places by nine rows, six bits to a pixel, in three raster
-- writes. N leaves the ends of rows out (18, 15, 15) and the string's count has them (21, 16, 18); a row that is filled goes on by itself and takes
-- none. The manual's 0 and 1 are the characters 48 and 49, so the colours 16 and 17. Its pattern is 0 where nothing is laid; here those places keep
-- the bytes that they had.
use Rattle.std.specs.Prelude.{ℕ, ◌≡◌, refl, List, [], ◌∷◌, map, length, replicate, pos}
use Rattle.refusals.specs.Answers.{every}
use Rattle.beam.specs.Validity.{is_size, is_bits, on_surface, in_viewport, is_valid}
use Rattle.beam.specs.Settings.{fresh_beam, with_bits, stepped}
use Rattle.pixel_refusals.specs.Tests.{needed, is_surface, pixel_characters, raster_numbers, raster_characters, write_refusal, raster_refusal}
use Rattle.pixels.specs.Marks.{place, laid, moved, row_end}
use Rattle.pixels.specs.Writes.{pixels, character_marks, left_after, raster_marks, written, surface_after, draw_raster, raster_surface}
use Rattle.balance.specs.Balance.{Call, raster, State, raster_outcome, after, returned, ran}

abbrev pub pattern : State
pattern = record { beam = with_bits 6 (fresh_beam 8 9); surface = replicate 72 9 }

-- a write and what comes of it: the string's count, how many characters are other than 96 and how many N needs, the refusal's number, the number
-- returned, and the beam
pub record Write : Type 0 where
  pub n : ℕ
  pub characters : List ℕ
  pub entries : ℕ
  pub others : ℕ
  pub needs : ℕ
  pub number : ℕ
  pub pixels : ℕ
  pub x : ℕ
  pub y : ℕ

abbrev call_of : Write → Call
call_of e = raster (pos e.n) (map pos e.characters)

abbrev worked : Write → (before behind : State) → Write
worked e before behind = record {
  n = e.n;
  characters = e.characters;
  entries = length e.characters;
  others = pixel_characters e.characters;
  needs = needed 6 e.n;
  number = (raster_outcome 8 9 (pos e.n) (map pos e.characters) before).number;
  pixels = returned 8 9 (call_of e) before;
  x = behind.beam.x;
  y = behind.beam.y;
}

-- each write on what the last one left
unfoldable pub worked_from : List Write → State → List Write
worked_from [] st = []
worked_from (e ∷ es) st = worked e st (after 8 9 (call_of e) st) ∷ worked_from es (after 8 9 (call_of e) st)

abbrev pub writes : List Write
writes =
    record {
      n = 18;
      characters = 48 ∷ 48 ∷ 48 ∷ 48 ∷ 49 ∷ 96 ∷ 48 ∷ 48 ∷ 48 ∷ 49 ∷ 49 ∷ 49 ∷ 96 ∷ 48 ∷ 48 ∷ 49 ∷ 49 ∷ 49 ∷ 49 ∷ 49 ∷ 96 ∷ [];
      entries = 21;
      others = 18;
      needs = 18;
      number = 0;
      pixels = 18;
      x = 0;
      y = 5;
    }
    ∷ record {
      n = 15;
      characters = 48 ∷ 49 ∷ 49 ∷ 49 ∷ 49 ∷ 49 ∷ 49 ∷ 49 ∷ 49 ∷ 49 ∷ 49 ∷ 49 ∷ 49 ∷ 49 ∷ 49 ∷ 96 ∷ [];
      entries = 16;
      others = 15;
      needs = 15;
      number = 0;
      pixels = 15;
      x = 0;
      y = 3;
    }
    ∷ record {
      n = 15;
      characters = 48 ∷ 49 ∷ 49 ∷ 49 ∷ 49 ∷ 49 ∷ 96 ∷ 48 ∷ 48 ∷ 49 ∷ 49 ∷ 49 ∷ 96 ∷ 48 ∷ 48 ∷ 48 ∷ 49 ∷ 96 ∷ [];
      entries = 18;
      others = 15;
      needs = 15;
      number = 0;
      pixels = 15;
      x = 0;
      y = 0;
    }
    ∷ []

abbrev pub rows : List ℕ
rows =
    16 ∷ 16 ∷ 16 ∷ 16 ∷ 17 ∷ 9 ∷ 9 ∷ 9
    ∷ 16 ∷ 16 ∷ 16 ∷ 17 ∷ 17 ∷ 17 ∷ 9 ∷ 9
    ∷ 16 ∷ 16 ∷ 17 ∷ 17 ∷ 17 ∷ 17 ∷ 17 ∷ 9
    ∷ 16 ∷ 17 ∷ 17 ∷ 17 ∷ 17 ∷ 17 ∷ 17 ∷ 17
    ∷ 17 ∷ 17 ∷ 17 ∷ 17 ∷ 17 ∷ 17 ∷ 17 ∷ 9
    ∷ 16 ∷ 17 ∷ 17 ∷ 17 ∷ 17 ∷ 17 ∷ 9 ∷ 9
    ∷ 16 ∷ 16 ∷ 17 ∷ 17 ∷ 17 ∷ 9 ∷ 9 ∷ 9
    ∷ 16 ∷ 16 ∷ 16 ∷ 17 ∷ 9 ∷ 9 ∷ 9 ∷ 9
    ∷ 9 ∷ 9 ∷ 9 ∷ 9 ∷ 9 ∷ 9 ∷ 9 ∷ 9
    ∷ []

-- the one claim
pub as_in_the_manual : (worked_from writes pattern ≡ writes) × ((ran 8 9 (map call_of writes) pattern).surface ≡ rows)
unfolding is_size is_bits on_surface in_viewport is_valid stepped place laid moved row_end pixels character_marks left_after raster_marks is_surface
    pixel_characters raster_numbers raster_characters write_refusal raster_refusal every written surface_after draw_raster raster_surface after returned ran
    worked_from
as_in_the_manual = (refl, refl)
