-- Wrong answers of `beam`, `stepping`, `pixel_refusals`, `pixels` and `balance`, and of the exported pixel calls. Each row: a call, its input, and what it must not
-- answer. A record is its seven numbers: bits, left, bottom, right, top, x, y.
use Rattle.std.specs.Prelude.{ℕ, List, [], ◌∷◌, ◌++◌, length, ℤ, pos, negsuc}
use Rattle.memory.specs.declared.Point.{Point}
use Rattle.coordinates.specs.Coordinates.{point_given}
use Rattle.beam.specs.Validity.{is_size, is_valid}
use Rattle.beam.specs.Settings.{Settled, make_fresh, set_bits, set_viewport, set_beam, stepped, make_step}
use Rattle.pixel_refusals.specs.Tests.{raster_refusal, run_refusal}
use Rattle.pixels.specs.Writes.{WriteOutcome, draw_raster, raster_surface, draw_runs, runs_surface}
use Rattle.balance.specs.Balance.{Call, raster, runs, State, returned, ran}
use Rattle.pixel_calls.specs.Fields.{beam_in, fields_of}
use Rattle.sheet.specs.Rows.{Wrong, but, joined, truth, at}

-- on two by two places: a fresh record, the same at three bits and at six, and one whose beam stands at the upper right
abbrev fresh : List ℕ
fresh = (0 ∷ 0 ∷ 0 ∷ 1 ∷ 1 ∷ 0 ∷ 1 ∷ [])

abbrev three : List ℕ
three = (3 ∷ 0 ∷ 0 ∷ 1 ∷ 1 ∷ 0 ∷ 1 ∷ [])

abbrev six : List ℕ
six = (6 ∷ 0 ∷ 0 ∷ 1 ∷ 1 ∷ 0 ∷ 1 ∷ [])

abbrev upper_right : List ℕ
upper_right = (3 ∷ 0 ∷ 0 ∷ 1 ∷ 1 ∷ 1 ∷ 1 ∷ [])

abbrev nines : List ℕ
nines = (9 ∷ 9 ∷ 9 ∷ 9 ∷ [])

-- the number, and the record
abbrev settled_is : Settled → List ℕ
settled_is s = s.number ∷ fields_of s.after

-- ---- beam

abbrev pub wrong-is_size : List Wrong
wrong-is_size =
    -- "W and H are each 1..512"
    but (truth (is_size 513 1)) (1 ∷ [])
    ∷ but (truth (is_size 512 512)) (0 ∷ [])
    ∷ but (truth (is_size 1 0)) (1 ∷ [])
    ∷ []

abbrev pub wrong-is_valid : List Wrong
wrong-is_valid =
    -- "a viewport inside the surface"; "bits (0 when fresh, else 1, 2, 3 or 6)"
    but (truth (is_valid 2 2 (beam_in (1 ∷ 0 ∷ 0 ∷ 2 ∷ 1 ∷ 0 ∷ 1 ∷ [])))) (1 ∷ [])
    ∷ but (truth (is_valid 2 2 (beam_in (4 ∷ 0 ∷ 0 ∷ 1 ∷ 1 ∷ 0 ∷ 1 ∷ [])))) (1 ∷ [])
    ∷ []

abbrev pub wrong-fresh_beam : List Wrong
wrong-fresh_beam =
    -- "Fresh: the whole surface, beam at the upper left"
    but (settled_is (make_fresh 2 2)) (0 ∷ 0 ∷ 0 ∷ 0 ∷ 1 ∷ 1 ∷ 0 ∷ 0 ∷ [])
    -- "Where a fresh record is refused, all its fields are 0"
    ∷ but (settled_is (make_fresh 513 1)) (11 ∷ 0 ∷ 0 ∷ 0 ∷ 513 ∷ 0 ∷ 0 ∷ 0 ∷ [])
    ∷ []

abbrev setting_bits : (w h : ℕ) → (second third : ℤ) → List ℕ → Wrong
setting_bits w h second third wrong = but (settled_is (set_bits w h (beam_in fresh) (pos 1) second third)) wrong

abbrev pub wrong-set_bits : List Wrong
wrong-set_bits =
    -- "RU sets the bits from its third integer"
    setting_bits 2 2 (pos 2) (pos 3) (0 ∷ 2 ∷ 0 ∷ 0 ∷ 1 ∷ 1 ∷ 0 ∷ 1 ∷ [])
    -- "RU gives 8 for other bits than 1, 2, 3 or 6": for -3 and 4
    ∷ setting_bits 2 2 (pos 2) (negsuc 2) (0 ∷ 3 ∷ 0 ∷ 0 ∷ 1 ∷ 1 ∷ 0 ∷ 1 ∷ [])
    ∷ setting_bits 2 2 (pos 2) (pos 4) (0 ∷ 4 ∷ 0 ∷ 0 ∷ 1 ∷ 1 ∷ 0 ∷ 1 ∷ [])
    -- refused, the record is handed back as it came
    ∷ setting_bits 2 2 (pos 2) (pos 4) (8 ∷ 4 ∷ 0 ∷ 0 ∷ 1 ∷ 1 ∷ 0 ∷ 1 ∷ [])
    -- "11 for either outside 1..512, then 8"
    ∷ setting_bits 0 2 (pos 2) (pos 4) (8 ∷ 0 ∷ 0 ∷ 0 ∷ 1 ∷ 1 ∷ 0 ∷ 1 ∷ [])
    ∷ []

abbrev setting_viewport : List ℕ → (a b : Point) → List ℕ → Wrong
setting_viewport r a b wrong = but (settled_is (set_viewport 2 2 (beam_in r) a b)) wrong

abbrev pub wrong-set_viewport : List Wrong
wrong-set_viewport =
    -- "RS takes any two opposite corners": the second need not be the right one
    setting_viewport fresh (at 1 1) (at 0 0) (0 ∷ 0 ∷ 0 ∷ 0 ∷ 0 ∷ 1 ∷ 0 ∷ 1 ∷ [])
    -- "and the beam to its upper left"
    ∷ setting_viewport (0 ∷ 0 ∷ 0 ∷ 1 ∷ 1 ∷ 1 ∷ 0 ∷ []) (at 0 0) (at 1 1) (0 ∷ 0 ∷ 0 ∷ 0 ∷ 1 ∷ 1 ∷ 1 ∷ 1 ∷ [])
    -- 8 "for a corner outside the surface": the second too
    ∷ setting_viewport fresh (at 0 0) (at 2 0) (0 ∷ 0 ∷ 0 ∷ 0 ∷ 2 ∷ 0 ∷ 0 ∷ 0 ∷ [])
    ∷ []

abbrev setting_beam : List ℕ → Point → List ℕ → Wrong
setting_beam r to wrong = but (settled_is (set_beam 2 2 (beam_in r) to)) wrong

abbrev pub wrong-set_beam : List Wrong
wrong-set_beam =
    -- "RH sets the beam": both coordinates
    setting_beam fresh (at 1 0) (0 ∷ 0 ∷ 0 ∷ 0 ∷ 1 ∷ 1 ∷ 0 ∷ 0 ∷ [])
    -- 8 "for a place outside the viewport"
    ∷ setting_beam (0 ∷ 0 ∷ 0 ∷ 0 ∷ 0 ∷ 0 ∷ 0 ∷ []) (at 1 1) (0 ∷ 0 ∷ 0 ∷ 0 ∷ 0 ∷ 0 ∷ 1 ∷ 1 ∷ [])
    ∷ []

abbrev stepping : List ℕ → List ℕ → Wrong
stepping r wrong = but (fields_of (stepped (beam_in r))) wrong

abbrev pub wrong-step : List Wrong
wrong-step =
    -- "the beam goes right"
    stepping fresh (0 ∷ 0 ∷ 0 ∷ 1 ∷ 1 ∷ 0 ∷ 1 ∷ [])
    -- "then to the left edge of the row below"
    ∷ stepping (0 ∷ 0 ∷ 0 ∷ 1 ∷ 1 ∷ 1 ∷ 1 ∷ []) (0 ∷ 0 ∷ 0 ∷ 1 ∷ 1 ∷ 1 ∷ 0 ∷ [])
    -- "and from the last place to the upper left"
    ∷ stepping (0 ∷ 0 ∷ 0 ∷ 1 ∷ 1 ∷ 1 ∷ 0 ∷ []) (0 ∷ 0 ∷ 0 ∷ 1 ∷ 1 ∷ 0 ∷ 0 ∷ [])
    ∷ []

abbrev pub wrong-step_on : List Wrong
wrong-step_on =
    -- a step that is not refused is done; "No refusal is given but on its condition"
    but (settled_is (make_step 2 2 (beam_in fresh))) (0 ∷ fresh)
    ∷ but (settled_is (make_step 2 2 (beam_in fresh))) (8 ∷ fresh)
    ∷ []

-- ---- stepping: the number, and the lent record

abbrev pub wrong-step_lent : List Wrong
wrong-step_lent =
    -- "refused with 11 for W or H outside 1..512, then with 8": the number is not 0, and the record stays as it came
    but (settled_is (make_step 513 1 (beam_in fresh))) (0 ∷ fresh)
    ∷ but (settled_is (make_step 2 2 (beam_in (0 ∷ 0 ∷ 0 ∷ 1 ∷ 1 ∷ 1 ∷ 2 ∷ [])))) (8 ∷ 0 ∷ 0 ∷ 0 ∷ 1 ∷ 1 ∷ 0 ∷ 1 ∷ [])
    -- "moves the beam one place in that record"
    ∷ but (settled_is (make_step 2 2 (beam_in fresh))) (0 ∷ fresh)
    ∷ []

-- ---- pixel_refusals: 0 or the number

abbrev pub wrong-raster_verdict : List Wrong
wrong-raster_verdict =
    -- "Order: 11, 8 for the record, 9, 8 for a number outside 0..32767 .., then 10"
    but (raster_refusal 2 2 5 (beam_in fresh) (negsuc 0) [] ∷ []) (9 ∷ [])
    ∷ but (raster_refusal 2 2 4 (beam_in fresh) (negsuc 0) [] ∷ []) (8 ∷ [])
    ∷ but (raster_refusal 2 2 4 (beam_in three) (negsuc 0) (pos 31 ∷ []) ∷ []) (10 ∷ [])
    -- "There must be exactly as many characters as N needs"
    ∷ but (raster_refusal 2 2 4 (beam_in three) (pos 3) (pos 40 ∷ []) ∷ []) (0 ∷ [])
    -- "32..95", and 96
    ∷ but (raster_refusal 2 2 4 (beam_in three) (pos 1) (pos 97 ∷ []) ∷ []) (0 ∷ [])
    ∷ []

abbrev pub wrong-run_verdict : List Wrong
wrong-run_verdict =
    -- the same order, and "in RL each code"
    but (run_refusal 2 2 5 (beam_in fresh) (negsuc 0 ∷ []) ∷ []) (8 ∷ [])
    ∷ but (run_refusal 2 2 4 (beam_in three) (pos 21 ∷ negsuc 0 ∷ []) ∷ []) (0 ∷ [])
    ∷ []

-- ---- pixels: the number, the number of pixels, the record, and the surface

abbrev drawn_is : WriteOutcome → List ℕ → List ℕ
drawn_is t surface = t.number ∷ t.count ∷ (fields_of t.after ++ surface)

abbrev rastered : List ℕ → ℤ → List ℤ → List ℕ → List ℕ
rastered r n chs s = drawn_is (draw_raster 2 2 (beam_in r) n chs (length s)) (raster_surface 2 2 (beam_in r) n chs s)

abbrev pub wrong-draw_raster : List Wrong
wrong-draw_raster =
    -- "Starting a raster write at the row's left edge"
    but (rastered upper_right (pos 1) (pos 40 ∷ []) nines) (0 ∷ 1 ∷ 3 ∷ 0 ∷ 0 ∷ 1 ∷ 1 ∷ 1 ∷ 1 ∷ 1 ∷ 9 ∷ 9 ∷ 9 ∷ [])
    -- "dropped pixels between raster commands": the beam is left at the end of its row
    ∷ but (rastered upper_right (pos 1) (pos 40 ∷ []) nines) (0 ∷ 1 ∷ 3 ∷ 0 ∷ 0 ∷ 1 ∷ 1 ∷ 1 ∷ 0 ∷ 9 ∷ 1 ∷ 9 ∷ 9 ∷ [])
    -- one "that writes nothing"
    ∷ but (rastered three (pos 1) (pos 40 ∷ []) nines) (0 ∷ 1 ∷ 3 ∷ 0 ∷ 0 ∷ 1 ∷ 1 ∷ 0 ∷ 1 ∷ 9 ∷ 9 ∷ 9 ∷ 9 ∷ [])
    -- one that stores the first character and feigns the later ones; one "that invents its pixel .. count"
    ∷ but (rastered three (pos 4) (pos 42 ∷ pos 60 ∷ []) nines) (0 ∷ 4 ∷ 3 ∷ 0 ∷ 0 ∷ 1 ∷ 1 ∷ 0 ∷ 0 ∷ 1 ∷ 2 ∷ 9 ∷ 9 ∷ [])
    ∷ but (rastered three (pos 4) (pos 42 ∷ pos 60 ∷ []) nines) (0 ∷ 2 ∷ 3 ∷ 0 ∷ 0 ∷ 1 ∷ 1 ∷ 0 ∷ 1 ∷ 1 ∷ 2 ∷ 3 ∷ 4 ∷ [])
    -- "takes its pixels from the top bits down"
    ∷ but (rastered three (pos 2) (pos 42 ∷ []) nines) (0 ∷ 2 ∷ 3 ∷ 0 ∷ 0 ∷ 1 ∷ 1 ∷ 0 ∷ 0 ∷ 2 ∷ 1 ∷ 9 ∷ 9 ∷ [])
    -- "There must be exactly as many characters as N needs"
    ∷ but (rastered three (pos 1) (pos 40 ∷ pos 40 ∷ []) nines) (0 ∷ 1 ∷ 3 ∷ 0 ∷ 0 ∷ 1 ∷ 1 ∷ 1 ∷ 1 ∷ 1 ∷ 9 ∷ 9 ∷ 9 ∷ [])
    -- "8 for a number outside 0..32767", and the record is handed back as it came
    ∷ but (rastered upper_right (negsuc 0) [] nines) (8 ∷ 0 ∷ 3 ∷ 0 ∷ 0 ∷ 1 ∷ 1 ∷ 0 ∷ 1 ∷ 9 ∷ 9 ∷ 9 ∷ 9 ∷ [])
    -- "8 for the record, 9": bits that are not set are 9
    ∷ but (rastered fresh (pos 1) (pos 40 ∷ []) nines) (8 ∷ 0 ∷ 0 ∷ 0 ∷ 0 ∷ 1 ∷ 1 ∷ 0 ∷ 1 ∷ 9 ∷ 9 ∷ 9 ∷ 9 ∷ [])
    -- "the lent bytes number exactly W times H, or 11 is given"
    ∷ but (rastered three (pos 1) (pos 40 ∷ []) (9 ∷ 9 ∷ 9 ∷ 9 ∷ 9 ∷ [])) (0 ∷ 1 ∷ 3 ∷ 0 ∷ 0 ∷ 1 ∷ 1 ∷ 1 ∷ 1 ∷ 1 ∷ 9 ∷ 9 ∷ 9 ∷ 9 ∷ [])
    ∷ []

abbrev pub wrong-row_end : List Wrong
wrong-row_end =
    -- K1: "In RP a 96 sends the beam to the left edge of the row below": the rest of the row is not cleared
    but (rastered six (pos 0) (pos 96 ∷ []) nines) (0 ∷ 0 ∷ 6 ∷ 0 ∷ 0 ∷ 1 ∷ 1 ∷ 0 ∷ 0 ∷ 0 ∷ 0 ∷ 9 ∷ 9 ∷ [])
    -- "even from a left edge"
    ∷ but (rastered six (pos 0) (pos 96 ∷ []) nines) (0 ∷ 0 ∷ 6 ∷ 0 ∷ 0 ∷ 1 ∷ 1 ∷ 0 ∷ 1 ∷ 9 ∷ 9 ∷ 9 ∷ 9 ∷ [])
    -- "round to the top after the last"
    ∷ but (rastered (6 ∷ 0 ∷ 0 ∷ 1 ∷ 1 ∷ 0 ∷ 0 ∷ []) (pos 0) (pos 96 ∷ []) nines) (0 ∷ 0 ∷ 6 ∷ 0 ∷ 0 ∷ 1 ∷ 1 ∷ 0 ∷ 0 ∷ 9 ∷ 9 ∷ 9 ∷ 9 ∷ [])
    -- and not off the viewport, here one row
    ∷ but (rastered (6 ∷ 0 ∷ 1 ∷ 1 ∷ 1 ∷ 0 ∷ 1 ∷ []) (pos 0) (pos 96 ∷ []) nines) (0 ∷ 0 ∷ 6 ∷ 0 ∷ 1 ∷ 1 ∷ 1 ∷ 0 ∷ 0 ∷ 9 ∷ 9 ∷ 9 ∷ 9 ∷ [])
    -- "Places passed over aren't counted in N"
    ∷ but (rastered six (pos 1) (pos 96 ∷ pos 37 ∷ []) nines) (0 ∷ 1 ∷ 6 ∷ 0 ∷ 0 ∷ 1 ∷ 1 ∷ 0 ∷ 0 ∷ 9 ∷ 9 ∷ 9 ∷ 9 ∷ [])
    -- "Characters other than 96 must still be just as many as N needs"
    ∷ but (rastered six (pos 1) (pos 96 ∷ []) nines) (0 ∷ 1 ∷ 6 ∷ 0 ∷ 0 ∷ 1 ∷ 1 ∷ 0 ∷ 0 ∷ 9 ∷ 9 ∷ 9 ∷ 9 ∷ [])
    -- "10 as before, with 96 now allowed"
    ∷ but (rastered six (pos 0) (pos 96 ∷ []) nines) (10 ∷ 0 ∷ 6 ∷ 0 ∷ 0 ∷ 1 ∷ 1 ∷ 0 ∷ 1 ∷ 9 ∷ 9 ∷ 9 ∷ 9 ∷ [])
    ∷ []

abbrev ran_out : List ℕ → List ℤ → List ℕ → List ℕ
ran_out r codes s = drawn_is (draw_runs 2 2 (beam_in r) codes (length s)) (runs_surface 2 2 (beam_in r) codes s)

abbrev pub wrong-draw_runs : List Wrong
wrong-draw_runs =
    -- "two pixels of colour 5 = code 21": one that writes nothing, one that invents its count
    but (ran_out three (pos 21 ∷ []) nines) (0 ∷ 2 ∷ 3 ∷ 0 ∷ 0 ∷ 1 ∷ 1 ∷ 0 ∷ 1 ∷ 9 ∷ 9 ∷ 9 ∷ 9 ∷ [])
    ∷ but (ran_out three (pos 21 ∷ []) nines) (0 ∷ 1 ∷ 3 ∷ 0 ∷ 0 ∷ 1 ∷ 1 ∷ 0 ∷ 0 ∷ 5 ∷ 5 ∷ 9 ∷ 9 ∷ [])
    -- the beam is left at the end of its row
    ∷ but (ran_out three (pos 21 ∷ []) nines) (0 ∷ 2 ∷ 3 ∷ 0 ∷ 0 ∷ 1 ∷ 1 ∷ 1 ∷ 0 ∷ 5 ∷ 5 ∷ 9 ∷ 9 ∷ [])
    -- "length times 2^bits plus colour": each code has its own run
    ∷ but (ran_out three (pos 13 ∷ pos 10 ∷ []) nines) (0 ∷ 2 ∷ 3 ∷ 0 ∷ 0 ∷ 1 ∷ 1 ∷ 0 ∷ 0 ∷ 5 ∷ 5 ∷ 9 ∷ 9 ∷ [])
    -- "house rule: length 0 places nothing"
    ∷ but (ran_out three (pos 5 ∷ []) nines) (0 ∷ 1 ∷ 3 ∷ 0 ∷ 0 ∷ 1 ∷ 1 ∷ 1 ∷ 1 ∷ 5 ∷ 9 ∷ 9 ∷ 9 ∷ [])
    -- "codes, none negative", and the record is handed back as it came
    ∷ but (ran_out upper_right (negsuc 0 ∷ []) nines) (8 ∷ 0 ∷ 3 ∷ 0 ∷ 0 ∷ 1 ∷ 1 ∷ 0 ∷ 1 ∷ 9 ∷ 9 ∷ 9 ∷ 9 ∷ [])
    -- "8 for the record, 9"
    ∷ but (ran_out fresh (pos 21 ∷ []) nines) (8 ∷ 0 ∷ 0 ∷ 0 ∷ 0 ∷ 1 ∷ 1 ∷ 0 ∷ 1 ∷ 9 ∷ 9 ∷ 9 ∷ 9 ∷ [])
    ∷ []

-- ---- balance: calls one after the other

abbrev start : State
start = record { beam = beam_in three; surface = nines }

abbrev running : List Call → List ℕ → Wrong
running calls wrong = but (ran 2 2 calls start).surface wrong

abbrev pub wrong-ran : List Wrong
wrong-ran =
    -- "List the colours that the accepted writes name, in order": one "that writes nothing", one "that stores the first write and feigns the later ones"
    running (runs (pos 13 ∷ []) ∷ runs (pos 10 ∷ []) ∷ []) (9 ∷ 9 ∷ 9 ∷ 9 ∷ [])
    ∷ running (runs (pos 13 ∷ []) ∷ runs (pos 10 ∷ []) ∷ []) (5 ∷ 9 ∷ 9 ∷ 9 ∷ [])
    -- "the record as the last left them": the second write goes on where the first has left the beam
    ∷ running (runs (pos 13 ∷ []) ∷ runs (pos 10 ∷ []) ∷ []) (2 ∷ 9 ∷ 9 ∷ 9 ∷ [])
    -- "refused writes name none"
    ∷ running (runs (negsuc 12 ∷ []) ∷ runs (pos 10 ∷ []) ∷ []) (5 ∷ 2 ∷ 9 ∷ 9 ∷ [])
    -- one "that invents its pixel .. count": the number of codes
    ∷ but (returned 2 2 (runs (pos 21 ∷ [])) start ∷ []) (1 ∷ [])
    -- an end of row counts "for the beam and not for the number returned"
    ∷ but (returned 2 2 (raster (pos 1) (pos 40 ∷ pos 96 ∷ [])) start ∷ []) (2 ∷ [])
    ∷ running (raster (pos 0) (pos 96 ∷ []) ∷ runs (pos 13 ∷ []) ∷ []) (5 ∷ 9 ∷ 9 ∷ 9 ∷ [])
    -- "the same list cut into other writes .. leaves the same surface": a cut does not set the beam back, at a 96 either
    ∷ running (raster (pos 2) (pos 42 ∷ []) ∷ raster (pos 2) (pos 60 ∷ []) ∷ []) (3 ∷ 4 ∷ 9 ∷ 9 ∷ [])
    ∷ running (raster (pos 1) (pos 42 ∷ pos 96 ∷ []) ∷ raster (pos 1) (pos 40 ∷ []) ∷ []) (1 ∷ 1 ∷ 9 ∷ 9 ∷ [])
    ∷ []

-- ---- the exported calls: the number, the slots, and what is lent

abbrev pub wrong-ardh_fresh : List Wrong
wrong-ardh_fresh =
    -- W and H in their order; a fresh record that is made is 0
    but (settled_is (make_fresh 2 1)) (0 ∷ 0 ∷ 0 ∷ 0 ∷ 0 ∷ 1 ∷ 0 ∷ 1 ∷ [])
    ∷ but (settled_is (make_fresh 2 1)) (11 ∷ 0 ∷ 0 ∷ 0 ∷ 1 ∷ 0 ∷ 0 ∷ 0 ∷ [])
    ∷ []

-- on three by two places
abbrev wide : List ℕ
wide = (0 ∷ 0 ∷ 0 ∷ 2 ∷ 1 ∷ 0 ∷ 1 ∷ [])

abbrev pub wrong-ardh_set_bits : List Wrong
wrong-ardh_set_bits =
    -- "the bits from its third integer": not from the first; W and H in their order
    but (settled_is (set_bits 3 2 (beam_in wide) (pos 1) (pos 2) (pos 3))) (0 ∷ 1 ∷ 0 ∷ 0 ∷ 2 ∷ 1 ∷ 0 ∷ 1 ∷ [])
    ∷ but (settled_is (set_bits 3 2 (beam_in wide) (pos 1) (pos 2) (pos 3))) (8 ∷ wide)
    ∷ []

abbrev viewport_slots : (x y x2 y2 : ℕ) → List ℕ → Wrong
viewport_slots x y x2 y2 wrong = but (settled_is (set_viewport 3 2 (beam_in wide) (point_given (pos x) (pos y)) (point_given (pos x2) (pos y2)))) wrong

abbrev pub wrong-ardh_set_viewport : List Wrong
wrong-ardh_set_viewport =
    -- "any two opposite corners": the second has its own y; x comes first
    viewport_slots 0 0 2 1 (0 ∷ 0 ∷ 0 ∷ 0 ∷ 2 ∷ 0 ∷ 0 ∷ 0 ∷ [])
    ∷ viewport_slots 1 0 2 1 (0 ∷ 0 ∷ 0 ∷ 1 ∷ 2 ∷ 1 ∷ 0 ∷ 1 ∷ [])
    ∷ []

abbrev beam-slots : (x y : ℕ) → List ℕ → Wrong
beam-slots x y wrong = but (settled_is (set_beam 3 2 (beam_in wide) (point_given (pos x) (pos y)))) wrong

abbrev pub wrong-ardh_set_beam : List Wrong
wrong-ardh_set_beam =
    -- "RH sets the beam, measured on the surface": x comes first, in the call and in the record; W and H in their order
    beam-slots 1 0 (0 ∷ 0 ∷ 0 ∷ 0 ∷ 2 ∷ 1 ∷ 0 ∷ 1 ∷ [])
    ∷ beam-slots 1 0 (0 ∷ 0 ∷ 0 ∷ 0 ∷ 2 ∷ 1 ∷ 0 ∷ 0 ∷ [])
    ∷ beam-slots 2 0 (8 ∷ wide)
    ∷ []

abbrev pub wrong-ardh_step : List Wrong
wrong-ardh_step =
    -- W and H in their order; refused, the record is as it came
    but (settled_is (make_step 3 2 (beam_in wide))) (8 ∷ wide)
    ∷ but (settled_is (make_step 2 2 (beam_in (0 ∷ 0 ∷ 0 ∷ 1 ∷ 1 ∷ 1 ∷ 2 ∷ [])))) (8 ∷ 0 ∷ 0 ∷ 0 ∷ 1 ∷ 1 ∷ 0 ∷ 1 ∷ [])
    ∷ []

abbrev pub wrong-ardh_draw_raster : List Wrong
wrong-ardh_draw_raster =
    -- one "that writes nothing" and answers as it should; one "that invents its pixel .. count"
    but (rastered three (pos 1) (pos 40 ∷ []) nines) (0 ∷ 1 ∷ 3 ∷ 0 ∷ 0 ∷ 1 ∷ 1 ∷ 1 ∷ 1 ∷ 9 ∷ 9 ∷ 9 ∷ 9 ∷ [])
    ∷ but (rastered three (pos 1) (pos 40 ∷ []) nines) (0 ∷ 32767 ∷ 3 ∷ 0 ∷ 0 ∷ 1 ∷ 1 ∷ 1 ∷ 1 ∷ 1 ∷ 9 ∷ 9 ∷ 9 ∷ [])
    -- refused, the record is as it came
    ∷ but (rastered upper_right (pos 2) [] nines) (10 ∷ 0 ∷ 3 ∷ 0 ∷ 0 ∷ 1 ∷ 1 ∷ 0 ∷ 1 ∷ 9 ∷ 9 ∷ 9 ∷ 9 ∷ [])
    ∷ []

abbrev pub wrong-ardh_draw_runs : List Wrong
wrong-ardh_draw_runs =
    -- one "that stores the first write and feigns the later ones": from a beam that has moved it answers as it should and stores nothing
    but (ran_out upper_right (pos 13 ∷ []) nines) (0 ∷ 1 ∷ 3 ∷ 0 ∷ 0 ∷ 1 ∷ 1 ∷ 0 ∷ 0 ∷ 9 ∷ 9 ∷ 9 ∷ 9 ∷ [])
    ∷ but (ran_out upper_right (pos 13 ∷ []) nines) (0 ∷ 32767 ∷ 3 ∷ 0 ∷ 0 ∷ 1 ∷ 1 ∷ 0 ∷ 0 ∷ 9 ∷ 5 ∷ 9 ∷ 9 ∷ [])
    ∷ []

-- ---- all of them

abbrev pub column_of_pixels : List Wrong
column_of_pixels =
    joined
    (wrong-is_size
    ∷ wrong-is_valid
    ∷ wrong-fresh_beam
    ∷ wrong-set_bits
    ∷ wrong-set_viewport
    ∷ wrong-set_beam
    ∷ wrong-step
    ∷ wrong-step_on
    ∷ wrong-step_lent
    ∷ wrong-raster_verdict
    ∷ wrong-run_verdict
    ∷ wrong-draw_raster
    ∷ wrong-row_end
    ∷ wrong-draw_runs
    ∷ wrong-ran
    ∷ wrong-ardh_fresh
    ∷ wrong-ardh_set_bits
    ∷ wrong-ardh_set_viewport
    ∷ wrong-ardh_set_beam
    ∷ wrong-ardh_step
    ∷ wrong-ardh_draw_raster
    ∷ wrong-ardh_draw_runs
    ∷ [])
