-- Wrong answers of `signs`, `numbers`, `spelling`, `points` and `coordinates`. Each row: a call, its input, and what it must not answer.
use Rattle.std.specs.Prelude.{ℕ, true, false, ◌&&◌, List, [], ◌∷◌, length, leb, ℤ, pos, negsuc, nat_abs}
use Rattle.std.proofs.lemmas.List.Edits.{sets}
use Rattle.refusals.specs.Answers.{done, refused}
use Rattle.memory.specs.declared.Point.{Point}
use Rattle.memory.specs.declared.Remembered.{Remembered}
use Rattle.memory.specs.Memory.{fresh_memory, inside}
use Rattle.wire.specs.Sending.{sent, poured, after_write}
use Rattle.signs.specs.Signs.{signed_of, is_negative, most_magnitude, is_integer}
use Rattle.numbers.specs.Integers.{low_of, integer_at, spell, write_integer}
use Rattle.ranges.specs.Ranges.{most_entries}
use Rattle.numbers.specs.Counts.{count_in, count_at, write_count}
use Rattle.points.specs.Reading.{point_at}
use Rattle.points.specs.Writing.{spell_point, write_point}
use Rattle.coordinates.specs.Coordinates.{point_given}
use Rattle.coordinates.specs.Remembering.{slots_of, kept_in}
use Rattle.sheet.specs.Rows.{Wrong, but, joined, truth, signs, at, from, padded_from, padded, reading_of, number_is, point-is, kept-is, writing_of}

-- ---- signs, numbers, spelling

abbrev pub wrong-signed : List Wrong
wrong-signed =
    -- "16 added when the number is not negative": where it is not added the number is negative, and only there
    but (signs (signed_of 5 true)) (0 ∷ 5 ∷ [])
    ∷ but (signs (signed_of 5 false)) (1 ∷ 5 ∷ [])
    ∷ []

abbrev pub wrong-magnitude : List Wrong
wrong-magnitude =
    -- "Negating -32768 in 16 bits": 15 bits lose its magnitude; and 65536 is not 0
    but (nat_abs (negsuc 32767) ∷ []) (0 ∷ [])
    ∷ but (nat_abs (pos 65536) ∷ []) (0 ∷ [])
    ∷ []

abbrev pub wrong-is_negative : List Wrong
wrong-is_negative =
    -- "0 = 48": 0 is not negative, and 5 is not
    but (truth (is_negative (pos 0))) (1 ∷ [])
    ∷ but (truth (is_negative (pos 5))) (1 ∷ [])
    ∷ []

abbrev pub wrong-most_magnitude : List Wrong
wrong-most_magnitude =
    -- "Range -32768..32767": the sign decides
    but (most_magnitude true ∷ []) (32767 ∷ [])
    ∷ but (most_magnitude false ∷ []) (32768 ∷ [])
    ∷ []

abbrev pub wrong-is_integer : List Wrong
wrong-is_integer =
    -- "Range -32768..32767"
    but (truth (is_integer (negsuc 32767))) (0 ∷ [])
    ∷ but (truth (is_integer (pos 32768))) (1 ∷ [])
    ∷ []

abbrev pub wrong-low_of : List Wrong
wrong-low_of =
    -- "a low byte 32..63: four bits of magnitude, and 16 added when the number is not negative"
    but (low_of 16 false ∷ []) (64 ∷ [])
    ∷ but (low_of 1 true ∷ []) (49 ∷ [])
    ∷ []

abbrev integer-from : Remembered → List ℕ → List ℕ → Wrong
integer-from kept s wrong = but (reading_of signs (integer_at kept s 0)) wrong

abbrev integer-read : List ℕ → List ℕ → Wrong
integer-read s wrong = integer-from fresh_memory s wrong

abbrev pub wrong-read_integer : List Wrong
wrong-read_integer =
    -- one that answers always alike, and one that refuses all: "No refusal is given but on its condition"
    integer-read (49 ∷ []) (0 ∷ 0 ∷ 0 ∷ 0 ∷ 1 ∷ [])
    ∷ integer-read (48 ∷ []) (4 ∷ 0 ∷ [])
    -- "-32768 = 96 64 32" is inside its range
    ∷ integer-read (96 ∷ 64 ∷ 32 ∷ []) (4 ∷ 2 ∷ [])
    -- "Minus nought reads as 0"
    ∷ integer-read (32 ∷ []) (3 ∷ 0 ∷ [])
    -- "third high byte (place: that byte)": not behind it
    ∷ integer-read (64 ∷ 64 ∷ 64 ∷ 48 ∷ []) (4 ∷ 3 ∷ [])
    -- "Up to two high bytes 64..127, six bits each": the low byte stands behind both, and the second has its own bits
    ∷ integer-read (65 ∷ 75 ∷ 48 ∷ []) (0 ∷ 0 ∷ 27 ∷ 1 ∷ 2 ∷ [])
    ∷ integer-read (65 ∷ 75 ∷ 48 ∷ []) (0 ∷ 0 ∷ 1040 ∷ 2 ∷ 3 ∷ [])
    -- "each plain 127 .. in a parameter, is passed over": before a high byte and before the low byte; in the other mode it is a high byte
    ∷ integer-from padded (127 ∷ 48 ∷ []) (0 ∷ 0 ∷ 1008 ∷ 1 ∷ 2 ∷ [])
    ∷ integer-from padded (65 ∷ 127 ∷ 48 ∷ []) (0 ∷ 0 ∷ 2032 ∷ 2 ∷ 3 ∷ [])
    ∷ integer-read (127 ∷ 48 ∷ []) (0 ∷ 0 ∷ 0 ∷ 1 ∷ 2 ∷ [])
    -- "ESC 63 still reads as 127 in a parameter"
    ∷ integer-from padded (27 ∷ 63 ∷ 48 ∷ []) (0 ∷ 0 ∷ 0 ∷ 2 ∷ 3 ∷ [])
    -- "third high byte (place: that byte)": not that of a 127 before it, and no 127 is one
    ∷ integer-from padded (64 ∷ 127 ∷ 64 ∷ 127 ∷ 64 ∷ []) (4 ∷ 3 ∷ [])
    ∷ integer-from padded (64 ∷ 64 ∷ 127 ∷ 48 ∷ []) (4 ∷ 2 ∷ [])
    ∷ []

abbrev pub wrong-as_count : List Wrong
wrong-as_count =
    -- 5: ".. (place: its low byte)"; "at one byte, 4 before 5"
    but (reading_of number_is (count_in 256 (done (record { value = negsuc 0; place = 0; next = 1 })))) (5 ∷ 1 ∷ [])
    ∷ but (reading_of number_is (count_in 256 (refused 4 2))) (5 ∷ 2 ∷ [])
    ∷ []

abbrev pub wrong-read_count : List Wrong
wrong-read_count =
    -- "A count is an integer 0..256", and is read where the reading stands
    but (reading_of number_is (count_at fresh_memory (80 ∷ 49 ∷ []) 0)) (0 ∷ 257 ∷ 1 ∷ 2 ∷ [])
    ∷ but (reading_of number_is (count_at fresh_memory (49 ∷ 50 ∷ []) 1)) (0 ∷ 1 ∷ 0 ∷ 1 ∷ [])
    -- a 127 behind its low byte is none of it
    ∷ but (reading_of number_is (count_at padded (49 ∷ 127 ∷ []) 0)) (0 ∷ 1 ∷ 0 ∷ 2 ∷ [])
    ∷ []

abbrev integer-written_from : Remembered → ℤ → List ℕ → ℕ → List ℕ → Wrong
integer-written_from kept v out start wrong =
    but (writing_of (write_integer kept v (length out) start) (after_write (write_integer kept v (length out) start) (sent kept (spell v)) out start)) wrong

abbrev integer-written : ℤ → List ℕ → ℕ → List ℕ → Wrong
integer-written v out start wrong = integer-written_from fresh_memory v out start wrong

abbrev pub wrong-write_integer : List Wrong
wrong-write_integer =
    -- "Leading high bytes of value 0 are accepted and never written"
    integer-written (pos 0) (9 ∷ 9 ∷ []) 0 (0 ∷ 2 ∷ 64 ∷ 48 ∷ [])
    -- the bytes go where they were asked for
    ∷ integer-written (pos 0) (9 ∷ 9 ∷ []) 1 (0 ∷ 2 ∷ 48 ∷ 9 ∷ [])
    -- 7: ".. too short for the whole result": 16 takes two bytes
    ∷ integer-written (pos 16) (9 ∷ []) 0 (0 ∷ 1 ∷ 65 ∷ [])
    -- "8 for .. a value .. outside its range": 32768 is
    ∷ integer-written (pos 32768) (9 ∷ 9 ∷ 9 ∷ []) 0 (0 ∷ 3 ∷ 96 ∷ 64 ∷ 48 ∷ [])
    -- "Negating -32768 in 16 bits"
    ∷ integer-written (negsuc 32767) (9 ∷ 9 ∷ 9 ∷ []) 0 (0 ∷ 1 ∷ 32 ∷ 9 ∷ 9 ∷ [])
    -- "ESC 63 still reads as 127 in a parameter, and the writer in that mode writes it so": 1023 is 127 63, and the room is for three bytes
    ∷ integer-written_from padded (pos 1023) (9 ∷ 9 ∷ 9 ∷ []) 0 (0 ∷ 2 ∷ 127 ∷ 63 ∷ 9 ∷ [])
    ∷ integer-written_from padded (pos 1023) (9 ∷ 9 ∷ []) 0 (0 ∷ 2 ∷ 127 ∷ 63 ∷ [])
    ∷ integer-written (pos 1023) (9 ∷ 9 ∷ 9 ∷ []) 0 (0 ∷ 3 ∷ 27 ∷ 63 ∷ 63 ∷ [])
    ∷ []

abbrev count-written : ℕ → List ℕ → ℕ → List ℕ → Wrong
count-written n out start wrong =
    but (writing_of (write_count fresh_memory n (length out) start) (after_write (write_count fresh_memory n (length out) start) (sent fresh_memory (spell (pos n))) out start)) wrong

abbrev pub wrong-write_count : List Wrong
wrong-write_count =
    -- "A count is an integer 0..256": 256 is written, 257 is 8
    count-written 256 (9 ∷ 9 ∷ []) 0 (8 ∷ 0 ∷ 9 ∷ 9 ∷ [])
    ∷ count-written 257 (9 ∷ 9 ∷ []) 0 (0 ∷ 2 ∷ 80 ∷ 49 ∷ [])
    -- the bytes go where they were asked for
    ∷ count-written 1 (9 ∷ 9 ∷ []) 1 (0 ∷ 2 ∷ 49 ∷ 9 ∷ [])
    ∷ []

-- bytes poured from place 1 on: how many they are, and the output
abbrev pouring : List ℕ → List ℕ → List ℕ → Wrong
pouring w out wrong = but (length w ∷ sets out 1 w) wrong

abbrev integer-poured : Remembered → ℤ → List ℕ
integer-poured kept v = poured (is_integer v) (sent kept (spell v))

abbrev pub wrong-pour_integer : List Wrong
wrong-pour_integer =
    -- the bytes go where they were asked for and are counted; of 32768 there are none
    pouring (integer-poured fresh_memory (pos 1)) (9 ∷ 9 ∷ []) (1 ∷ 49 ∷ 9 ∷ [])
    ∷ pouring (integer-poured fresh_memory (pos 1)) (9 ∷ 9 ∷ []) (0 ∷ 9 ∷ 49 ∷ [])
    ∷ pouring (integer-poured fresh_memory (pos 32768)) (9 ∷ 9 ∷ []) (3 ∷ 9 ∷ 96 ∷ [])
    -- 1023, with its 127 as the writer in that mode writes it
    ∷ pouring (integer-poured padded (pos 1023)) (9 ∷ 9 ∷ 9 ∷ 9 ∷ []) (2 ∷ 9 ∷ 127 ∷ 63 ∷ 9 ∷ [])
    ∷ []

abbrev count-poured : ℕ → List ℕ
count-poured n = poured (leb n most_entries) (sent fresh_memory (spell (pos n)))

abbrev pub wrong-pour_count : List Wrong
wrong-pour_count =
    -- likewise; of 257 there are none
    pouring (count-poured 1) (9 ∷ 9 ∷ []) (1 ∷ 49 ∷ 9 ∷ [])
    ∷ pouring (count-poured 1) (9 ∷ 9 ∷ []) (0 ∷ 9 ∷ 49 ∷ [])
    ∷ pouring (count-poured 257) (9 ∷ 9 ∷ []) (2 ∷ 9 ∷ 80 ∷ [])
    ∷ []

-- ---- points

abbrev point-read : Remembered → List ℕ → ℕ → List ℕ → Wrong
point-read kept s start wrong = but (reading_of point-is (point_at kept s start)) wrong

abbrev pub wrong-read_point : List Wrong
wrong-read_point =
    -- "Taking the first byte 96..127 of a point as Extra at once": "a single one is LoY"
    point-read fresh_memory (121 ∷ 64 ∷ []) 0 (0 ∷ 1 ∷ 2 ∷ 1 ∷ 2 ∷ [])
    -- "HiX needs LoY before it": a first byte 32..63 is HiY
    ∷ point-read fresh_memory (33 ∷ 64 ∷ []) 0 (0 ∷ 128 ∷ 0 ∷ 1 ∷ 2 ∷ [])
    -- "8, with place 0, for .. a remembered point outside 0..4095"
    ∷ point-read (from 4096 0) (64 ∷ 64 ∷ []) 1 (8 ∷ 1 ∷ [])
    -- "The 16 bit of Extra is ignored when read"
    ∷ point-read fresh_memory (112 ∷ 96 ∷ 64 ∷ []) 0 (0 ∷ 0 ∷ 4 ∷ 2 ∷ 3 ∷ [])
    -- "The others may be left out": where HiY is left out, the first byte is that which stands next
    ∷ point-read fresh_memory (97 ∷ 64 ∷ []) 0 (0 ∷ 0 ∷ 0 ∷ 1 ∷ 2 ∷ [])
    -- "each plain 127 .. in a parameter, is passed over": it is no LoY behind an Extra
    ∷ point-read padded (121 ∷ 127 ∷ 64 ∷ []) 0 (0 ∷ 1 ∷ 126 ∷ 2 ∷ 3 ∷ [])
    -- "ESC 63 still reads as 127 in a parameter": LoY, and not passed over
    ∷ point-read padded (27 ∷ 63 ∷ 64 ∷ []) 0 (0 ∷ 0 ∷ 0 ∷ 2 ∷ 3 ∷ [])
    ∷ []

abbrev point-written : Remembered → Point → List ℕ → ℕ → List ℕ → Wrong
point-written kept p out start wrong =
    but (writing_of (write_point kept p (length out) start) (after_write (write_point kept p (length out) start) (sent kept (spell_point kept.point p)) out start)) wrong

abbrev pub wrong-write_point : List Wrong
wrong-write_point =
    -- "Beyond the result a lent list or output is unchanged", and a refused call leaves it as it was
    point-written fresh_memory (at 0 100) (9 ∷ []) 0 (7 ∷ 0 ∷ 121 ∷ [])
    ∷ point-written fresh_memory (at 4 0) (9 ∷ 9 ∷ []) 1 (0 ∷ 2 ∷ 65 ∷ 9 ∷ [])
    -- 8 for "a value or remembered point outside its range"
    ∷ point-written (from 4096 0) (at 0 0) (9 ∷ 9 ∷ 9 ∷ []) 0 (0 ∷ 3 ∷ 96 ∷ 32 ∷ 64 ∷ [])
    -- "The writer leaves out all that it may"
    ∷ point-written fresh_memory (at 4 0) (9 ∷ 9 ∷ []) 0 (0 ∷ 2 ∷ 96 ∷ 65 ∷ [])
    -- "Extra needs LoY after it"
    ∷ point-written fresh_memory (at 1 0) (9 ∷ 9 ∷ 9 ∷ []) 0 (0 ∷ 2 ∷ 97 ∷ 64 ∷ 9 ∷ [])
    -- "The 16 bit of Extra is .. written as 0"
    ∷ point-written fresh_memory (at 1 0) (9 ∷ 9 ∷ 9 ∷ []) 0 (0 ∷ 3 ∷ 113 ∷ 96 ∷ 64 ∷ [])
    -- "the writer in that mode writes it so": a LoY of 127, in that mode alone
    ∷ point-written padded (at 0 124) (9 ∷ 9 ∷ 9 ∷ []) 0 (0 ∷ 2 ∷ 127 ∷ 64 ∷ 9 ∷ [])
    ∷ point-written fresh_memory (at 0 124) (9 ∷ 9 ∷ 9 ∷ []) 0 (0 ∷ 3 ∷ 27 ∷ 63 ∷ 64 ∷ [])
    ∷ []

abbrev point-poured : Remembered → Point → List ℕ
point-poured kept p = poured (inside kept.point && inside p) (sent kept (spell_point kept.point p))

abbrev pub wrong-pour_point : List Wrong
wrong-pour_point =
    -- the bytes go where they were asked for, and none is counted that is left out
    pouring (point-poured fresh_memory (at 4 0)) (9 ∷ 9 ∷ []) (1 ∷ 65 ∷ 9 ∷ [])
    ∷ pouring (point-poured fresh_memory (at 4 0)) (9 ∷ 9 ∷ []) (5 ∷ 9 ∷ 65 ∷ [])
    -- a LoY of 127 as the writer in that mode writes it
    ∷ pouring (point-poured padded (at 0 124)) (9 ∷ 9 ∷ 9 ∷ 9 ∷ []) (2 ∷ 9 ∷ 127 ∷ 64 ∷ 9 ∷ [])
    ∷ []

-- ---- coordinates

abbrev pub wrong-point_given : List Wrong
wrong-point_given =
    -- "x and y 0..4095": what is outside stays outside, and x comes first
    but (point-is (point_given (pos 4095) (pos 0))) (4096 ∷ 0 ∷ [])
    ∷ but (point-is (point_given (pos 4096) (pos 0))) (4095 ∷ 0 ∷ [])
    ∷ but (point-is (point_given (pos 1) (pos 2))) (2 ∷ 2 ∷ [])
    ∷ []

abbrev pub wrong-kept_in : List Wrong
wrong-kept_in =
    -- the point's x and y, in this order, and the mode as KI sets it
    but (kept-is (kept_in (1 ∷ 2 ∷ 0 ∷ []))) (2 ∷ 1 ∷ 0 ∷ [])
    ∷ but (kept-is (kept_in (1 ∷ 2 ∷ 1 ∷ []))) (1 ∷ 2 ∷ 0 ∷ [])
    ∷ but (kept-is (kept_in (1 ∷ 2 ∷ 0 ∷ []))) (1 ∷ 2 ∷ 1 ∷ [])
    -- 8: "value out of range": a mode that is neither 0 nor 1 is not taken for one of them
    ∷ but (truth (inside (kept_in (1 ∷ 2 ∷ 2 ∷ [])).point)) (1 ∷ [])
    ∷ []

abbrev pub wrong-slots_of : List Wrong
wrong-slots_of =
    -- "The mode goes with the remembered point"
    but (slots_of (padded_from 1 2)) (1 ∷ 2 ∷ 0 ∷ [])
    ∷ but (slots_of (from 1 2)) (1 ∷ 2 ∷ 1 ∷ [])
    ∷ but (slots_of (from 1 2)) (2 ∷ 1 ∷ 0 ∷ [])
    ∷ []

-- ---- all of them

abbrev pub column_of_numbers : List Wrong
column_of_numbers =
    joined
    (wrong-signed
    ∷ wrong-magnitude
    ∷ wrong-is_negative
    ∷ wrong-most_magnitude
    ∷ wrong-is_integer
    ∷ wrong-low_of
    ∷ wrong-read_integer
    ∷ wrong-as_count
    ∷ wrong-read_count
    ∷ wrong-write_integer
    ∷ wrong-write_count
    ∷ wrong-pour_integer
    ∷ wrong-pour_count
    ∷ wrong-read_point
    ∷ wrong-write_point
    ∷ wrong-pour_point
    ∷ wrong-point_given
    ∷ wrong-kept_in
    ∷ wrong-slots_of
    ∷ [])
