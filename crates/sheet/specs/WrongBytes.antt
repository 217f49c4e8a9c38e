-- Wrong answers of `refusals`, `memory`, `wire`, `ranges` and `characters`. Each row: a call, its input, and what it must not answer.
use Rattle.std.specs.Prelude.{ℕ, ◌+◌, List, [], ◌∷◌, length, ℤ, pos, negsuc}
use Rattle.std.proofs.lemmas.List.Edits.{sets}
use Rattle.refusals.specs.declared.Refusal.TheVariants.{IntegerOutside, TooShort}
use Rattle.refusals.specs.Refusals.{number_of}
use Rattle.refusals.specs.Answers.{every}
use Rattle.memory.specs.declared.DelMode.TheVariants.{Data, Filler}
use Rattle.memory.specs.declared.Remembered.{Remembered}
use Rattle.memory.specs.Memory.{fresh_memory, inside, remember, in_mode}
use Rattle.wire.specs.Taking.{past_dels, byte_at, is_itself}
use Rattle.wire.specs.Sending.{sent, is_plain, room_for, in_room, write_at, after_write}
use Rattle.ranges.specs.Ranges.{within}
use Rattle.characters.specs.Characters.{is_character, are_characters, low_bytes}
use Rattle.sheet.specs.Rows.{Wrong, but, joined, truth, at, from, padded, reading_of, number_is, kept-is, writing_of}

-- ---- refusals

abbrev pub wrong-number : List Wrong
wrong-number =
    -- 7: "lent list or output too short", 8: "value out of range": 7 and 8 are told apart
    but (number_of TooShort ∷ []) (8 ∷ [])
    -- 4: ".. integer out of range", 5: "count negative or above 256"
    ∷ but (number_of IntegerOutside ∷ []) (5 ∷ [])
    ∷ []

-- ---- memory

abbrev pub wrong-fresh : List Wrong
wrong-fresh =
    -- "A fresh remembered point is (0,0)": not the upper left, and not one to the right
    but (kept-is fresh_memory) (0 ∷ 4095 ∷ 0 ∷ [])
    ∷ but (kept-is fresh_memory) (1 ∷ 0 ∷ 0 ∷ [])
    -- "The mode goes with the remembered point, fresh 0"
    ∷ but (kept-is fresh_memory) (0 ∷ 0 ∷ 1 ∷ [])
    ∷ []

abbrev pub wrong-is_inside : List Wrong
wrong-is_inside =
    -- "x and y 0..4095"
    but (truth (inside (at 0 4095))) (0 ∷ [])
    ∷ but (truth (inside (at 4096 0))) (1 ∷ [])
    ∷ []

abbrev pub wrong-with_point : List Wrong
wrong-with_point =
    -- a point is remembered, and whole
    but (kept-is (remember fresh_memory (at 1 2))) (1 ∷ 0 ∷ 0 ∷ [])
    ∷ but (kept-is (remember fresh_memory (at 1 2))) (0 ∷ 0 ∷ 0 ∷ [])
    -- "The mode goes with the remembered point": a point does not change it
    ∷ but (kept-is (remember padded (at 1 2))) (1 ∷ 2 ∷ 0 ∷ [])
    ∷ but (kept-is (remember fresh_memory (at 1 2))) (1 ∷ 2 ∷ 1 ∷ [])
    ∷ []

abbrev pub wrong-with_mode : List Wrong
wrong-with_mode =
    -- the mode is remembered, and the point stays
    but (kept-is (in_mode (from 1 2) Filler)) (1 ∷ 2 ∷ 0 ∷ [])
    ∷ but (kept-is (in_mode (from 1 2) Filler)) (0 ∷ 0 ∷ 1 ∷ [])
    -- "KI 0 returns to the old reading"
    ∷ but (kept-is (in_mode padded Data)) (0 ∷ 0 ∷ 1 ∷ [])
    ∷ []

-- ---- wire

abbrev pub wrong-past_dels : List Wrong
wrong-past_dels =
    -- "After KI 1 each plain 127 .. is passed over": all of them, and where the bytes end behind them too
    but (past_dels Filler (127 ∷ 127 ∷ 65 ∷ []) 0 ∷ []) (1 ∷ [])
    ∷ but (past_dels Filler (127 ∷ 65 ∷ []) 0 ∷ []) (0 ∷ [])
    ∷ but (past_dels Filler (127 ∷ []) 0 ∷ []) (0 ∷ [])
    -- no other byte is, and none behind it
    ∷ but (past_dels Filler (65 ∷ 127 ∷ []) 0 ∷ []) (2 ∷ [])
    ∷ but (past_dels Filler (255 ∷ 65 ∷ []) 0 ∷ []) (1 ∷ [])
    -- "KI 0 returns to the old reading": none is passed over
    ∷ but (past_dels Data (127 ∷ 65 ∷ []) 0 ∷ []) (1 ∷ [])
    ∷ []

abbrev taking-from : Remembered → List ℕ → List ℕ → Wrong
taking-from kept s wrong = but (reading_of number_is (byte_at kept s 0)) wrong

abbrev taking : List ℕ → List ℕ → Wrong
taking s wrong = taking-from fresh_memory s wrong

abbrev pub wrong-take : List Wrong
wrong-take =
    -- "27 at the end of the bytes is 1", "place is the length": not that of the 27
    taking (27 ∷ []) (1 ∷ 0 ∷ [])
    -- "27 before another byte than 63 is 6 at the 27": not behind it
    ∷ taking (27 ∷ 65 ∷ []) (6 ∷ 1 ∷ [])
    -- "ESC followed by 63 reads as 127": both bytes are taken
    ∷ taking (27 ∷ 63 ∷ []) (0 ∷ 127 ∷ 1 ∷ 1 ∷ [])
    -- "For the pair 27 63 the place is that of the 63"
    ∷ taking (27 ∷ 63 ∷ []) (0 ∷ 127 ∷ 0 ∷ 2 ∷ [])
    -- 3: "byte not allowed here": 128 is no character
    ∷ taking (128 ∷ []) (0 ∷ 128 ∷ 0 ∷ 1 ∷ [])
    -- "127 is data wherever a parameter allows it", where no KI 1 came; and no pair has one between
    ∷ taking (127 ∷ 65 ∷ []) (0 ∷ 65 ∷ 1 ∷ 2 ∷ [])
    ∷ taking (27 ∷ 127 ∷ 63 ∷ []) (0 ∷ 127 ∷ 2 ∷ 3 ∷ [])
    ∷ taking (27 ∷ 127 ∷ []) (1 ∷ 2 ∷ [])
    -- "After KI 1 each plain 127 .. is passed over": it is no data, and not the byte's place
    ∷ taking-from padded (127 ∷ 65 ∷ []) (0 ∷ 127 ∷ 0 ∷ 1 ∷ [])
    ∷ taking-from padded (127 ∷ 65 ∷ []) (0 ∷ 65 ∷ 0 ∷ 2 ∷ [])
    ∷ taking-from padded (127 ∷ 127 ∷ 65 ∷ []) (0 ∷ 127 ∷ 1 ∷ 2 ∷ [])
    -- none behind the byte is: it "belongs to the item in progress, or makes an item of its own"
    ∷ taking-from padded (65 ∷ 127 ∷ []) (0 ∷ 65 ∷ 0 ∷ 2 ∷ [])
    -- where the bytes end behind it "place is the length"
    ∷ taking-from padded (127 ∷ []) (0 ∷ 127 ∷ 0 ∷ 1 ∷ [])
    ∷ taking-from padded (127 ∷ []) (1 ∷ 0 ∷ [])
    -- "ESC 63 still reads as 127 in a parameter": it is not passed over
    ∷ taking-from padded (27 ∷ 63 ∷ 65 ∷ []) (0 ∷ 65 ∷ 2 ∷ 3 ∷ [])
    -- "A 127 between the two bytes of a pair is passed over too": the pair is not refused, and the 127 is not its second byte
    ∷ taking-from padded (27 ∷ 127 ∷ 63 ∷ []) (6 ∷ 0 ∷ [])
    ∷ taking-from padded (27 ∷ 127 ∷ 63 ∷ []) (0 ∷ 127 ∷ 1 ∷ 2 ∷ [])
    -- "a pair's place stays that of the 63"
    ∷ taking-from padded (27 ∷ 127 ∷ 63 ∷ []) (0 ∷ 127 ∷ 0 ∷ 3 ∷ [])
    ∷ taking-from padded (27 ∷ 127 ∷ 63 ∷ []) (0 ∷ 127 ∷ 1 ∷ 3 ∷ [])
    -- "27 before another byte than 63 is 6 at the 27": not at the 127, and not at that byte
    ∷ taking-from padded (27 ∷ 127 ∷ 65 ∷ []) (6 ∷ 1 ∷ [])
    ∷ taking-from padded (27 ∷ 127 ∷ 65 ∷ []) (6 ∷ 2 ∷ [])
    -- "27 at the end of the bytes is 1", with the 127s passed over: not 6, and not at the 27
    ∷ taking-from padded (27 ∷ 127 ∷ []) (6 ∷ 0 ∷ [])
    ∷ taking-from padded (27 ∷ 127 ∷ []) (1 ∷ 0 ∷ [])
    ∷ []

abbrev pub wrong-are_themselves : List Wrong
wrong-are_themselves =
    -- "127 is data wherever a parameter allows it": it is taken as it stands; and it is not where it is filler
    but (truth (every (is_itself Data) (65 ∷ 127 ∷ []))) (0 ∷ [])
    ∷ but (truth (every (is_itself Filler) (65 ∷ 127 ∷ []))) (1 ∷ [])
    -- neither ESC nor a byte above 127 ever is
    ∷ but (truth (every (is_itself Data) (27 ∷ 63 ∷ []))) (1 ∷ [])
    ∷ but (truth (every (is_itself Data) (128 ∷ []))) (1 ∷ [])
    -- each byte is asked, not the last alone
    ∷ but (truth (every (is_itself Filler) (31 ∷ 65 ∷ []))) (1 ∷ [])
    ∷ []

abbrev pub wrong-room_for : List Wrong
wrong-room_for =
    -- 7: ".. output too short for the whole result": a room that just fits is not
    but (writing_of (room_for 2 2 0) []) (7 ∷ 0 ∷ [])
    -- the next byte goes behind all that was written
    ∷ but (writing_of (room_for 1 2 0) []) (0 ∷ 0 ∷ [])
    ∷ []

abbrev pub wrong-in_room : List Wrong
wrong-in_room =
    -- no more than has room, counted from where the bytes go
    but (in_room 3 2 0 ∷ []) (3 ∷ [])
    ∷ but (in_room 2 2 1 ∷ []) (2 ∷ [])
    ∷ []

abbrev bytes-written : List ℕ → List ℕ → ℕ → List ℕ → Wrong
bytes-written w out start wrong = but (writing_of (write_at w (length out) start) (after_write (write_at w (length out) start) w out start)) wrong

abbrev pub wrong-write_bytes : List Wrong
wrong-write_bytes =
    -- "A refused call leaves .. output bytes as they were on entry": none is written and then refused
    bytes-written (1 ∷ 2 ∷ []) (9 ∷ 9 ∷ []) 1 (7 ∷ 0 ∷ 9 ∷ 1 ∷ [])
    -- "Beyond the result a lent list or output is unchanged": the bytes go where they were asked for
    ∷ bytes-written (1 ∷ []) (9 ∷ 9 ∷ []) 1 (0 ∷ 2 ∷ 1 ∷ 9 ∷ [])
    -- each byte goes to its own place
    ∷ bytes-written (1 ∷ 2 ∷ []) (9 ∷ 9 ∷ 9 ∷ []) 1 (0 ∷ 3 ∷ 9 ∷ 1 ∷ 1 ∷ [])
    ∷ []

abbrev pub wrong-store_behind : List Wrong
wrong-store_behind =
    -- one byte behind the start, and as it stands: a 127 too
    but (sets (9 ∷ 9 ∷ 9 ∷ []) (0 + 1) (127 ∷ [])) (127 ∷ 9 ∷ 9 ∷ [])
    ∷ but (sets (9 ∷ 9 ∷ 9 ∷ []) (0 + 1) (127 ∷ [])) (9 ∷ 27 ∷ 63 ∷ [])
    ∷ []

-- bytes poured from a place on: how many they are, and the output
abbrev pouring-from : Remembered → List ℕ → List ℕ → ℕ → List ℕ → Wrong
pouring-from kept w out start wrong = but (length (sent kept w) ∷ sets out start (sent kept w)) wrong

abbrev pouring : List ℕ → List ℕ → ℕ → List ℕ → Wrong
pouring w out start wrong = pouring-from fresh_memory w out start wrong

abbrev pub wrong-pour_behind : List Wrong
wrong-pour_behind =
    -- one byte behind the start: it is sent itself, and not over the first
    pouring (5 ∷ []) (9 ∷ 9 ∷ []) (0 + 1) (1 ∷ 9 ∷ 0 ∷ [])
    ∷ pouring (5 ∷ []) (9 ∷ 9 ∷ []) (0 + 1) (1 ∷ 5 ∷ 9 ∷ [])
    -- "ESC 63 still reads as 127 in a parameter, and the writer in that mode writes it so": both bytes, counted, and in this order
    ∷ pouring-from padded (127 ∷ []) (9 ∷ 9 ∷ 9 ∷ []) (0 + 1) (1 ∷ 9 ∷ 127 ∷ 9 ∷ [])
    ∷ pouring-from padded (127 ∷ []) (9 ∷ 9 ∷ 9 ∷ []) (0 + 1) (1 ∷ 9 ∷ 27 ∷ 63 ∷ [])
    ∷ pouring-from padded (127 ∷ []) (9 ∷ 9 ∷ 9 ∷ []) (0 + 1) (2 ∷ 9 ∷ 63 ∷ 27 ∷ [])
    -- no other byte is sent so, and none in the other mode: "the writer writes 127"
    ∷ pouring-from padded (63 ∷ []) (9 ∷ 9 ∷ 9 ∷ []) (0 + 1) (2 ∷ 9 ∷ 27 ∷ 63 ∷ [])
    ∷ pouring (127 ∷ []) (9 ∷ 9 ∷ 9 ∷ []) (0 + 1) (2 ∷ 9 ∷ 27 ∷ 63 ∷ [])
    ∷ []

abbrev pub wrong-pour_one : List Wrong
wrong-pour_one =
    -- not to the front, and not one behind
    pouring (5 ∷ []) (9 ∷ 9 ∷ 9 ∷ []) 1 (1 ∷ 5 ∷ 9 ∷ 9 ∷ [])
    ∷ pouring (5 ∷ []) (9 ∷ 9 ∷ 9 ∷ []) 1 (1 ∷ 9 ∷ 9 ∷ 5 ∷ [])
    -- "the writer in that mode writes it so"
    ∷ pouring-from padded (127 ∷ []) (9 ∷ 9 ∷ 9 ∷ []) 1 (1 ∷ 9 ∷ 127 ∷ 9 ∷ [])
    ∷ []

abbrev pub wrong-pour_two : List Wrong
wrong-pour_two =
    -- one behind the other, each as itself
    pouring (5 ∷ 6 ∷ []) (9 ∷ 9 ∷ []) 0 (2 ∷ 6 ∷ 9 ∷ [])
    ∷ pouring (5 ∷ 6 ∷ []) (9 ∷ 9 ∷ []) 0 (2 ∷ 6 ∷ 6 ∷ [])
    -- behind a pair, and not over its 63
    ∷ pouring-from padded (127 ∷ 5 ∷ []) (9 ∷ 9 ∷ 9 ∷ []) 0 (2 ∷ 127 ∷ 5 ∷ 9 ∷ [])
    ∷ pouring-from padded (127 ∷ 5 ∷ []) (9 ∷ 9 ∷ 9 ∷ []) 0 (3 ∷ 27 ∷ 5 ∷ 9 ∷ [])
    ∷ []

abbrev pub wrong-pour_three : List Wrong
wrong-pour_three =
    -- in their order, and all three
    pouring (5 ∷ 6 ∷ 7 ∷ []) (9 ∷ 9 ∷ 9 ∷ []) 0 (3 ∷ 6 ∷ 5 ∷ 7 ∷ [])
    ∷ pouring (5 ∷ 6 ∷ 7 ∷ []) (9 ∷ 9 ∷ 9 ∷ []) 0 (3 ∷ 5 ∷ 6 ∷ 6 ∷ [])
    -- a 127 among them is a pair, and the third is behind it
    ∷ pouring-from padded (5 ∷ 127 ∷ 6 ∷ []) (9 ∷ 9 ∷ 9 ∷ 9 ∷ []) 0 (3 ∷ 5 ∷ 127 ∷ 6 ∷ 9 ∷ [])
    ∷ pouring-from padded (5 ∷ 127 ∷ 6 ∷ []) (9 ∷ 9 ∷ 9 ∷ 9 ∷ []) 0 (4 ∷ 5 ∷ 27 ∷ 6 ∷ 9 ∷ [])
    ∷ []

abbrev pub wrong-is_plain : List Wrong
wrong-is_plain =
    -- "the writer writes 127": each byte is sent as itself; behind KI 1 it "writes it so", as 27 63
    but (truth (is_plain fresh_memory)) (0 ∷ [])
    ∷ but (truth (is_plain padded)) (1 ∷ [])
    ∷ []

-- ---- ranges

abbrev pub wrong-is_within : List Wrong
wrong-is_within =
    -- "32..95" begins with 32 and ends with 95; "none negative"
    but (truth (within 32 95 (pos 32))) (0 ∷ [])
    ∷ but (truth (within 32 95 (pos 95))) (0 ∷ [])
    ∷ but (truth (within 32 95 (negsuc 39))) (1 ∷ [])
    ∷ []

abbrev pub wrong-are_within : List Wrong
wrong-are_within =
    -- an entry that fails is not made good by those behind it; "No refusal is given but on its condition"
    but (truth (every (within 32 95) (pos 31 ∷ pos 40 ∷ []))) (1 ∷ [])
    ∷ but (truth (every (within 32 95) (pos 40 ∷ []))) (0 ∷ [])
    ∷ []

-- ---- characters

abbrev pub wrong-is_character : List Wrong
wrong-is_character =
    -- "bytes 32..127"
    but (truth (is_character (pos 128))) (1 ∷ [])
    ∷ but (truth (is_character (pos 31))) (1 ∷ [])
    ∷ []

abbrev pub wrong-are_characters : List Wrong
wrong-are_characters =
    -- "bytes 32..127"; "127 is data wherever a parameter allows it"
    but (truth (are_characters (pos 31 ∷ pos 65 ∷ []))) (1 ∷ [])
    ∷ but (truth (are_characters (pos 127 ∷ []))) (0 ∷ [])
    ∷ []

abbrev laid-entries : List ℤ → List ℕ → List ℕ → Wrong
laid-entries vs out wrong = but (sets out 1 (low_bytes vs)) wrong

abbrev pub wrong-copy_characters : List Wrong
wrong-copy_characters =
    -- the bytes stand from where they were asked for, and are those of the entries: whole bytes, 127 among them
    laid-entries (pos 65 ∷ []) (9 ∷ 9 ∷ []) (65 ∷ 9 ∷ [])
    ∷ laid-entries (pos 65 ∷ []) (9 ∷ 9 ∷ []) (9 ∷ 0 ∷ [])
    ∷ laid-entries (pos 65 ∷ []) (9 ∷ 9 ∷ []) (9 ∷ 1 ∷ [])
    ∷ laid-entries (pos 127 ∷ []) (9 ∷ 9 ∷ []) (9 ∷ 0 ∷ [])
    -- the byte of an entry is its lowest eight bits, and not those of its magnitude
    ∷ laid-entries (negsuc 0 ∷ []) (9 ∷ 9 ∷ []) (9 ∷ 1 ∷ [])
    ∷ []

-- ---- all of them

abbrev pub column_of_bytes : List Wrong
column_of_bytes =
    joined
    (wrong-number
    ∷ wrong-fresh
    ∷ wrong-is_inside
    ∷ wrong-with_point
    ∷ wrong-with_mode
    ∷ wrong-past_dels
    ∷ wrong-take
    ∷ wrong-are_themselves
    ∷ wrong-room_for
    ∷ wrong-in_room
    ∷ wrong-write_bytes
    ∷ wrong-store_behind
    ∷ wrong-pour_behind
    ∷ wrong-pour_one
    ∷ wrong-pour_two
    ∷ wrong-pour_three
    ∷ wrong-is_plain
    ∷ wrong-is_within
    ∷ wrong-are_within
    ∷ wrong-is_character
    ∷ wrong-are_characters
    ∷ wrong-copy_characters
    ∷ [])
