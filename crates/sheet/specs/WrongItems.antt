-- Wrong answers of `stream`, `lines` and `listing`, and of the stream's exported calls. Each row: a call, its input, and what it must not answer.
use Rattle.std.specs.Prelude.{ℕ, true, false, List, [], ◌∷◌, ◌++◌, length, replicate, ℤ, pos, negsuc}
use Rattle.refusals.specs.Answers.{Answer, number, value_or}
use Rattle.memory.specs.declared.Remembered.{Remembered}
use Rattle.memory.specs.Memory.{fresh_memory}
use Rattle.wire.specs.Sending.{write_at, after_write}
use Rattle.parameters.specs.declared.Parameters.TheVariants as P
use Rattle.commands.specs.declared.Command.{Command}
use Rattle.commands.specs.Reading.{ToldCommand}
use Rattle.writing.specs.Writing.{spell_command, write_command}
use Rattle.stream.specs.declared.Item.{Item}
use Rattle.stream.specs.declared.Item.TheVariants as I
use Rattle.stream.specs.Items.{Itemed, nothing, text, del, command, refused_command, refused_call, item_at, told_item, item_of, after_item}
use Rattle.lines.specs.Lines.{line_of, last_line}
use Rattle.listing.specs.Listing.{listing_of}
use Rattle.parameters.specs.Numbers.{numbers_of}
use Rattle.coordinates.specs.Remembering.{kept_in}
use Rattle.stream_calls.specs.Slots.{item_number, item_fields, item_values, remembered_after}
use Rattle.stream_calls.specs.Given.{command_given, slots_after}
use Rattle.sheet.specs.Rows.{Wrong, but, joined, signs_of, from, padded, padded_from, kept-is, writing_of}

-- ---- stream

-- 0 none is left; 1 text: the byte and the next start; 2 a command: letters, entries, the next start, what is remembered, the values; 3 refused: the
-- number, its place, the next start, what is remembered; 4 no item: the number and its place; 5 a DEL: the next start
abbrev item_is : Itemed ToldCommand → List ℕ
item_is nothing = (0 ∷ [])
item_is (text b n) = (1 ∷ b ∷ n ∷ [])
item_is (del n) = (5 ∷ n ∷ [])
item_is (command t) = 2 ∷ t.first ∷ t.second ∷ t.count ∷ t.next ∷ (kept-is t.kept ++ signs_of (numbers_of t.values))
item_is (refused_command e p n k) = 3 ∷ e ∷ p ∷ n ∷ kept-is k
item_is (refused_call e p) = (4 ∷ e ∷ p ∷ [])

abbrev item-at : Remembered → List ℕ → (start : ℕ) → List ℤ → List ℕ → Wrong
item-at kept s start list wrong = but (item_is (told_item (item_at kept s start (length list))) ++ signs_of (after_item (item_at kept s start (length list)) list)) wrong

abbrev item : Remembered → List ℕ → List ℤ → List ℕ → Wrong
item kept s list wrong = item-at kept s 0 list wrong

abbrev pub wrong-read_item : List Wrong
wrong-read_item =
    -- one that refuses all input, and one that answers always alike
    item fresh_memory (65 ∷ 66 ∷ []) [] (4 ∷ 8 ∷ 0 ∷ [])
    ∷ item fresh_memory (65 ∷ 66 ∷ []) [] (0 ∷ [])
    -- "Outside commands each byte but 27 is a text item"
    ∷ item fresh_memory (65 ∷ 66 ∷ []) [] (1 ∷ 65 ∷ 0 ∷ [])
    -- "a start at the end answers that no item is left"
    ∷ item fresh_memory [] [] (4 ∷ 8 ∷ 0 ∷ [])
    -- "first 8, with place 0, for .. a remembered point outside 0..4095"
    ∷ item (from 4096 0) (65 ∷ []) [] (1 ∷ 65 ∷ 1 ∷ [])
    -- "bytes are passed over up to the next 27 and belong to the refused item"
    ∷ item fresh_memory (27 ∷ 90 ∷ 65 ∷ 27 ∷ []) [] (3 ∷ 2 ∷ 1 ∷ 1 ∷ 0 ∷ 0 ∷ 0 ∷ [])
    -- "A refused command ends at its place": not at its own ESC
    ∷ item fresh_memory (27 ∷ 90 ∷ []) [] (3 ∷ 2 ∷ 1 ∷ 0 ∷ 0 ∷ 0 ∷ 0 ∷ [])
    -- "The remembered point after a refused command is that before it": it is not moved
    ∷ item (from 5 6) (27 ∷ 90 ∷ []) [] (3 ∷ 2 ∷ 1 ∷ 2 ∷ 0 ∷ 0 ∷ 0 ∷ [])
    -- "Keeping the remembered point from a refused command": RS, of which the second corner is cut
    ∷ item fresh_memory (27 ∷ 82 ∷ 83 ∷ 96 ∷ 33 ∷ 64 ∷ 48 ∷ []) [] (3 ∷ 1 ∷ 7 ∷ 7 ∷ 128 ∷ 0 ∷ 0 ∷ [])
    -- the remembered point goes on with a command
    ∷ item fresh_memory (27 ∷ 76 ∷ 70 ∷ 121 ∷ 64 ∷ []) [] (2 ∷ 76 ∷ 70 ∷ 0 ∷ 5 ∷ 0 ∷ 0 ∷ 0 ∷ 0 ∷ 0 ∷ 0 ∷ 100 ∷ [])
    -- "In a parameter, ESC followed by 63 reads as 127": LT with one character
    ∷ item fresh_memory (27 ∷ 76 ∷ 84 ∷ 49 ∷ 27 ∷ 63 ∷ []) (pos 9 ∷ []) (3 ∷ 6 ∷ 4 ∷ 4 ∷ 0 ∷ 0 ∷ 0 ∷ 0 ∷ 9 ∷ [])
    -- "In a parameter, 27 at the end of the bytes is 1": not 6
    ∷ item fresh_memory (27 ∷ 76 ∷ 84 ∷ 49 ∷ 27 ∷ []) (pos 9 ∷ []) (3 ∷ 6 ∷ 4 ∷ 4 ∷ 0 ∷ 0 ∷ 0 ∷ 0 ∷ 9 ∷ [])
    -- "Refusal 7 .. makes no item"
    ∷ item fresh_memory (27 ∷ 82 ∷ 76 ∷ 49 ∷ 50 ∷ []) [] (3 ∷ 7 ∷ 0 ∷ 0 ∷ 0 ∷ 0 ∷ 0 ∷ [])
    -- "each plain 127 .. makes an item of its own between commands": it is no text, and is not passed over with the next item
    ∷ item-at padded (65 ∷ 127 ∷ 66 ∷ []) 1 [] (1 ∷ 127 ∷ 2 ∷ [])
    ∷ item-at padded (65 ∷ 127 ∷ 66 ∷ []) 1 [] (1 ∷ 66 ∷ 3 ∷ [])
    -- each has its own, one at the end of the bytes too
    ∷ item padded (127 ∷ 127 ∷ []) [] (5 ∷ 2 ∷ [])
    ∷ item padded (127 ∷ []) [] (0 ∷ [])
    ∷ item padded (127 ∷ []) [] (3 ∷ 1 ∷ 1 ∷ 1 ∷ 0 ∷ 0 ∷ 1 ∷ [])
    -- before a command it is none of the command
    ∷ item padded (127 ∷ 27 ∷ 75 ∷ 65 ∷ 48 ∷ []) [] (2 ∷ 75 ∷ 65 ∷ 0 ∷ 5 ∷ 0 ∷ 0 ∷ 1 ∷ 0 ∷ 0 ∷ [])
    -- other bytes are text, and where no KI 1 came a 127 is: "Outside commands each byte but 27 is a text item"
    ∷ item padded (65 ∷ []) [] (5 ∷ 1 ∷ [])
    ∷ item padded (255 ∷ []) [] (5 ∷ 1 ∷ [])
    ∷ item fresh_memory (127 ∷ []) [] (5 ∷ 1 ∷ [])
    -- "bytes are passed over up to the next 27 and belong to the refused item": a 127 too
    ∷ item padded (27 ∷ 90 ∷ 127 ∷ 65 ∷ []) [] (3 ∷ 2 ∷ 1 ∷ 2 ∷ 0 ∷ 0 ∷ 1 ∷ [])
    -- "27 before another byte than 63 is 6 at the 27", where reading starts again: not at the 127, and not at the 65
    ∷ item padded (27 ∷ 75 ∷ 65 ∷ 27 ∷ 127 ∷ 65 ∷ []) [] (3 ∷ 6 ∷ 4 ∷ 6 ∷ 0 ∷ 0 ∷ 1 ∷ [])
    ∷ item padded (27 ∷ 75 ∷ 65 ∷ 27 ∷ 127 ∷ 65 ∷ []) [] (3 ∷ 6 ∷ 5 ∷ 6 ∷ 0 ∷ 0 ∷ 1 ∷ [])
    -- "A refused KI changes nothing": one that is cut, one with a third high byte, and one in the other mode
    ∷ item fresh_memory (27 ∷ 75 ∷ 73 ∷ 27 ∷ []) [] (3 ∷ 1 ∷ 4 ∷ 4 ∷ 0 ∷ 0 ∷ 1 ∷ [])
    ∷ item fresh_memory (27 ∷ 75 ∷ 73 ∷ 64 ∷ 64 ∷ 64 ∷ 49 ∷ []) [] (3 ∷ 4 ∷ 5 ∷ 7 ∷ 0 ∷ 0 ∷ 1 ∷ [])
    ∷ item (padded_from 5 6) (27 ∷ 75 ∷ 73 ∷ 27 ∷ []) [] (3 ∷ 1 ∷ 4 ∷ 4 ∷ 5 ∷ 6 ∷ 0 ∷ [])
    -- "The mode goes with the remembered point": a refused command leaves it, and LF does
    ∷ item padded (27 ∷ 90 ∷ []) [] (3 ∷ 2 ∷ 1 ∷ 2 ∷ 0 ∷ 0 ∷ 0 ∷ [])
    ∷ item padded (27 ∷ 76 ∷ 70 ∷ 121 ∷ 64 ∷ []) [] (2 ∷ 76 ∷ 70 ∷ 0 ∷ 5 ∷ 0 ∷ 100 ∷ 0 ∷ 0 ∷ 0 ∷ 0 ∷ 100 ∷ [])
    -- "first 8, with place 0, for .. a remembered point outside 0..4095", before a DEL
    ∷ item (padded_from 4096 0) (127 ∷ []) [] (5 ∷ 1 ∷ [])
    ∷ []

-- ---- lines

abbrev lining : List ℕ → List ℕ → Wrong
lining line wrong = but (writing_of (write_at line 10 0) (after_write (write_at line 10 0) line (replicate 10 9) 0)) wrong

abbrev ka : ℤ → Item
ka v = I.Command (record { command = (record { first = 75; second = 65; parameters = P.OneInteger v }); count = 0; next = 4; kept = fresh_memory })

abbrev pub wrong-line : List Wrong
wrong-line =
    -- C 0 KA -1: a plus for the minus
    lining (line_of (item_of (ka (negsuc 0))) 0 []) (0 ∷ 10 ∷ 67 ∷ 32 ∷ 48 ∷ 32 ∷ 75 ∷ 65 ∷ 32 ∷ 43 ∷ 49 ∷ 10 ∷ [])
    -- "R: start, refusal, place": not the place first
    ∷ lining (line_of (refused_command 2 8 9 fresh_memory) 6 []) (0 ∷ 8 ∷ 82 ∷ 32 ∷ 56 ∷ 32 ∷ 50 ∷ 32 ∷ 54 ∷ 10 ∷ 9 ∷ 9 ∷ [])
    -- "The lister prints a DEL that is an item as D and its place": no T line, no byte behind the place, and not the next start
    ∷ lining (line_of (del 4) 3 []) (0 ∷ 8 ∷ 84 ∷ 32 ∷ 51 ∷ 32 ∷ 49 ∷ 50 ∷ 55 ∷ 10 ∷ 9 ∷ 9 ∷ [])
    ∷ lining (line_of (del 4) 3 []) (0 ∷ 8 ∷ 68 ∷ 32 ∷ 51 ∷ 32 ∷ 49 ∷ 50 ∷ 55 ∷ 10 ∷ 9 ∷ 9 ∷ [])
    ∷ lining (line_of (del 4) 3 []) (0 ∷ 4 ∷ 68 ∷ 32 ∷ 52 ∷ 10 ∷ 9 ∷ 9 ∷ 9 ∷ 9 ∷ 9 ∷ 9 ∷ [])
    ∷ lining (line_of (del 4) 3 []) (0 ∷ 0 ∷ 9 ∷ 9 ∷ 9 ∷ 9 ∷ 9 ∷ 9 ∷ 9 ∷ 9 ∷ 9 ∷ 9 ∷ [])
    ∷ []

abbrev pub wrong-last_line : List Wrong
wrong-last_line =
    -- "E and the bytes read": not always 4096
    lining (last_line false 13) (0 ∷ 7 ∷ 69 ∷ 32 ∷ 52 ∷ 48 ∷ 57 ∷ 54 ∷ 10 ∷ 9 ∷ 9 ∷ 9 ∷ [])
    -- "or M 4096 if more input follows"
    ∷ lining (last_line true 4096) (0 ∷ 7 ∷ 69 ∷ 32 ∷ 52 ∷ 48 ∷ 57 ∷ 54 ∷ 10 ∷ 9 ∷ 9 ∷ 9 ∷ [])
    ∷ []

-- LF with the point (0,100), an RS that is refused behind its first corner (128,0), and LF with its LoX alone
abbrev refused_between : List ℕ
refused_between = 27 ∷ 76 ∷ 70 ∷ 121 ∷ 64 ∷ 27 ∷ 82 ∷ 83 ∷ 96 ∷ 33 ∷ 64 ∷ 10 ∷ 27 ∷ 76 ∷ 70 ∷ 65 ∷ []

-- KI 1, a DEL, KI 0, a 127; and a KI that is refused at the ESC of KA 0, and a 127
abbrev both_modes : List ℕ
both_modes = 27 ∷ 75 ∷ 73 ∷ 49 ∷ 127 ∷ 27 ∷ 75 ∷ 73 ∷ 48 ∷ 127 ∷ []

abbrev refused_mode : List ℕ
refused_mode = 27 ∷ 75 ∷ 73 ∷ 27 ∷ 75 ∷ 65 ∷ 48 ∷ 127 ∷ []

abbrev pub wrong-listing : List Wrong
wrong-listing =
    -- "Keeping the remembered point from a refused command": C 12 LF 132 0
    but (listing_of refused_between) (67 ∷ 32 ∷ 48 ∷ 32 ∷ 76 ∷ 70 ∷ 32 ∷ 48 ∷ 32 ∷ 49 ∷ 48 ∷ 48 ∷ 10 ∷ 82 ∷ 32 ∷ 53 ∷ 32 ∷ 51 ∷ 32 ∷ 49 ∷ 49 ∷ 10 ∷ 67 ∷ 32 ∷ 49 ∷ 50 ∷ 32 ∷ 76 ∷ 70 ∷ 32 ∷ 49 ∷ 51 ∷ 50 ∷ 32 ∷ 48 ∷ 10 ∷ 69 ∷ 32 ∷ 49 ∷ 54 ∷ 10 ∷ [])
    -- nor is the point before it lost: C 12 LF 4 0
    ∷ but (listing_of refused_between) (67 ∷ 32 ∷ 48 ∷ 32 ∷ 76 ∷ 70 ∷ 32 ∷ 48 ∷ 32 ∷ 49 ∷ 48 ∷ 48 ∷ 10 ∷ 82 ∷ 32 ∷ 53 ∷ 32 ∷ 51 ∷ 32 ∷ 49 ∷ 49 ∷ 10 ∷ 67 ∷ 32 ∷ 49 ∷ 50 ∷ 32 ∷ 76 ∷ 70 ∷ 32 ∷ 52 ∷ 32 ∷ 48 ∷ 10 ∷ 69 ∷ 32 ∷ 49 ∷ 54 ∷ 10 ∷ [])
    -- no item is left out: not the last line alone
    ∷ but (listing_of (65 ∷ 66 ∷ [])) (69 ∷ 32 ∷ 50 ∷ 10 ∷ [])
    -- "The lister prints a DEL that is an item as D and its place": T 4 127 for D 4
    ∷ but (listing_of both_modes) (67 ∷ 32 ∷ 48 ∷ 32 ∷ 75 ∷ 73 ∷ 32 ∷ 49 ∷ 10 ∷ 84 ∷ 32 ∷ 52 ∷ 32 ∷ 49 ∷ 50 ∷ 55 ∷ 10 ∷ 67 ∷ 32 ∷ 53 ∷ 32 ∷ 75 ∷ 73 ∷ 32 ∷ 48 ∷ 10 ∷ 84 ∷ 32 ∷ 57 ∷ 32 ∷ 49 ∷ 50 ∷ 55 ∷ 10 ∷ 69 ∷ 32 ∷ 49 ∷ 48 ∷ 10 ∷ [])
    -- nor is it left out
    ∷ but (listing_of both_modes) (67 ∷ 32 ∷ 48 ∷ 32 ∷ 75 ∷ 73 ∷ 32 ∷ 49 ∷ 10 ∷ 67 ∷ 32 ∷ 53 ∷ 32 ∷ 75 ∷ 73 ∷ 32 ∷ 48 ∷ 10 ∷ 84 ∷ 32 ∷ 57 ∷ 32 ∷ 49 ∷ 50 ∷ 55 ∷ 10 ∷ 69 ∷ 32 ∷ 49 ∷ 48 ∷ 10 ∷ [])
    -- "KI 0 returns to the old reading": D 9 for T 9 127
    ∷ but (listing_of both_modes) (67 ∷ 32 ∷ 48 ∷ 32 ∷ 75 ∷ 73 ∷ 32 ∷ 49 ∷ 10 ∷ 68 ∷ 32 ∷ 52 ∷ 10 ∷ 67 ∷ 32 ∷ 53 ∷ 32 ∷ 75 ∷ 73 ∷ 32 ∷ 48 ∷ 10 ∷ 68 ∷ 32 ∷ 57 ∷ 10 ∷ 69 ∷ 32 ∷ 49 ∷ 48 ∷ 10 ∷ [])
    -- "A refused KI changes nothing": D 7 for T 7 127
    ∷ but (listing_of refused_mode) (82 ∷ 32 ∷ 48 ∷ 32 ∷ 54 ∷ 32 ∷ 51 ∷ 10 ∷ 67 ∷ 32 ∷ 51 ∷ 32 ∷ 75 ∷ 65 ∷ 32 ∷ 48 ∷ 10 ∷ 68 ∷ 32 ∷ 55 ∷ 10 ∷ 69 ∷ 32 ∷ 56 ∷ 10 ∷ [])
    ∷ []

-- ---- the exported calls: the number, the slots, and what is lent

abbrev item_slots : (before bytes : List ℕ) → ℕ → List ℤ → List ℕ
item_slots before bytes start list =
    let i = item_at (kept_in before) bytes start (length list) in
    item_number (told_item i) ∷ (item_fields (told_item i) ++ (signs_of (item_values (told_item i)) ++ (remembered_after before (told_item i) ++ signs_of (after_item i list))))

abbrev pub wrong-ardh_next_item : List Wrong
wrong-ardh_next_item =
    -- one "that refuses all input": LF 0 100 is done
    but (item_slots (0 ∷ 0 ∷ 0 ∷ []) (27 ∷ 76 ∷ 70 ∷ 121 ∷ 64 ∷ []) 0 []) (2 ∷ 2 ∷ 5 ∷ 0 ∷ 76 ∷ 70 ∷ 4 ∷ 0 ∷ 0 ∷ 0 ∷ 0 ∷ 100 ∷ 0 ∷ 0 ∷ 0 ∷ 0 ∷ 0 ∷ 100 ∷ 0 ∷ [])
    -- one "that answers always alike": at the start 1 what stands at 0
    ∷ but (item_slots (0 ∷ 0 ∷ 0 ∷ []) (65 ∷ 66 ∷ []) 1 []) (0 ∷ 1 ∷ 1 ∷ 0 ∷ 65 ∷ 0 ∷ 0 ∷ 0 ∷ 0 ∷ 0 ∷ 0 ∷ 0 ∷ 0 ∷ 0 ∷ 0 ∷ 0 ∷ 0 ∷ 0 ∷ 0 ∷ [])
    -- the remembered point behind the item
    ∷ but (item_slots (0 ∷ 0 ∷ 0 ∷ []) (27 ∷ 76 ∷ 70 ∷ 121 ∷ 64 ∷ []) 0 []) (0 ∷ 2 ∷ 5 ∷ 0 ∷ 76 ∷ 70 ∷ 4 ∷ 0 ∷ 0 ∷ 0 ∷ 0 ∷ 100 ∷ 0 ∷ 0 ∷ 0 ∷ 0 ∷ 0 ∷ 0 ∷ 0 ∷ [])
    -- the letters in their order
    ∷ but (item_slots (0 ∷ 0 ∷ 0 ∷ []) (27 ∷ 76 ∷ 70 ∷ 121 ∷ 64 ∷ []) 0 []) (0 ∷ 2 ∷ 5 ∷ 0 ∷ 70 ∷ 70 ∷ 4 ∷ 0 ∷ 0 ∷ 0 ∷ 0 ∷ 100 ∷ 0 ∷ 0 ∷ 0 ∷ 0 ∷ 0 ∷ 100 ∷ 0 ∷ [])
    -- "A refused call leaves .. lists .. as they were on entry": a list that is too short is not touched
    ∷ but (item_slots (0 ∷ 0 ∷ 0 ∷ []) (27 ∷ 82 ∷ 76 ∷ 50 ∷ 49 ∷ 50 ∷ []) 0 (pos 9 ∷ [])) (7 ∷ 4 ∷ 0 ∷ 0 ∷ 0 ∷ 0 ∷ 0 ∷ 0 ∷ 0 ∷ 0 ∷ 0 ∷ 0 ∷ 0 ∷ 0 ∷ 0 ∷ 0 ∷ 0 ∷ 0 ∷ 0 ∷ 0 ∷ 1 ∷ [])
    -- "each plain 127 .. makes an item of its own between commands": no text, and without the byte
    ∷ but (item_slots (0 ∷ 0 ∷ 1 ∷ []) (127 ∷ []) 0 []) (0 ∷ 1 ∷ 1 ∷ 0 ∷ 127 ∷ 0 ∷ 0 ∷ 0 ∷ 0 ∷ 0 ∷ 0 ∷ 0 ∷ 0 ∷ 0 ∷ 0 ∷ 0 ∷ 0 ∷ 0 ∷ 1 ∷ [])
    ∷ but (item_slots (0 ∷ 0 ∷ 1 ∷ []) (127 ∷ []) 0 []) (0 ∷ 5 ∷ 1 ∷ 0 ∷ 127 ∷ 0 ∷ 0 ∷ 0 ∷ 0 ∷ 0 ∷ 0 ∷ 0 ∷ 0 ∷ 0 ∷ 0 ∷ 0 ∷ 0 ∷ 0 ∷ 1 ∷ [])
    -- "The mode goes with the remembered point": it is set behind KI 1, and a refused KI leaves both
    ∷ but (item_slots (0 ∷ 0 ∷ 0 ∷ []) (27 ∷ 75 ∷ 73 ∷ 49 ∷ []) 0 []) (0 ∷ 2 ∷ 4 ∷ 0 ∷ 75 ∷ 73 ∷ 1 ∷ 0 ∷ 0 ∷ 1 ∷ 0 ∷ 0 ∷ 0 ∷ 0 ∷ 0 ∷ 0 ∷ 0 ∷ 0 ∷ 0 ∷ [])
    ∷ but (item_slots (5 ∷ 6 ∷ 1 ∷ []) (27 ∷ 75 ∷ 73 ∷ 27 ∷ []) 0 []) (1 ∷ 3 ∷ 4 ∷ 4 ∷ 0 ∷ 0 ∷ 0 ∷ 0 ∷ 0 ∷ 0 ∷ 0 ∷ 0 ∷ 0 ∷ 0 ∷ 0 ∷ 0 ∷ 5 ∷ 6 ∷ 0 ∷ [])
    -- 8: "value out of range" for a mode that is neither 0 nor 1, and the slots are as they came
    ∷ but (item_slots (0 ∷ 0 ∷ 2 ∷ []) (65 ∷ []) 0 []) (0 ∷ 1 ∷ 1 ∷ 0 ∷ 65 ∷ 0 ∷ 0 ∷ 0 ∷ 0 ∷ 0 ∷ 0 ∷ 0 ∷ 0 ∷ 0 ∷ 0 ∷ 0 ∷ 0 ∷ 0 ∷ 2 ∷ [])
    ∷ but (item_slots (0 ∷ 0 ∷ 2 ∷ []) (65 ∷ []) 0 []) (8 ∷ 4 ∷ 0 ∷ 0 ∷ 0 ∷ 0 ∷ 0 ∷ 0 ∷ 0 ∷ 0 ∷ 0 ∷ 0 ∷ 0 ∷ 0 ∷ 0 ∷ 0 ∷ 4096 ∷ 4096 ∷ 0 ∷ [])
    ∷ []

abbrev command_slots : (before : List ℕ) → (first second : ℕ) → List ℤ → List ℕ → List ℕ
command_slots before first second values out =
    let c : Command = command_given first second values in
    let a : Answer ℕ = write_command (kept_in before) c [] (length out) in
    number a ∷ value_or 0 (λ (n : ℕ). n) a ∷ (slots_after before c a ++ after_write a (spell_command (kept_in before) c []) out 0)

abbrev fresh : List ℕ
fresh = (0 ∷ 0 ∷ 0 ∷ [])

abbrev pub wrong-ardh_write_command : List Wrong
wrong-ardh_write_command =
    -- RS (128,0) (132,0): the remembered point behind it is the second corner, and not that before it
    but (command_slots fresh 82 83 (pos 128 ∷ pos 0 ∷ pos 132 ∷ pos 0 ∷ []) (replicate 7 9)) (0 ∷ 7 ∷ 128 ∷ 0 ∷ 0 ∷ 27 ∷ 82 ∷ 83 ∷ 96 ∷ 33 ∷ 64 ∷ 65 ∷ [])
    ∷ but (command_slots fresh 82 83 (pos 128 ∷ pos 0 ∷ pos 132 ∷ pos 0 ∷ []) (replicate 7 9)) (0 ∷ 7 ∷ 0 ∷ 0 ∷ 0 ∷ 27 ∷ 82 ∷ 83 ∷ 96 ∷ 33 ∷ 64 ∷ 65 ∷ [])
    -- RU 1 2 3: the third integer, and not the first again
    ∷ but (command_slots fresh 82 85 (pos 1 ∷ pos 2 ∷ pos 3 ∷ pos 0 ∷ []) (replicate 6 9)) (0 ∷ 6 ∷ 0 ∷ 0 ∷ 0 ∷ 27 ∷ 82 ∷ 85 ∷ 49 ∷ 50 ∷ 49 ∷ [])
    -- 8 for "letters .. not in the table": not done, with nothing written
    ∷ but (command_slots fresh 78 88 (pos 0 ∷ pos 0 ∷ pos 0 ∷ pos 0 ∷ []) (9 ∷ [])) (0 ∷ 0 ∷ 0 ∷ 0 ∷ 0 ∷ 9 ∷ [])
    -- a coordinate outside 0..4095 is refused, and not taken as 4095
    ∷ but (command_slots fresh 76 70 (pos 4096 ∷ pos 0 ∷ pos 0 ∷ pos 0 ∷ []) (replicate 7 9)) (0 ∷ 7 ∷ 4095 ∷ 0 ∷ 0 ∷ 27 ∷ 76 ∷ 70 ∷ 99 ∷ 96 ∷ 63 ∷ 95 ∷ [])
    -- KI 1: the mode behind it
    ∷ but (command_slots fresh 75 73 (pos 1 ∷ pos 0 ∷ pos 0 ∷ pos 0 ∷ []) (replicate 4 9)) (0 ∷ 4 ∷ 0 ∷ 0 ∷ 0 ∷ 27 ∷ 75 ∷ 73 ∷ 49 ∷ [])
    -- "the writer in that mode writes it so": KA 1023
    ∷ but (command_slots (0 ∷ 0 ∷ 1 ∷ []) 75 65 (pos 1023 ∷ pos 0 ∷ pos 0 ∷ pos 0 ∷ []) (replicate 6 9)) (0 ∷ 5 ∷ 0 ∷ 0 ∷ 1 ∷ 27 ∷ 75 ∷ 65 ∷ 127 ∷ 63 ∷ 9 ∷ [])
    -- 8: "value out of range" for a mode that is neither 0 nor 1, and the slots are as they came
    ∷ but (command_slots (0 ∷ 0 ∷ 2 ∷ []) 75 65 (pos 0 ∷ pos 0 ∷ pos 0 ∷ pos 0 ∷ []) (replicate 4 9)) (0 ∷ 4 ∷ 0 ∷ 0 ∷ 2 ∷ 27 ∷ 75 ∷ 65 ∷ 48 ∷ [])
    ∷ but (command_slots (0 ∷ 0 ∷ 2 ∷ []) 75 65 (pos 0 ∷ pos 0 ∷ pos 0 ∷ pos 0 ∷ []) (replicate 4 9)) (8 ∷ 0 ∷ 4096 ∷ 4096 ∷ 0 ∷ 9 ∷ 9 ∷ 9 ∷ 9 ∷ [])
    ∷ []

-- ---- all of them

abbrev pub column_of_items : List Wrong
column_of_items =
    joined
    (wrong-read_item
    ∷ wrong-line
    ∷ wrong-last_line
    ∷ wrong-listing
    ∷ wrong-ardh_next_item
    ∷ wrong-ardh_write_command
    ∷ [])
