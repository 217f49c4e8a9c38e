-- The listing of document 01's example, from its 13 bytes, listings with DELs, and a line of each other sort.
use Rattle.std.specs.Prelude.{ℕ, true, List, [], ◌∷◌, ℤ, pos, negsuc}
use Rattle.memory.specs.Memory.{fresh_memory}
use Rattle.refusals.specs.declared.Refusal.TheVariants.{BytesEnd}
use Rattle.parameters.specs.declared.Parameters.{Parameters}
use Rattle.parameters.specs.declared.Parameters.TheVariants as P
use Rattle.stream.specs.declared.Item.{Item}
use Rattle.stream.specs.declared.Item.TheVariants as I
use Rattle.stream.specs.Items.{item_of}
use Rattle.lines.specs.Lines.{line_of, last_line}
use Rattle.listing.specs.Listing.{listing_of}
use Rattle.sheet.specs.Rows.{SheetRow}

abbrev item : Item → ℕ → List ℤ → List ℕ → SheetRow
item i start list line = record { given = line_of (item_of i) start list; paper = line }

abbrev command : (first second : ℕ) → Parameters → ℕ → Item
command a b ps count = I.Command (record { command = (record { first = a; second = b; parameters = ps }); count = count; next = 0; kept = fresh_memory })

abbrev lists : List ℕ → List ℕ → SheetRow
lists input lines = record { given = listing_of input; paper = lines }

abbrev pub line_examples : List SheetRow
line_examples =
    -- T 0 65, C 1 LF 0 100, R 6 2 8, C 9 KA 0, E 13
    lists (65 ∷ 27 ∷ 76 ∷ 70 ∷ 121 ∷ 64 ∷ 27 ∷ 75 ∷ 90 ∷ 27 ∷ 75 ∷ 65 ∷ 48 ∷ [])
    (84 ∷ 32 ∷ 48 ∷ 32 ∷ 54 ∷ 53 ∷ 10 ∷ 67 ∷ 32 ∷ 49 ∷ 32 ∷ 76 ∷ 70 ∷ 32 ∷ 48 ∷ 32 ∷ 49 ∷ 48 ∷ 48 ∷ 10 ∷ 82 ∷ 32 ∷ 54 ∷ 32 ∷ 50 ∷ 32 ∷ 56 ∷ 10 ∷ 67 ∷ 32 ∷ 57 ∷ 32 ∷ 75 ∷ 65 ∷ 32 ∷ 48 ∷ 10 ∷ 69 ∷ 32 ∷ 49 ∷ 51 ∷ 10 ∷ [])
    -- C 0 LF 0 100, R 5 3 11, C 12 LF 4 100, E 16: the refused RS has a first corner of (128,0), and the y of the last point is that before it
    ∷ lists (27 ∷ 76 ∷ 70 ∷ 121 ∷ 64 ∷ 27 ∷ 82 ∷ 83 ∷ 96 ∷ 33 ∷ 64 ∷ 10 ∷ 27 ∷ 76 ∷ 70 ∷ 65 ∷ [])
    (67 ∷ 32 ∷ 48 ∷ 32 ∷ 76 ∷ 70 ∷ 32 ∷ 48 ∷ 32 ∷ 49 ∷ 48 ∷ 48 ∷ 10 ∷ 82 ∷ 32 ∷ 53 ∷ 32 ∷ 51 ∷ 32 ∷ 49 ∷ 49 ∷ 10 ∷ 67 ∷ 32 ∷ 49 ∷ 50 ∷ 32 ∷ 76 ∷ 70 ∷ 32 ∷ 52 ∷ 32 ∷ 49 ∷ 48 ∷ 48 ∷ 10 ∷ 69 ∷ 32 ∷ 49 ∷ 54 ∷ 10 ∷ [])
    -- "each plain 127, in text, between letters or in a parameter, is passed over and belongs to the item in progress, or makes an item of its own between
    -- commands": C 0 KI 1, C 4 KA 0, D 11, D 12, E 13
    ∷ lists (27 ∷ 75 ∷ 73 ∷ 49 ∷ 27 ∷ 127 ∷ 75 ∷ 127 ∷ 65 ∷ 127 ∷ 48 ∷ 127 ∷ 127 ∷ [])
    (67 ∷ 32 ∷ 48 ∷ 32 ∷ 75 ∷ 73 ∷ 32 ∷ 49 ∷ 10 ∷ 67 ∷ 32 ∷ 52 ∷ 32 ∷ 75 ∷ 65 ∷ 32 ∷ 48 ∷ 10 ∷ 68 ∷ 32 ∷ 49 ∷ 49 ∷ 10 ∷ 68 ∷ 32 ∷ 49 ∷ 50 ∷ 10 ∷ 69 ∷ 32 ∷ 49 ∷ 51 ∷ 10 ∷ [])
    -- "27 before another byte than 63 is 6 at the 27", with a 127 between them too; reading starts again on it: C 0 KI 1, R 4 6 7, R 7 6 9, R 9 1 10, E 10
    ∷ lists (27 ∷ 75 ∷ 73 ∷ 49 ∷ 27 ∷ 75 ∷ 65 ∷ 27 ∷ 127 ∷ 27 ∷ [])
    (67 ∷ 32 ∷ 48 ∷ 32 ∷ 75 ∷ 73 ∷ 32 ∷ 49 ∷ 10 ∷ 82 ∷ 32 ∷ 52 ∷ 32 ∷ 54 ∷ 32 ∷ 55 ∷ 10 ∷ 82 ∷ 32 ∷ 55 ∷ 32 ∷ 54 ∷ 32 ∷ 57 ∷ 10 ∷ 82 ∷ 32 ∷ 57 ∷ 32 ∷ 49 ∷ 32 ∷ 49 ∷ 48 ∷ 10 ∷ 69 ∷ 32 ∷ 49 ∷ 48 ∷ 10 ∷ [])
    -- KI's own bytes are read in the mode before it: C 0 KI 1009, C 5 KI 1, C 9 KI 1, E 14
    ∷ lists (27 ∷ 75 ∷ 73 ∷ 127 ∷ 49 ∷ 27 ∷ 75 ∷ 73 ∷ 49 ∷ 27 ∷ 75 ∷ 73 ∷ 127 ∷ 49 ∷ [])
    (67 ∷ 32 ∷ 48 ∷ 32 ∷ 75 ∷ 73 ∷ 32 ∷ 49 ∷ 48 ∷ 48 ∷ 57 ∷ 10 ∷ 67 ∷ 32 ∷ 53 ∷ 32 ∷ 75 ∷ 73 ∷ 32 ∷ 49 ∷ 10 ∷ 67 ∷ 32 ∷ 57 ∷ 32 ∷ 75 ∷ 73 ∷ 32 ∷ 49 ∷ 10 ∷ 69 ∷ 32 ∷ 49 ∷ 52 ∷ 10 ∷ [])
    -- "A string is a count and that many bytes", a 127 passed over being none of them: C 0 KI 1, C 4 LT 2 65 66, E 11
    ∷ lists (27 ∷ 75 ∷ 73 ∷ 49 ∷ 27 ∷ 76 ∷ 84 ∷ 50 ∷ 65 ∷ 127 ∷ 66 ∷ [])
    (67 ∷ 32 ∷ 48 ∷ 32 ∷ 75 ∷ 73 ∷ 32 ∷ 49 ∷ 10 ∷ 67 ∷ 32 ∷ 52 ∷ 32 ∷ 76 ∷ 84 ∷ 32 ∷ 50 ∷ 32 ∷ 54 ∷ 53 ∷ 32 ∷ 54 ∷ 54 ∷ 10 ∷ 69 ∷ 32 ∷ 49 ∷ 49 ∷ 10 ∷ [])
    -- "ESC 63 still reads as 127 in a parameter", with a 127 between the two too, and "KI 0 returns to the old reading": C 0 KI 1, C 4 LT 2 127 127, C 13 KI 0,
    -- T 17 127, E 18
    ∷ lists (27 ∷ 75 ∷ 73 ∷ 49 ∷ 27 ∷ 76 ∷ 84 ∷ 50 ∷ 27 ∷ 63 ∷ 27 ∷ 127 ∷ 63 ∷ 27 ∷ 75 ∷ 73 ∷ 48 ∷ 127 ∷ [])
    (67 ∷ 32 ∷ 48 ∷ 32 ∷ 75 ∷ 73 ∷ 32 ∷ 49 ∷ 10 ∷ 67 ∷ 32 ∷ 52 ∷ 32 ∷ 76 ∷ 84 ∷ 32 ∷ 50 ∷ 32 ∷ 49 ∷ 50 ∷ 55 ∷ 32 ∷ 49 ∷ 50 ∷ 55 ∷ 10 ∷ 67 ∷ 32 ∷ 49 ∷ 51 ∷ 32 ∷ 75 ∷ 73 ∷ 32 ∷ 48 ∷ 10 ∷ 84 ∷ 32 ∷ 49 ∷ 55 ∷ 32 ∷ 49 ∷ 50 ∷ 55 ∷ 10 ∷ 69 ∷ 32 ∷ 49 ∷ 56 ∷ 10 ∷ [])
    -- M 4096
    ∷ record { given = last_line true 4096; paper = (77 ∷ 32 ∷ 52 ∷ 48 ∷ 57 ∷ 54 ∷ 10 ∷ []) }
    -- a string: C 0 LT 2 72 73, of a longer list
    ∷ item (command 76 84 P.AString 2) 0 (pos 72 ∷ pos 73 ∷ pos 7 ∷ []) (67 ∷ 32 ∷ 48 ∷ 32 ∷ 76 ∷ 84 ∷ 32 ∷ 50 ∷ 32 ∷ 55 ∷ 50 ∷ 32 ∷ 55 ∷ 51 ∷ 10 ∷ [])
    -- an integer and an array: C 0 KD 5 1 -32768
    ∷ item (command 75 68 (P.IntegerThenArray (pos 5)) 1) 0 (negsuc 32767 ∷ []) (67 ∷ 32 ∷ 48 ∷ 32 ∷ 75 ∷ 68 ∷ 32 ∷ 53 ∷ 32 ∷ 49 ∷ 32 ∷ 45 ∷ 51 ∷ 50 ∷ 55 ∷ 54 ∷ 56 ∷ 10 ∷ [])
    -- a real, the mantissa first: C 0 MR -1 3
    ∷ item (command 77 82 (P.AReal (record { mantissa = negsuc 0; exponent = pos 3 })) 0) 0 [] (67 ∷ 32 ∷ 48 ∷ 32 ∷ 77 ∷ 82 ∷ 32 ∷ 45 ∷ 49 ∷ 32 ∷ 51 ∷ 10 ∷ [])
    -- an empty array: C 0 RL 0
    ∷ item (command 82 76 P.AnArray 0) 0 (pos 72 ∷ []) (67 ∷ 32 ∷ 48 ∷ 32 ∷ 82 ∷ 76 ∷ 32 ∷ 48 ∷ 10 ∷ [])
    -- no item, no line
    ∷ item I.Nothing 13 [] []
    ∷ item (I.Refused (record { refusal = BytesEnd; place = 0 })) 13 [] []
    ∷ []
