-- Wrong answers of `table`, `parameters`, `commands`, `writable` and `writing`. Each row: a call, its input, and what it must not answer.
use Rattle.std.specs.Prelude.{ℕ, List, [], ◌∷◌, ◌++◌, length, replicate, ℤ, pos, negsuc}
use Rattle.refusals.specs.Answers.{Answer, done, refused}
use Rattle.memory.specs.declared.Remembered.{Remembered}
use Rattle.memory.specs.Memory.{fresh_memory}
use Rattle.wire.specs.Sending.{after_write}
use Rattle.table.specs.Table.{ParameterKind, Tabled, in_table, not_in_table, begins, kind_of}
use Rattle.table.specs.Table as K
use Rattle.parameters.specs.declared.Parameters.{Parameters}
use Rattle.parameters.specs.declared.Parameters.TheVariants as P
use Rattle.parameters.specs.declared.Entry.TheVariants.{AnInteger, ACharacter}
use Rattle.parameters.specs.Shapes.{Tailed, no_list, list_of, Pointed, no_point, last, shape_of, values_of, tail_of, last_point}
use Rattle.parameters.specs.Looking.{Parsed, parameters_at, after_look}
use Rattle.commands.specs.declared.Command.{Command}
use Rattle.commands.specs.Behind.{leading, after_letters, after_command}
use Rattle.commands.specs.Reading.{ToldCommand, command_at, told, after_entries}
use Rattle.writable.specs.Writable.{kind_for, kind_number, fits, is_command}
use Rattle.writing.specs.Writing.{spell_command, write_fitting, write_command}
use Rattle.parameters.specs.Numbers.{numbers_of, four_of}
use Rattle.sheet.specs.Rows.{Wrong, but, joined, truth, signs, signs_of, at, from, padded, point-is, kept-is, writing_of}

-- ---- table

abbrev pub wrong-begins_command : List Wrong
wrong-begins_command =
    -- "real: MR"; "RU", "RH" and others
    but (truth (begins 77)) (0 ∷ [])
    ∷ but (truth (begins 82)) (0 ∷ [])
    ∷ []

-- the number of the kind, or 0 where the letters are no command's
abbrev tabled_is : Tabled → List ℕ
tabled_is (in_table k) = (kind_number k ∷ [])
tabled_is not_in_table = (0 ∷ [])

abbrev pub wrong-kind_of : List Wrong
wrong-kind_of =
    -- "If an op letter below differs from the summary table of document 000, the table wins": NL, and not NX
    but (tabled_is (kind_of 78 88)) (1 ∷ [])
    ∷ but (tabled_is (kind_of 78 76)) (0 ∷ [])
    -- "two characters, each 32 to 127: IQ"
    ∷ but (tabled_is (kind_of 73 81)) (7 ∷ [])
    ∷ []

-- ---- parameters

-- where the entries start and how many they are, where reading goes on, what is remembered, and the fixed values; or the refusal and its place
abbrev parsed_is : Answer Parsed → List ℕ
parsed_is (done p) = 0 ∷ p.start ∷ p.count ∷ p.next ∷ (kept-is p.kept ++ signs_of (numbers_of p.values))
parsed_is (refused e p) = (e ∷ p ∷ [])

abbrev looking-from : Remembered → ParameterKind → List ℕ → List ℤ → List ℕ → Wrong
looking-from kept k s list wrong = but (parsed_is (parameters_at kept (shape_of k) s 0) ++ signs_of (after_look s (parameters_at kept (shape_of k) s 0) list)) wrong

abbrev looking : ParameterKind → List ℕ → List ℤ → List ℕ → Wrong
looking k s list wrong = looking-from fresh_memory k s list wrong

abbrev pub wrong-look_at : List Wrong
wrong-look_at =
    -- parameters come in their order
    looking K.two_integers (49 ∷ 50 ∷ []) [] (0 ∷ 0 ∷ 0 ∷ 2 ∷ 0 ∷ 0 ∷ 0 ∷ 0 ∷ 2 ∷ 0 ∷ 1 ∷ [])
    -- "The others .. are then those of the last point": the second corner follows from the first, not from what was remembered before it
    ∷ looking K.two_points (96 ∷ 33 ∷ 64 ∷ 65 ∷ []) [] (0 ∷ 0 ∷ 0 ∷ 4 ∷ 4 ∷ 0 ∷ 0 ∷ 0 ∷ 128 ∷ 0 ∷ 0 ∷ 0 ∷ 4 ∷ 0 ∷ 0 ∷ [])
    -- "an array is a count and that many integers": each stands behind the one before it
    ∷ looking K.an_array (50 ∷ 49 ∷ 51 ∷ []) (pos 9 ∷ pos 9 ∷ []) (0 ∷ 1 ∷ 2 ∷ 2 ∷ 0 ∷ 0 ∷ 0 ∷ 0 ∷ 1 ∷ 0 ∷ 1 ∷ [])
    -- 7: "lent list .. too short for the whole result": no entry of two goes to a list of one, and it is not touched
    ∷ looking K.an_array (50 ∷ 49 ∷ 51 ∷ []) (pos 9 ∷ []) (0 ∷ 1 ∷ 2 ∷ 3 ∷ 0 ∷ 0 ∷ 0 ∷ 0 ∷ 1 ∷ [])
    ∷ looking K.an_array (50 ∷ 49 ∷ 51 ∷ []) (pos 9 ∷ []) (0 ∷ 1 ∷ 2 ∷ 3 ∷ 0 ∷ 0 ∷ 0 ∷ 0 ∷ 0 ∷ [])
    -- "each plain 127 .. in a parameter, is passed over": it is no character, neither of two nor of a string, and not counted
    ∷ looking-from padded K.two_characters (33 ∷ 127 ∷ 34 ∷ []) [] (0 ∷ 0 ∷ 0 ∷ 2 ∷ 0 ∷ 0 ∷ 1 ∷ 0 ∷ 33 ∷ 0 ∷ 127 ∷ [])
    ∷ looking-from padded K.a_string (50 ∷ 65 ∷ 127 ∷ 66 ∷ []) (pos 9 ∷ pos 9 ∷ []) (0 ∷ 1 ∷ 2 ∷ 3 ∷ 0 ∷ 0 ∷ 1 ∷ 0 ∷ 65 ∷ 0 ∷ 127 ∷ [])
    ∷ looking-from padded K.a_string (50 ∷ 65 ∷ 127 ∷ 66 ∷ []) (pos 9 ∷ pos 9 ∷ []) (0 ∷ 1 ∷ 1 ∷ 3 ∷ 0 ∷ 0 ∷ 1 ∷ 0 ∷ 65 ∷ 0 ∷ 9 ∷ [])
    -- "The mode goes with the remembered point": a corner does not change it
    ∷ looking-from padded K.one_point (121 ∷ 64 ∷ []) [] (0 ∷ 0 ∷ 0 ∷ 2 ∷ 0 ∷ 100 ∷ 0 ∷ 0 ∷ 0 ∷ 0 ∷ 100 ∷ [])
    ∷ []

-- 0 for no list, 1 for one of integers, 2 for one of characters
abbrev tail_is : Tailed → List ℕ
tail_is no_list = (0 ∷ [])
tail_is (list_of AnInteger) = (1 ∷ [])
tail_is (list_of ACharacter) = (2 ∷ [])

abbrev pub wrong-tail_of : List Wrong
wrong-tail_of =
    -- "integer, then string: RP", and "integer, then integer array: KD KO"
    but (tail_is (tail_of (P.IntegerThenString (pos 1)))) (1 ∷ [])
    ∷ but (tail_is (tail_of (P.IntegerThenArray (pos 1)))) (0 ∷ [])
    -- "for other commands does not look at it"
    ∷ but (tail_is (tail_of (P.TwoCharacters (pos 33) (pos 34)))) (2 ∷ [])
    ∷ []

-- the point, or nothing
abbrev last_is : Pointed → List ℕ
last_is no_point = []
last_is (last p) = point-is p

abbrev pub wrong-last_point : List Wrong
wrong-last_point =
    -- "those of the last point": the second of two, and none where there is none
    but (last_is (last_point (values_of (P.TwoPoints (at 1 2) (at 3 4))))) (1 ∷ 2 ∷ [])
    ∷ but (last_is (last_point (values_of (P.TwoIntegers (pos 1) (pos 2))))) (1 ∷ 2 ∷ [])
    ∷ []

abbrev pub wrong-numbers_of : List Wrong
wrong-numbers_of =
    -- "mantissa and exponent", "x and y": in this order, and no more than there are
    but (signs_of (numbers_of (values_of (P.AReal (record { mantissa = pos 3; exponent = negsuc 1 }))))) (1 ∷ 2 ∷ 0 ∷ 3 ∷ [])
    ∷ but (signs_of (numbers_of (values_of (P.OnePoint (at 1 2))))) (0 ∷ 2 ∷ 0 ∷ 1 ∷ [])
    ∷ but (signs_of (numbers_of (values_of P.AString))) (0 ∷ 0 ∷ [])
    -- and 0 in what is left of four
    ∷ but (signs_of (four_of (values_of (P.OneInteger (pos 5))))) (0 ∷ 5 ∷ 0 ∷ 5 ∷ 0 ∷ 0 ∷ 0 ∷ 0 ∷ [])
    ∷ []

-- ---- commands

abbrev pub wrong-leading_number : List Wrong
wrong-leading_number =
    -- the first number, and its sign
    but (signs (leading (values_of (P.TwoIntegers (pos 5) (pos 6))))) (0 ∷ 6 ∷ [])
    ∷ but (signs (leading (values_of (P.OneInteger (negsuc 0))))) (0 ∷ 1 ∷ [])
    ∷ []

-- behind letters and a first number
abbrev behind-letters : Remembered → (first second : ℕ) → ℤ → List ℕ → Wrong
behind-letters kept first second v wrong = but (kept-is (after_letters kept first second v)) wrong

abbrev pub wrong-after_letters : List Wrong
wrong-after_letters =
    -- "After KI 1 each plain 127 .. is passed over"
    behind-letters fresh_memory 75 73 (pos 1) (0 ∷ 0 ∷ 0 ∷ [])
    -- "KI 0 returns to the old reading"
    ∷ behind-letters padded 75 73 (pos 0) (0 ∷ 0 ∷ 1 ∷ [])
    -- "other numbers leave the mode": 2 neither sets nor clears, and -1 is not 1
    ∷ behind-letters fresh_memory 75 73 (pos 2) (0 ∷ 0 ∷ 1 ∷ [])
    ∷ behind-letters padded 75 73 (pos 2) (0 ∷ 0 ∷ 0 ∷ [])
    ∷ behind-letters fresh_memory 75 73 (negsuc 0) (0 ∷ 0 ∷ 1 ∷ [])
    ∷ behind-letters padded 75 73 (negsuc 0) (0 ∷ 0 ∷ 0 ∷ [])
    -- no other command does: KA 1, and KA 0
    ∷ behind-letters fresh_memory 75 65 (pos 1) (0 ∷ 0 ∷ 1 ∷ [])
    ∷ behind-letters padded 75 65 (pos 0) (0 ∷ 0 ∷ 0 ∷ [])
    -- and the point stays
    ∷ behind-letters (from 5 6) 75 73 (pos 1) (0 ∷ 0 ∷ 1 ∷ [])
    ∷ []

-- the same, by the parameters
abbrev behind-parameters : Remembered → (first second : ℕ) → Parameters → List ℕ → Wrong
behind-parameters kept first second ps wrong = but (kept-is (after_letters kept first second (leading (values_of ps)))) wrong

abbrev pub wrong-after_parameters : List Wrong
wrong-after_parameters =
    -- "After KI 1 .. KI 0 returns to the old reading": the number is the command's own
    behind-parameters fresh_memory 75 73 (P.OneInteger (pos 1)) (0 ∷ 0 ∷ 0 ∷ [])
    ∷ behind-parameters padded 75 73 (P.OneInteger (pos 0)) (0 ∷ 0 ∷ 1 ∷ [])
    ∷ behind-parameters fresh_memory 75 65 (P.OneInteger (pos 1)) (0 ∷ 0 ∷ 1 ∷ [])
    ∷ []

-- the letters, the number of entries, where reading goes on, what is remembered, and the fixed values; or the refusal and its place
abbrev told_is : Answer ToldCommand → List ℕ
told_is (done t) = 0 ∷ t.first ∷ t.second ∷ t.count ∷ t.next ∷ (kept-is t.kept ++ signs_of (numbers_of t.values))
told_is (refused e p) = (e ∷ p ∷ [])

abbrev reading-from : Remembered → List ℕ → List ℤ → List ℕ → Wrong
reading-from kept s list wrong = but (told_is (told (command_at kept s 0 (length list))) ++ signs_of (after_entries (command_at kept s 0 (length list)) list)) wrong

abbrev reading : List ℕ → List ℤ → List ℕ → Wrong
reading s list wrong = reading-from fresh_memory s list wrong

abbrev pub wrong-read_command : List Wrong
wrong-read_command =
    -- 7: "lent list .. too short for the whole result": one that just fits is not
    reading (27 ∷ 82 ∷ 76 ∷ 49 ∷ 50 ∷ []) (pos 9 ∷ []) (7 ∷ 0 ∷ 0 ∷ 9 ∷ [])
    -- "its place is the command's start"
    ∷ reading (27 ∷ 82 ∷ 76 ∷ 49 ∷ 50 ∷ []) [] (7 ∷ 3 ∷ [])
    -- "An op letter of 27 is refusal 6 there"
    ∷ reading (27 ∷ 27 ∷ []) [] (2 ∷ 1 ∷ [])
    -- "A first letter that begins no command .. is refusal 2 there": not at the ESC
    ∷ reading (27 ∷ 90 ∷ []) [] (2 ∷ 0 ∷ [])
    -- "those of the last point": the command's point is remembered
    ∷ reading (27 ∷ 76 ∷ 70 ∷ 121 ∷ 64 ∷ []) [] (0 ∷ 76 ∷ 70 ∷ 0 ∷ 5 ∷ 0 ∷ 0 ∷ 0 ∷ 0 ∷ 0 ∷ 0 ∷ 100 ∷ [])
    -- "each plain 127, in text, between letters or in a parameter, is passed over": before the first letter and the second too
    ∷ reading-from padded (27 ∷ 127 ∷ 75 ∷ 127 ∷ 65 ∷ 127 ∷ 48 ∷ []) [] (2 ∷ 1 ∷ [])
    ∷ reading-from padded (27 ∷ 127 ∷ 75 ∷ 127 ∷ 65 ∷ 127 ∷ 48 ∷ []) [] (2 ∷ 3 ∷ [])
    ∷ reading-from padded (27 ∷ 127 ∷ 75 ∷ 127 ∷ 65 ∷ 127 ∷ 48 ∷ []) [] (0 ∷ 75 ∷ 65 ∷ 0 ∷ 7 ∷ 0 ∷ 0 ∷ 1 ∷ 0 ∷ 1008 ∷ [])
    -- and not where no KI 1 came: a letter of 127 is "refusal 2 there"
    ∷ reading (27 ∷ 127 ∷ 75 ∷ 65 ∷ 48 ∷ []) [] (0 ∷ 75 ∷ 65 ∷ 0 ∷ 5 ∷ 0 ∷ 0 ∷ 0 ∷ 0 ∷ 0 ∷ [])
    -- "refusal 2 there", "refusal 6 there": at the letter, and not at a 127 before it
    ∷ reading-from padded (27 ∷ 127 ∷ 90 ∷ []) [] (2 ∷ 1 ∷ [])
    ∷ reading-from padded (27 ∷ 75 ∷ 127 ∷ 90 ∷ []) [] (2 ∷ 2 ∷ [])
    ∷ reading-from padded (27 ∷ 127 ∷ 27 ∷ []) [] (6 ∷ 1 ∷ [])
    -- bytes that end behind a 127: "place is the length"
    ∷ reading-from padded (27 ∷ 127 ∷ []) [] (2 ∷ 1 ∷ [])
    ∷ reading-from padded (27 ∷ 127 ∷ []) [] (1 ∷ 1 ∷ [])
    -- a 127 behind the last byte of a command is none of it
    ∷ reading-from padded (27 ∷ 75 ∷ 65 ∷ 48 ∷ 127 ∷ []) [] (0 ∷ 75 ∷ 65 ∷ 0 ∷ 5 ∷ 0 ∷ 0 ∷ 1 ∷ 0 ∷ 0 ∷ [])
    -- "After KI 1", "KI 0 returns to the old reading", "other numbers leave the mode": KI 1, KI 0, KI 2, KI -1
    ∷ reading (27 ∷ 75 ∷ 73 ∷ 49 ∷ []) [] (0 ∷ 75 ∷ 73 ∷ 0 ∷ 4 ∷ 0 ∷ 0 ∷ 0 ∷ 0 ∷ 1 ∷ [])
    ∷ reading-from padded (27 ∷ 75 ∷ 73 ∷ 48 ∷ []) [] (0 ∷ 75 ∷ 73 ∷ 0 ∷ 4 ∷ 0 ∷ 0 ∷ 1 ∷ 0 ∷ 0 ∷ [])
    ∷ reading-from padded (27 ∷ 75 ∷ 73 ∷ 50 ∷ []) [] (0 ∷ 75 ∷ 73 ∷ 0 ∷ 4 ∷ 0 ∷ 0 ∷ 0 ∷ 0 ∷ 2 ∷ [])
    ∷ reading (27 ∷ 75 ∷ 73 ∷ 33 ∷ []) [] (0 ∷ 75 ∷ 73 ∷ 0 ∷ 4 ∷ 0 ∷ 0 ∷ 1 ∷ 1 ∷ 1 ∷ [])
    -- "Refusals: none new": KI 2 is no integer out of range
    ∷ reading (27 ∷ 75 ∷ 73 ∷ 50 ∷ []) [] (4 ∷ 3 ∷ [])
    -- KI's own bytes are read in the mode before it: KI 1009, and KI 1; and none behind it is its own
    ∷ reading (27 ∷ 75 ∷ 73 ∷ 127 ∷ 49 ∷ []) [] (0 ∷ 75 ∷ 73 ∷ 0 ∷ 5 ∷ 0 ∷ 0 ∷ 1 ∷ 0 ∷ 1 ∷ [])
    ∷ reading-from padded (27 ∷ 75 ∷ 73 ∷ 127 ∷ 49 ∷ []) [] (0 ∷ 75 ∷ 73 ∷ 0 ∷ 5 ∷ 0 ∷ 0 ∷ 1 ∷ 0 ∷ 1009 ∷ [])
    ∷ reading (27 ∷ 75 ∷ 73 ∷ 49 ∷ 127 ∷ []) [] (0 ∷ 75 ∷ 73 ∷ 0 ∷ 5 ∷ 0 ∷ 0 ∷ 1 ∷ 0 ∷ 1 ∷ [])
    -- "A string is a count and that many bytes": a 127 passed over is none of them
    ∷ reading-from padded (27 ∷ 76 ∷ 84 ∷ 50 ∷ 65 ∷ 127 ∷ 66 ∷ []) (pos 9 ∷ pos 9 ∷ []) (0 ∷ 76 ∷ 84 ∷ 2 ∷ 6 ∷ 0 ∷ 0 ∷ 1 ∷ 0 ∷ 65 ∷ 0 ∷ 127 ∷ [])
    ∷ []

-- ---- writable

abbrev pub wrong-kind_number : List Wrong
wrong-kind_number =
    -- each kind has its own number, that of the header
    but (kind_number K.a_real ∷ []) (5 ∷ [])
    ∷ but (kind_number K.two_characters ∷ []) (12 ∷ [])
    ∷ []

abbrev pub wrong-kind_of_parameters : List Wrong
wrong-kind_of_parameters =
    -- a string is no array, and a real is no pair of integers
    but (kind_number (kind_for P.AString) ∷ []) (8 ∷ [])
    ∷ but (kind_number (kind_for (P.AReal (record { mantissa = pos 1; exponent = pos 2 }))) ∷ []) (2 ∷ [])
    ∷ []

abbrev with-letters : ℕ → ℕ → Parameters → Command
with-letters a b ps = record { first = a; second = b; parameters = ps }

abbrev pub wrong-is_writable : List Wrong
wrong-is_writable =
    -- 8 for "more than 256 entries": 256 may be written
    but (truth (is_command fresh_memory (with-letters 82 68 P.AnArray) (replicate 256 (pos 0)))) (0 ∷ [])
    -- 8 for "a value .. outside its range": an entry that fails is not made good by those behind it
    ∷ but (truth (is_command fresh_memory (with-letters 82 68 P.AnArray) (pos 40000 ∷ pos 0 ∷ []))) (1 ∷ [])
    -- 8 for "letters or a kind of parameters not in the table", and for no others
    ∷ but (truth (is_command fresh_memory (with-letters 75 65 (P.OneInteger (pos 0))) [])) (0 ∷ [])
    ∷ but (truth (is_command fresh_memory (with-letters 75 65 (P.TwoIntegers (pos 0) (pos 0))) [])) (1 ∷ [])
    ∷ but (truth (is_command fresh_memory (with-letters 78 88 (P.OneInteger (pos 0))) [])) (1 ∷ [])
    ∷ []

abbrev pub wrong-parameters_fit : List Wrong
wrong-parameters_fit =
    -- 8 for "a value or remembered point outside its range", and on its condition alone
    but (truth (fits fresh_memory (P.OneInteger (pos 40000)) [])) (1 ∷ [])
    ∷ but (truth (fits fresh_memory (P.OneInteger (pos 0)) [])) (0 ∷ [])
    ∷ []

-- ---- writing

-- behind a command that was written
abbrev behind : Remembered → Command → List ℕ → Wrong
behind kept c wrong = but (kept-is (after_command kept c.first c.second (values_of c.parameters))) wrong

abbrev pub wrong-remembered_after : List Wrong
wrong-remembered_after =
    -- "those of the last point": the second of two corners, and a point at all
    behind fresh_memory (with-letters 82 83 (P.TwoPoints (at 1 2) (at 3 4))) (1 ∷ 2 ∷ 0 ∷ [])
    ∷ behind fresh_memory (with-letters 76 70 (P.OnePoint (at 1 2))) (0 ∷ 0 ∷ 0 ∷ [])
    -- "The mode goes with the remembered point": LF leaves it, KI 1 sets it, KA 1 does not
    ∷ behind padded (with-letters 76 70 (P.OnePoint (at 1 2))) (1 ∷ 2 ∷ 0 ∷ [])
    ∷ behind fresh_memory (with-letters 75 73 (P.OneInteger (pos 1))) (0 ∷ 0 ∷ 0 ∷ [])
    ∷ behind fresh_memory (with-letters 75 65 (P.OneInteger (pos 1))) (0 ∷ 0 ∷ 1 ∷ [])
    ∷ []

abbrev writing-from : Remembered → Command → List ℤ → List ℕ → List ℕ → Wrong
writing-from kept c es out wrong =
    but (writing_of (write_command kept c es (length out)) (after_write (write_command kept c es (length out)) (spell_command kept c es) out 0)) wrong

abbrev writing : Command → List ℤ → List ℕ → List ℕ → Wrong
writing c es out wrong = writing-from fresh_memory c es out wrong

abbrev pub wrong-write_command : List Wrong
wrong-write_command =
    -- "No spelling that reads as that command from that point is shorter"
    writing (with-letters 75 65 (P.OneInteger (pos 0))) [] (9 ∷ 9 ∷ 9 ∷ 9 ∷ 9 ∷ []) (0 ∷ 5 ∷ 27 ∷ 75 ∷ 65 ∷ 64 ∷ 48 ∷ [])
    -- "A refused call leaves .. output bytes as they were on entry"
    ∷ writing (with-letters 75 65 (P.OneInteger (pos 0))) [] (9 ∷ 9 ∷ 9 ∷ []) (7 ∷ 0 ∷ 27 ∷ 75 ∷ 65 ∷ [])
    -- "A command is ESC (27), two capital letters, then its parameters"
    ∷ writing (with-letters 75 65 (P.OneInteger (pos 0))) [] (9 ∷ 9 ∷ 9 ∷ 9 ∷ []) (0 ∷ 4 ∷ 27 ∷ 65 ∷ 75 ∷ 48 ∷ [])
    -- "A string is a count and that many bytes": the characters stand behind their count
    ∷ writing (with-letters 76 84 P.AString) (pos 65 ∷ []) (9 ∷ 9 ∷ 9 ∷ 9 ∷ 9 ∷ []) (0 ∷ 5 ∷ 65 ∷ 76 ∷ 84 ∷ 49 ∷ 0 ∷ [])
    -- 7: ".. output too short for the whole result": one that just fits is not
    ∷ writing (with-letters 75 65 (P.OneInteger (pos 0))) [] (9 ∷ 9 ∷ 9 ∷ 9 ∷ []) (7 ∷ 0 ∷ 9 ∷ 9 ∷ 9 ∷ 9 ∷ [])
    -- 8 for "letters .. not in the table", then 7
    ∷ writing (with-letters 78 88 (P.OneInteger (pos 0))) [] (9 ∷ 9 ∷ 9 ∷ 9 ∷ []) (0 ∷ 4 ∷ 27 ∷ 78 ∷ 88 ∷ 48 ∷ [])
    ∷ writing (with-letters 78 88 (P.OneInteger (pos 0))) [] (9 ∷ []) (7 ∷ 0 ∷ 9 ∷ [])
    -- "ESC 63 still reads as 127 in a parameter, and the writer in that mode writes it so": LT of one 127, IQ, KA 1023, LF 0 124
    ∷ writing-from padded (with-letters 76 84 P.AString) (pos 127 ∷ []) (9 ∷ 9 ∷ 9 ∷ 9 ∷ 9 ∷ 9 ∷ []) (0 ∷ 5 ∷ 27 ∷ 76 ∷ 84 ∷ 49 ∷ 127 ∷ 9 ∷ [])
    ∷ writing-from padded (with-letters 73 81 (P.TwoCharacters (pos 127) (pos 33))) [] (9 ∷ 9 ∷ 9 ∷ 9 ∷ 9 ∷ 9 ∷ []) (0 ∷ 5 ∷ 27 ∷ 73 ∷ 81 ∷ 127 ∷ 33 ∷ 9 ∷ [])
    ∷ writing-from padded (with-letters 75 65 (P.OneInteger (pos 1023))) [] (9 ∷ 9 ∷ 9 ∷ 9 ∷ 9 ∷ 9 ∷ []) (0 ∷ 5 ∷ 27 ∷ 75 ∷ 65 ∷ 127 ∷ 63 ∷ 9 ∷ [])
    ∷ writing-from padded (with-letters 76 70 (P.OnePoint (at 0 124))) [] (9 ∷ 9 ∷ 9 ∷ 9 ∷ 9 ∷ 9 ∷ []) (0 ∷ 5 ∷ 27 ∷ 76 ∷ 70 ∷ 127 ∷ 64 ∷ 9 ∷ [])
    -- and in that mode alone
    ∷ writing (with-letters 76 84 P.AString) (pos 127 ∷ []) (9 ∷ 9 ∷ 9 ∷ 9 ∷ 9 ∷ 9 ∷ []) (0 ∷ 6 ∷ 27 ∷ 76 ∷ 84 ∷ 49 ∷ 27 ∷ 63 ∷ [])
    -- 7: ".. output too short for the whole result": the pair is two bytes
    ∷ writing-from padded (with-letters 76 84 P.AString) (pos 127 ∷ []) (9 ∷ 9 ∷ 9 ∷ 9 ∷ 9 ∷ []) (0 ∷ 5 ∷ 27 ∷ 76 ∷ 84 ∷ 49 ∷ 27 ∷ [])
    -- "No spelling that reads as that command .. is shorter": no filler is written
    ∷ writing-from padded (with-letters 75 65 (P.OneInteger (pos 0))) [] (9 ∷ 9 ∷ 9 ∷ 9 ∷ 9 ∷ []) (0 ∷ 5 ∷ 27 ∷ 75 ∷ 65 ∷ 127 ∷ 48 ∷ [])
    ∷ []

abbrev fitting : Remembered → Command → List ℕ → List ℕ → Wrong
fitting kept c out wrong =
    but (writing_of (write_fitting kept c [] (length out)) (after_write (write_fitting kept c [] (length out)) (spell_command kept c []) out 0)) wrong

abbrev pub wrong-write_fitting : List Wrong
wrong-write_fitting =
    -- 8 for "a value .. outside its range", and on its condition alone
    fitting fresh_memory (with-letters 75 65 (P.OneInteger (pos 40000))) (9 ∷ 9 ∷ 9 ∷ 9 ∷ 9 ∷ 9 ∷ []) (0 ∷ 6 ∷ 27 ∷ 75 ∷ 65 ∷ 103 ∷ 68 ∷ 48 ∷ [])
    ∷ fitting fresh_memory (with-letters 75 65 (P.OneInteger (pos 0))) (9 ∷ 9 ∷ 9 ∷ 9 ∷ []) (8 ∷ 0 ∷ 9 ∷ 9 ∷ 9 ∷ 9 ∷ [])
    -- "ESC 63 still reads as 127 in a parameter": a letter is sent as it stands, and never as a pair
    ∷ fitting padded (with-letters 75 127 (P.OneInteger (pos 0))) (9 ∷ 9 ∷ 9 ∷ 9 ∷ 9 ∷ []) (0 ∷ 5 ∷ 27 ∷ 75 ∷ 27 ∷ 63 ∷ 48 ∷ [])
    ∷ fitting padded (with-letters 75 65 (P.OneInteger (pos 1023))) (9 ∷ 9 ∷ 9 ∷ 9 ∷ 9 ∷ 9 ∷ []) (0 ∷ 5 ∷ 27 ∷ 75 ∷ 65 ∷ 127 ∷ 63 ∷ 9 ∷ [])
    ∷ []

-- ---- all of them

abbrev pub column_of_commands : List Wrong
column_of_commands =
    joined
    (wrong-begins_command
    ∷ wrong-kind_of
    ∷ wrong-look_at
    ∷ wrong-tail_of
    ∷ wrong-last_point
    ∷ wrong-numbers_of
    ∷ wrong-leading_number
    ∷ wrong-after_letters
    ∷ wrong-after_parameters
    ∷ wrong-read_command
    ∷ wrong-kind_number
    ∷ wrong-kind_of_parameters
    ∷ wrong-is_writable
    ∷ wrong-parameters_fit
    ∷ wrong-remembered_after
    ∷ wrong-write_command
    ∷ wrong-write_fitting
    ∷ [])
