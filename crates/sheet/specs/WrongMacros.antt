-- Wrong answers of `macros`, `defining`, `pieces` and `expansion`, and of the exported macro calls. Each row: a call, its input, and what it must not answer.
use Rattle.std.specs.Prelude.{ℕ, suc, List, [], ◌∷◌, ◌++◌, map, length, replicate, ℤ, pos}
use Rattle.refusals.specs.Answers.{Answer, number}
use Rattle.memory.specs.declared.Remembered.{Remembered}
use Rattle.memory.specs.Memory.{fresh_memory}
use Rattle.macros.specs.Store.{Entry, three_bytes, encoded, size_of, below, entries, well_formed, looked_up, find_refusal, Placed, placed, body_pointer, placed_by_headers, looked_by_headers}
use Rattle.defining.specs.Defining.{define_refusal, store_after}
use Rattle.pieces.specs.Pieces.{Pieced, end, copied, called, trouble, piece_at}
use Rattle.expansion.specs.declared.Expanded.{Expanded}
use Rattle.expansion.specs.Expansion.{expand_told, expand_out}
use Rattle.coordinates.specs.Remembering.{kept_in}
use Rattle.macro_calls.specs.Slots.{place_fields, count_fields, slots_behind}
use Rattle.sheet.specs.Rows.{Wrong, but, joined, truth, signs, from, padded, kept-is}
use Rattle.sheet.specs.MacroRows.{macro, kx, kx_negative, pad_kx, ki_one, chain, five, other, expanded-from}

-- a store with a body of 256 bytes
abbrev longest : List ℕ
longest = (0 ∷ 11 ∷ 0 ∷ []) ++ replicate 256 1

-- ---- macros

abbrev pub wrong-is_well_formed : List Wrong
wrong-is_well_formed =
    -- "entries in rising macro number, each number once"
    but (truth (well_formed three_bytes (0 ∷ 10 ∷ 1 ∷ 33 ∷ 0 ∷ 8 ∷ 1 ∷ 33 ∷ []))) (1 ∷ [])
    -- "15 bits of number": 4 and 5 are told apart
    ∷ but (truth (well_formed three_bytes (0 ∷ 8 ∷ 1 ∷ 33 ∷ 0 ∷ 10 ∷ 1 ∷ 33 ∷ []))) (0 ∷ [])
    -- "The rest of the store is all zeros"
    ∷ but (truth (well_formed three_bytes (1 ∷ []))) (1 ∷ [])
    -- "bytes 0..127": one that fails is not made good by those behind it
    ∷ but (truth (well_formed three_bytes (0 ∷ 10 ∷ 2 ∷ 200 ∷ 1 ∷ []))) (1 ∷ [])
    -- "9 bits of body length 1..256": a body may have 256 bytes
    ∷ but (truth (well_formed three_bytes longest)) (0 ∷ [])
    ∷ []

-- 1 for a store that is well formed; where an entry begins or would begin, where it ends, and where the entries end
abbrev surveyed : List ℕ → ℕ → List ℕ
surveyed s n = truth (well_formed three_bytes s) ++ (size_of three_bytes (below n (entries three_bytes s)) ∷ size_of three_bytes (below (suc n) (entries three_bytes s)) ∷ size_of three_bytes (entries three_bytes s) ∷ [])

abbrev pub wrong-inspect : List Wrong
wrong-inspect =
    -- "entries in rising macro number": a macro that is there, one that would stand before it, one behind it
    but (surveyed five 5) (1 ∷ 0 ∷ 0 ∷ 5 ∷ [])
    ∷ but (surveyed five 4) (1 ∷ 5 ∷ 5 ∷ 5 ∷ [])
    ∷ but (surveyed five 6) (1 ∷ 0 ∷ 5 ∷ 5 ∷ [])
    -- "The rest of the store is all zeros": the entries end before it, and a byte there makes it malformed
    ∷ but (surveyed five 5) (1 ∷ 0 ∷ 5 ∷ 8 ∷ [])
    ∷ but (truth (well_formed three_bytes (five ++ (1 ∷ [])))) (1 ∷ [])
    ∷ []

-- the refusal, and the store
abbrev defined : List ℕ → ℕ → List ℕ → List ℕ
defined s n body = define_refusal three_bytes s (pos n) (map pos body) ∷ store_after three_bytes s (pos n) (map pos body)

abbrev pub wrong-define : List Wrong
wrong-define =
    -- "Order: 12, 8, 13"
    but (defined (1 ∷ []) 32768 []) (8 ∷ 1 ∷ [])
    -- "Numbers 0..32767 (house rule), contents 0..127 .., else 8"
    ∷ but (defined (replicate 8 0) 5 (128 ∷ [])) (0 ∷ 0 ∷ 10 ∷ 1 ∷ 128 ∷ 0 ∷ 0 ∷ 0 ∷ 0 ∷ [])
    -- "A new body replaces the old one, and all room so freed counts"
    ∷ but (defined five 5 (1 ∷ 2 ∷ 3 ∷ 4 ∷ 5 ∷ [])) (13 ∷ five)
    -- refused, the store is as it was
    ∷ but (defined five 5 (1 ∷ 2 ∷ 3 ∷ 4 ∷ 5 ∷ 6 ∷ [])) (13 ∷ replicate 8 0)
    -- entries behind it move whole
    ∷ but (defined (0 ∷ 10 ∷ 1 ∷ 33 ∷ 0 ∷ 12 ∷ 3 ∷ 1 ∷ 2 ∷ 3 ∷ 0 ∷ []) 5 (33 ∷ 34 ∷ [])) (0 ∷ 0 ∷ 10 ∷ 2 ∷ 33 ∷ 34 ∷ 0 ∷ 0 ∷ 0 ∷ 0 ∷ 0 ∷ 0 ∷ [])
    -- "The rest of the store is all zeros"
    ∷ but (defined five 5 (1 ∷ [])) (0 ∷ 0 ∷ 10 ∷ 1 ∷ 1 ∷ 105 ∷ 0 ∷ 0 ∷ 0 ∷ [])
    -- "The body follows" its header
    ∷ but (defined (replicate 8 0) 5 (72 ∷ 105 ∷ [])) (0 ∷ 72 ∷ 105 ∷ 2 ∷ 0 ∷ 0 ∷ 0 ∷ 0 ∷ 0 ∷ [])
    -- "deleting what isn't there is done and changes nothing"
    ∷ but (defined five 4 []) (14 ∷ five)
    -- "at most 256 of them, else 8": 256 may be defined
    ∷ but (define_refusal three_bytes (replicate 259 0) (pos 5) (replicate 256 (pos 1)) ∷ []) (8 ∷ [])
    ∷ []

-- where the part points, the volatile store being at the front of block 1 and the saved one at that of block 2: the block, and the place in it
abbrev pointed : Placed → List ℕ → Wrong
pointed place wrong =
    let p : ℕ × ℕ = body_pointer place (1, 0) (2, 0) in
    but (p.0 ∷ p.1 ∷ []) wrong

abbrev pub wrong-look_up : List Wrong
wrong-look_up =
    -- "the body as part of the volatile store if it is there"
    but (looked_up three_bytes five other (pos 5)) (33 ∷ [])
    -- "an absent macro gives an empty part": no later one
    ∷ but (looked_up three_bytes five [] (pos 4)) (72 ∷ 105 ∷ [])
    -- "a malformed store .. gives an empty part": the saved one too
    ∷ but (looked_up three_bytes five (1 ∷ []) (pos 5)) (72 ∷ 105 ∷ [])
    -- "as part of the volatile store if it is there", where both hold equal bodies too
    ∷ pointed (placed three_bytes five five (pos 5)) (2 ∷ 3 ∷ [])
    -- "otherwise as part of the saved store"
    ∷ pointed (placed three_bytes [] five (pos 5)) (1 ∷ 3 ∷ [])
    -- of the body, and not of its entry
    ∷ pointed (placed three_bytes five five (pos 5)) (1 ∷ 0 ∷ [])
    ∷ []

-- the refusal, the store, where the body begins, its length
abbrev located : (volatile saved : List ℕ) → ℕ → List ℕ → Wrong
located v s n wrong =
    let p : Placed = placed three_bytes v s (pos n) in
    but (p.number ∷ p.store ∷ p.offset ∷ p.long ∷ []) wrong

abbrev pub wrong-locate : List Wrong
wrong-locate =
    -- where the body begins, and not its entry
    located five [] 5 (0 ∷ 1 ∷ 0 ∷ 2 ∷ [])
    -- "otherwise as part of the saved store": it is looked at, and named
    ∷ located [] five 5 (14 ∷ 0 ∷ 0 ∷ 0 ∷ [])
    ∷ located [] five 5 (0 ∷ 1 ∷ 3 ∷ 2 ∷ [])
    -- "part of the volatile store if it is there"
    ∷ located five other 5 (0 ∷ 2 ∷ 3 ∷ 1 ∷ [])
    -- "12, 8 or 14": an absent macro is 14
    ∷ located five [] 6 (8 ∷ 0 ∷ 0 ∷ 0 ∷ [])
    ∷ []

abbrev finding : (volatile saved : List ℕ) → ℕ → List ℕ → Wrong
finding v s n wrong = but (find_refusal three_bytes v s (pos n) ∷ []) wrong

abbrev pub wrong-found : List Wrong
wrong-found =
    -- "a companion answer says 12, 8 or 14 in that order"
    finding five (1 ∷ []) 32768 (8 ∷ [])
    ∷ finding five [] 6 (8 ∷ [])
    -- "otherwise as part of the saved store"; "No refusal is given but on its condition"
    ∷ finding [] five 5 (14 ∷ [])
    ∷ finding five [] 5 (14 ∷ [])
    ∷ []

abbrev pub wrong-look_by_headers : List Wrong
wrong-look_by_headers =
    -- no other macro's body: not the next one's, and of 15 bits of number none is lost
    but (looked_by_headers three_bytes five [] (pos 4)) (72 ∷ 105 ∷ [])
    ∷ but (looked_by_headers three_bytes five [] (pos 2)) (72 ∷ 105 ∷ [])
    -- from header to header, as long as the numbers are lower
    ∷ but (looked_by_headers three_bytes ((0 ∷ 8 ∷ 1 ∷ 33 ∷ []) ++ five) [] (pos 5)) []
    -- the volatile store first
    ∷ but (looked_by_headers three_bytes five other (pos 5)) (33 ∷ [])
    ∷ pointed (placed_by_headers three_bytes five five (pos 5)) (2 ∷ 3 ∷ [])
    -- "9 bits of body length": a body of 256 bytes is not empty
    ∷ but (looked_by_headers three_bytes longest [] (pos 5)) []
    ∷ []

-- ---- pieces

-- 0 none is left; 1 copied: the next start, what is remembered; 2 called: the number, the next start, what is remembered; 3 the trouble's number
abbrev piece_is : Pieced → List ℕ
piece_is end = (0 ∷ [])
piece_is (copied n k) = 1 ∷ n ∷ kept-is k
piece_is (called v n k) = 2 ∷ (signs v ++ (n ∷ kept-is k))
piece_is (trouble e) = (3 ∷ e ∷ [])

abbrev piece-from : Remembered → List ℕ → ℕ → List ℕ → Wrong
piece-from kept body start wrong = but (piece_is (piece_at kept body start)) wrong

abbrev piece : List ℕ → ℕ → List ℕ → Wrong
piece body start wrong = piece-from fresh_memory body start wrong

abbrev pub wrong-piece_at : List Wrong
wrong-piece_at =
    -- "KD and KO are copied and not obeyed", and KA is no call
    piece (27 ∷ 75 ∷ 68 ∷ 53 ∷ 48 ∷ []) 0 (2 ∷ 0 ∷ 5 ∷ 5 ∷ 0 ∷ 0 ∷ 0 ∷ [])
    ∷ piece (27 ∷ 75 ∷ 65 ∷ 53 ∷ []) 0 (2 ∷ 0 ∷ 5 ∷ 4 ∷ 0 ∷ 0 ∷ 0 ∷ [])
    -- 17: "macro body holds a refused or cut command": it is no end, and no text
    ∷ piece (27 ∷ []) 0 (0 ∷ [])
    ∷ piece (27 ∷ []) 0 (1 ∷ 1 ∷ 0 ∷ 0 ∷ 0 ∷ [])
    -- what is not read is no end of the body
    ∷ piece (65 ∷ []) 2 (0 ∷ [])
    -- a text byte takes one byte
    ∷ piece (65 ∷ []) 0 (1 ∷ 0 ∷ 0 ∷ 0 ∷ 0 ∷ [])
    -- "A count is an integer 0..256": an array of 256 is no trouble
    ∷ piece ((27 ∷ 82 ∷ 68 ∷ 80 ∷ 48 ∷ []) ++ replicate 256 48) 0 (3 ∷ 17 ∷ [])
    -- "copies a body's items": a DEL that is an item is one of them, and takes one byte
    ∷ piece-from padded (127 ∷ 65 ∷ []) 0 (3 ∷ 17 ∷ [])
    ∷ piece-from padded (127 ∷ 65 ∷ []) 0 (1 ∷ 2 ∷ 0 ∷ 0 ∷ 1 ∷ [])
    -- "a KI in a body holds from there on"
    ∷ piece ki_one 0 (1 ∷ 4 ∷ 0 ∷ 0 ∷ 0 ∷ [])
    -- "Macro bodies are read in the caller's mode": KX 5, and not KX 1013; and the other way round
    ∷ piece-from padded (pad_kx 5) 0 (2 ∷ 0 ∷ 1013 ∷ 5 ∷ 0 ∷ 0 ∷ 1 ∷ [])
    ∷ piece (pad_kx 5) 0 (2 ∷ 0 ∷ 5 ∷ 5 ∷ 0 ∷ 0 ∷ 0 ∷ [])
    ∷ []

-- ---- expansion: the refusal, bytes written, macros entered, where it is done what is then remembered, and the output

abbrev expanded : (volatile saved : List Entry) → ℤ → List ℕ → List ℕ
expanded v s n out = expanded-from fresh_memory v s n out

abbrev from_one : List ℕ → List ℕ → Wrong
from_one body wrong = but (expanded (macro 1 body ∷ []) [] (pos 1) (9 ∷ 9 ∷ 9 ∷ [])) wrong

-- 65, what macro 2 gives, 66
abbrev around : List ℕ
around = 65 ∷ (kx 2 ++ (66 ∷ []))

abbrev pub wrong-expand : List Wrong
wrong-expand =
    -- "An absent nested macro gives nothing and isn't entered"
    from_one around (0 ∷ 2 ∷ 2 ∷ 0 ∷ 0 ∷ 0 ∷ 65 ∷ 66 ∷ 9 ∷ [])
    -- 17: "macro body holds a refused or cut command"
    ∷ from_one (65 ∷ 27 ∷ []) (0 ∷ 1 ∷ 1 ∷ 0 ∷ 0 ∷ 0 ∷ 65 ∷ 9 ∷ 9 ∷ [])
    -- one "that invents its .. macro count"; "the starting macro .. counts as the first entered"
    ∷ but (expanded (macro 1 around ∷ macro 2 (67 ∷ []) ∷ []) [] (pos 1) (9 ∷ 9 ∷ 9 ∷ [])) (0 ∷ 3 ∷ 1 ∷ 0 ∷ 0 ∷ 0 ∷ 65 ∷ 67 ∷ 66 ∷ [])
    -- 15: "macro call inside a body at depth 8"; "a negative number is 8, then 15"
    ∷ but (expanded (chain (kx 9)) [] (pos 1) (9 ∷ 9 ∷ 9 ∷ [])) (0 ∷ 0 ∷ 8 ∷ 0 ∷ 0 ∷ 0 ∷ 9 ∷ 9 ∷ 9 ∷ [])
    ∷ but (expanded (chain kx_negative) [] (pos 1) (9 ∷ 9 ∷ 9 ∷ [])) (15 ∷ 0 ∷ 0 ∷ 9 ∷ 9 ∷ 9 ∷ [])
    -- 7: ".. output too short for the whole result": one that just fits is not, and refused it is unchanged
    ∷ from_one (65 ∷ 66 ∷ 67 ∷ []) (7 ∷ 0 ∷ 0 ∷ 9 ∷ 9 ∷ 9 ∷ [])
    ∷ from_one (65 ∷ 65 ∷ 65 ∷ 65 ∷ []) (7 ∷ 0 ∷ 0 ∷ 65 ∷ 65 ∷ 65 ∷ [])
    -- "Refusal 7 comes last, only when nothing else is wrong"
    ∷ but (expanded (macro 1 (65 ∷ 27 ∷ []) ∷ []) [] (pos 1) []) (7 ∷ 0 ∷ 0 ∷ [])
    -- "the start first gives 12 (volatile store first), 8, 14"
    ∷ but (expanded [] (macro 1 [] ∷ []) (pos 32768) (9 ∷ 9 ∷ 9 ∷ [])) (8 ∷ 0 ∷ 0 ∷ 9 ∷ 9 ∷ 9 ∷ [])
    -- one "that refuses all input", and one "that writes nothing"
    ∷ from_one (65 ∷ []) (7 ∷ 0 ∷ 0 ∷ 9 ∷ 9 ∷ 9 ∷ [])
    ∷ from_one (65 ∷ []) (0 ∷ 1 ∷ 1 ∷ 0 ∷ 0 ∷ 0 ∷ 9 ∷ 9 ∷ 9 ∷ [])
    -- "a KI in a body holds from there on": behind the expansion, and in the body that called it
    ∷ but (expanded (macro 1 ki_one ∷ []) [] (pos 1) (replicate 4 9)) (0 ∷ 4 ∷ 1 ∷ 0 ∷ 0 ∷ 0 ∷ 27 ∷ 75 ∷ 73 ∷ 49 ∷ [])
    ∷ but (expanded (macro 1 (kx 2 ++ pad_kx 3) ∷ macro 2 ki_one ∷ macro 3 (67 ∷ []) ∷ []) [] (pos 1) (replicate 5 9)) (0 ∷ 4 ∷ 2 ∷ 0 ∷ 0 ∷ 1 ∷ 27 ∷ 75 ∷ 73 ∷ 49 ∷ 9 ∷ [])
    -- "copies a body's items": a DEL is one, and is not left out
    ∷ but (expanded-from padded (macro 1 (65 ∷ 127 ∷ 66 ∷ []) ∷ []) [] (pos 1) (9 ∷ 9 ∷ 9 ∷ [])) (0 ∷ 2 ∷ 1 ∷ 0 ∷ 0 ∷ 1 ∷ 65 ∷ 66 ∷ 9 ∷ [])
    ∷ but (expanded (macro 1 (ki_one ++ (127 ∷ [])) ∷ []) [] (pos 1) (replicate 5 9)) (0 ∷ 4 ∷ 1 ∷ 0 ∷ 0 ∷ 1 ∷ 27 ∷ 75 ∷ 73 ∷ 49 ∷ 9 ∷ [])
    -- "Macro bodies are read in the caller's mode": not in a fresh one, and not in that of KI 1 where none came
    ∷ but (expanded-from padded (macro 1 (pad_kx 2) ∷ macro 2 (67 ∷ []) ∷ []) [] (pos 1) (9 ∷ 9 ∷ 9 ∷ [])) (0 ∷ 0 ∷ 1 ∷ 0 ∷ 0 ∷ 1 ∷ 9 ∷ 9 ∷ 9 ∷ [])
    ∷ but (expanded (macro 1 (pad_kx 2) ∷ macro 2 (67 ∷ []) ∷ []) [] (pos 1) (9 ∷ 9 ∷ 9 ∷ [])) (0 ∷ 1 ∷ 2 ∷ 0 ∷ 0 ∷ 0 ∷ 67 ∷ 9 ∷ 9 ∷ [])
    -- 17: "macro body holds a .. cut command": LT of one 127, in that mode alone
    ∷ but (expanded-from padded (macro 1 (27 ∷ 76 ∷ 84 ∷ 49 ∷ 127 ∷ []) ∷ []) [] (pos 1) (replicate 5 9)) (0 ∷ 5 ∷ 1 ∷ 0 ∷ 0 ∷ 1 ∷ 27 ∷ 76 ∷ 84 ∷ 49 ∷ 127 ∷ [])
    ∷ but (expanded (macro 1 (27 ∷ 76 ∷ 84 ∷ 49 ∷ 127 ∷ []) ∷ []) [] (pos 1) (replicate 5 9)) (17 ∷ 0 ∷ 0 ∷ 9 ∷ 9 ∷ 9 ∷ 9 ∷ 9 ∷ [])
    -- what is remembered is the caller's: a point outside 0..4095 is 8, behind 12
    ∷ but (expanded-from (from 4096 0) (macro 1 (65 ∷ []) ∷ []) [] (pos 1) (9 ∷ 9 ∷ 9 ∷ [])) (0 ∷ 1 ∷ 1 ∷ 4096 ∷ 0 ∷ 0 ∷ 65 ∷ 9 ∷ 9 ∷ [])
    ∷ but (expanded-from (from 4096 0) [] (macro 1 [] ∷ []) (pos 1) (9 ∷ 9 ∷ 9 ∷ [])) (8 ∷ 0 ∷ 0 ∷ 9 ∷ 9 ∷ 9 ∷ [])
    ∷ but (expanded-from (from 5 6) (macro 1 (65 ∷ []) ∷ []) [] (pos 1) (9 ∷ 9 ∷ 9 ∷ [])) (0 ∷ 1 ∷ 1 ∷ 0 ∷ 0 ∷ 0 ∷ 65 ∷ 9 ∷ 9 ∷ [])
    ∷ []

-- ---- the exported calls: the number, the slots, and what is lent

abbrev pub wrong-ardh_define : List Wrong
wrong-ardh_define =
    -- the number that is handed in; "0 means done"
    but (defined (replicate 8 0) 5 (72 ∷ 105 ∷ [])) (0 ∷ 0 ∷ 0 ∷ 2 ∷ 72 ∷ 105 ∷ 0 ∷ 0 ∷ 0 ∷ [])
    ∷ but (defined (replicate 8 0) 5 (72 ∷ 105 ∷ [])) (13 ∷ five)
    ∷ []

abbrev place-slots : (volatile saved : List ℕ) → ℕ → List ℕ → Wrong
place-slots v s n wrong =
    let p : Placed = placed three_bytes v s (pos n) in
    but (p.number ∷ place_fields p) wrong

abbrev pub wrong-ardh_look_up : List Wrong
wrong-ardh_look_up =
    -- where its first byte is; "otherwise as part of the saved store"
    place-slots five [] 5 (0 ∷ 1 ∷ 0 ∷ 2 ∷ [])
    ∷ place-slots [] five 5 (0 ∷ 1 ∷ 3 ∷ 2 ∷ [])
    ∷ []

abbrev expand_slots : (before : List ℕ) → (volatile saved : List Entry) → (out : List ℕ) → List ℕ → Wrong
expand_slots before v s out wrong =
    let t : Answer Expanded = expand_told (encoded three_bytes v) (encoded three_bytes s) (pos 1) (kept_in before) (length out) in
    but (number t ∷ (count_fields t ++ (slots_behind before t ++ expand_out (encoded three_bytes v) (encoded three_bytes s) (pos 1) (kept_in before) out))) wrong

abbrev pub wrong-ardh_expand : List Wrong
wrong-ardh_expand =
    -- one "that invents its .. macro count"
    expand_slots (0 ∷ 0 ∷ 0 ∷ []) (macro 1 around ∷ macro 2 (67 ∷ []) ∷ []) [] (9 ∷ 9 ∷ 9 ∷ []) (0 ∷ 3 ∷ 1 ∷ 0 ∷ 0 ∷ 0 ∷ 65 ∷ 67 ∷ 66 ∷ [])
    -- "volatile store first"
    ∷ expand_slots (0 ∷ 0 ∷ 0 ∷ []) (macro 1 (65 ∷ []) ∷ []) (macro 1 (68 ∷ []) ∷ []) (9 ∷ 9 ∷ 9 ∷ []) (0 ∷ 1 ∷ 1 ∷ 0 ∷ 0 ∷ 0 ∷ 68 ∷ 9 ∷ 9 ∷ [])
    -- "a KI in a body holds from there on": it is handed back
    ∷ expand_slots (0 ∷ 0 ∷ 0 ∷ []) (macro 1 ki_one ∷ []) [] (9 ∷ 9 ∷ 9 ∷ 9 ∷ []) (0 ∷ 4 ∷ 1 ∷ 0 ∷ 0 ∷ 0 ∷ 27 ∷ 75 ∷ 73 ∷ 49 ∷ [])
    -- "Macro bodies are read in the caller's mode"
    ∷ expand_slots (0 ∷ 0 ∷ 1 ∷ []) (macro 1 (pad_kx 2) ∷ macro 2 (67 ∷ []) ∷ []) [] (9 ∷ 9 ∷ 9 ∷ []) (0 ∷ 0 ∷ 1 ∷ 0 ∷ 0 ∷ 1 ∷ 9 ∷ 9 ∷ 9 ∷ [])
    -- 8: "value out of range" for a mode that is neither 0 nor 1; refused, the slots are as they came
    ∷ expand_slots (0 ∷ 0 ∷ 2 ∷ []) (macro 1 (65 ∷ []) ∷ []) [] (9 ∷ 9 ∷ 9 ∷ []) (0 ∷ 1 ∷ 1 ∷ 0 ∷ 0 ∷ 2 ∷ 65 ∷ 9 ∷ 9 ∷ [])
    ∷ expand_slots (5 ∷ 6 ∷ 1 ∷ []) (macro 1 (27 ∷ []) ∷ []) [] (9 ∷ 9 ∷ 9 ∷ []) (17 ∷ 0 ∷ 0 ∷ 0 ∷ 0 ∷ 0 ∷ 9 ∷ 9 ∷ 9 ∷ [])
    ∷ []

-- ---- all of them

abbrev pub column_of_macros : List Wrong
column_of_macros =
    joined
    (wrong-is_well_formed
    ∷ wrong-inspect
    ∷ wrong-define
    ∷ wrong-look_up
    ∷ wrong-locate
    ∷ wrong-found
    ∷ wrong-look_by_headers
    ∷ wrong-piece_at
    ∷ wrong-expand
    ∷ wrong-ardh_define
    ∷ wrong-ardh_look_up
    ∷ wrong-ardh_expand
    ∷ [])
