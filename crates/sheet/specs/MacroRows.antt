-- The paper's values for a store, further ones, and small expansions. KX is 27 75 88 and an integer; an entry of a store is three bytes of header and the body.
use Rattle.std.specs.Prelude.{ℕ, ◌+◌, List, [], ◌∷◌, ◌++◌, map, length, replicate, ℤ, pos}
use Rattle.memory.specs.declared.Remembered.{Remembered}
use Rattle.memory.specs.Memory.{fresh_memory}
use Rattle.refusals.specs.Answers.{Answer, done, refused}
use Rattle.macros.specs.Store.{Entry, three_bytes, encoded, looked_up, find_refusal, Placed, placed}
use Rattle.defining.specs.Defining.{define_refusal, store_after}
use Rattle.expansion.specs.declared.Expanded.{Expanded}
use Rattle.expansion.specs.Expansion.{expand_told, expand_out}
use Rattle.sheet.specs.Rows.{SheetRow, padded, kept-is}

-- ---- stores

-- macro 5 with the body 72 105 in eight bytes, and with the body 33 in four
abbrev pub five : List ℕ
five = (0 ∷ 10 ∷ 2 ∷ 72 ∷ 105 ∷ 0 ∷ 0 ∷ 0 ∷ [])

abbrev pub other : List ℕ
other = (0 ∷ 10 ∷ 1 ∷ 33 ∷ [])

-- the refusal of a define, and the store after it
abbrev define : List ℕ → ℕ → List ℕ → (number : ℕ) → (after : List ℕ) → SheetRow
define s n body number after = record {
  given = define_refusal three_bytes s (pos n) (map pos body) ∷ store_after three_bytes s (pos n) (map pos body);
  paper = number ∷ after;
}

-- the companion answer of a look up, and the body
abbrev look_up : (volatile saved : List ℕ) → ℕ → (number : ℕ) → List ℕ → SheetRow
look_up v s n number body = record {
  given = find_refusal three_bytes v s (pos n) ∷ looked_up three_bytes v s (pos n);
  paper = number ∷ body;
}

-- where the body stands: the companion answer, the store, where it begins, its length
abbrev locate : (volatile saved : List ℕ) → ℕ → (number store offset long : ℕ) → SheetRow
locate v s n number store offset long =
    let p : Placed = placed three_bytes v s (pos n) in
    record { given = (p.number ∷ p.store ∷ p.offset ∷ p.long ∷ []); paper = (number ∷ store ∷ offset ∷ long ∷ []) }

-- "macro 5 with body 72 105 in eight zero bytes gives 0 10 2 72 105 0 0 0, and then six more bytes of entry give 13"
abbrev pub store-examples : List SheetRow
store-examples =
    define (replicate 8 0) 5 (72 ∷ 105 ∷ []) 0 five
    ∷ define five 6 (1 ∷ 2 ∷ 3 ∷ []) 13 five
    ∷ define five 4 (1 ∷ 2 ∷ 3 ∷ []) 13 five
    ∷ define five 5 (1 ∷ 2 ∷ 3 ∷ 4 ∷ 5 ∷ []) 0 (0 ∷ 10 ∷ 5 ∷ 1 ∷ 2 ∷ 3 ∷ 4 ∷ 5 ∷ [])
    ∷ define five 5 [] 0 (replicate 8 0)
    ∷ define five 4 [] 0 five
    ∷ define five 32768 [] 8 five
    ∷ define (1 ∷ []) 32768 [] 12 (1 ∷ [])
    ∷ look_up five other 5 0 (72 ∷ 105 ∷ [])
    ∷ look_up [] five 5 0 (72 ∷ 105 ∷ [])
    ∷ look_up five [] 6 14 []
    ∷ look_up five [] 32768 8 []
    ∷ look_up five (1 ∷ []) 32768 12 []
    ∷ locate five other 5 0 1 3 2
    ∷ locate [] ((0 ∷ 8 ∷ 1 ∷ 33 ∷ []) ++ five) 5 0 2 7 2
    ∷ locate five [] 6 14 0 0 0
    ∷ []

-- ---- expansions

abbrev pub macro : ℕ → List ℕ → Entry
macro n body = record { number = n; body = body }

-- a call of the macros 0 to 15, and of -1
abbrev pub kx : ℕ → List ℕ
kx n = 27 ∷ 75 ∷ 88 ∷ (48 + n) ∷ []

abbrev pub kx_negative : List ℕ
kx_negative = (27 ∷ 75 ∷ 88 ∷ 33 ∷ [])

-- a call with a 127 before its number, and KI 1
abbrev pub pad_kx : ℕ → List ℕ
pad_kx n = 27 ∷ 75 ∷ 88 ∷ 127 ∷ (48 + n) ∷ []

abbrev pub ki_one : List ℕ
ki_one = (27 ∷ 75 ∷ 73 ∷ 49 ∷ [])

-- the macros 1 to 8, each calling the next; the last has this body
abbrev pub chain : List ℕ → List Entry
chain last =
    (macro 1 (kx 2) ∷ macro 2 (kx 3) ∷ macro 3 (kx 4) ∷ macro 4 (kx 5) ∷ macro 5 (kx 6) ∷ macro 6 (kx 7) ∷ macro 7 (kx 8) ∷ macro 8 last ∷ [])

-- an expansion: 0, bytes written, macros entered and what is then remembered, or the refusal and 0 for each of the two
abbrev expansion_is : Answer Expanded → List ℕ
expansion_is (done t) = 0 ∷ t.written ∷ t.entered ∷ kept-is t.kept
expansion_is (refused e p) = e ∷ 0 ∷ 0 ∷ []

-- and the output behind it
abbrev pub expanded-from : Remembered → (volatile saved : List Entry) → ℤ → (out : List ℕ) → List ℕ
expanded-from kept v s n out =
    expansion_is (expand_told (encoded three_bytes v) (encoded three_bytes s) n kept (length out)) ++ expand_out (encoded three_bytes v) (encoded three_bytes s) n kept out

-- a macro expanded from a volatile and a saved store into three bytes 9: bytes written, macros entered, and the output; what is remembered stays
abbrev expands : (volatile saved : List Entry) → ℤ → (written entered : ℕ) → List ℕ → SheetRow
expands v s n written entered out = record {
  given = expanded-from fresh_memory v s n (replicate 3 9);
  paper = 0 ∷ written ∷ entered ∷ (kept-is fresh_memory ++ out);
}

-- and one that is refused: the output is as it was
abbrev refuses : (volatile saved : List Entry) → ℤ → (number : ℕ) → SheetRow
refuses v s n number = record { given = expanded-from fresh_memory v s n (replicate 3 9); paper = number ∷ 0 ∷ 0 ∷ replicate 3 9 }

abbrev pub expansion_examples : List SheetRow
expansion_examples =
    -- a nested macro, from either store; the volatile one first
    expands (macro 1 (65 ∷ (kx 2 ++ (66 ∷ []))) ∷ macro 2 (67 ∷ []) ∷ []) [] (pos 1) 3 2 (65 ∷ 67 ∷ 66 ∷ [])
    ∷ expands (macro 1 (65 ∷ kx 2) ∷ []) (macro 1 (68 ∷ []) ∷ macro 2 (67 ∷ []) ∷ []) (pos 1) 2 2 (65 ∷ 67 ∷ 9 ∷ [])
    -- an absent nested macro gives nothing and isn't entered
    ∷ expands (macro 1 (65 ∷ (kx 2 ++ (66 ∷ []))) ∷ []) [] (pos 1) 2 1 (65 ∷ 66 ∷ 9 ∷ [])
    -- too short, and another trouble first
    ∷ refuses (macro 1 (65 ∷ 65 ∷ 65 ∷ 65 ∷ []) ∷ []) [] (pos 1) 7
    ∷ refuses (macro 1 (65 ∷ 65 ∷ 65 ∷ 65 ∷ 27 ∷ []) ∷ []) [] (pos 1) 17
    -- the start
    ∷ refuses [] [] (pos 1) 14
    ∷ refuses [] [] (pos 32768) 8
    ∷ refuses [] (macro 1 [] ∷ []) (pos 32768) 12
    -- refused and cut commands, and which trouble is the first
    ∷ refuses (macro 1 (65 ∷ 27 ∷ 90 ∷ []) ∷ []) [] (pos 1) 17
    ∷ refuses (macro 1 (kx_negative ++ (27 ∷ [])) ∷ []) [] (pos 1) 8
    ∷ refuses (macro 1 (kx 2 ++ kx_negative) ∷ macro 2 (27 ∷ []) ∷ []) [] (pos 1) 17
    -- depth 8, and a call inside it
    ∷ expands (chain (65 ∷ [])) [] (pos 1) 1 8 (65 ∷ 9 ∷ 9 ∷ [])
    ∷ refuses (chain (kx 9)) [] (pos 1) 15
    ∷ refuses (chain kx_negative) [] (pos 1) 8
    ∷ refuses (macro 1 (kx 1) ∷ []) [] (pos 1) 15
    -- "Macro bodies are read in the caller's mode, and a KI in a body holds from there on": a KX with a 127 in it calls macro 2 behind KI 1, and macro 1010,
    -- which is absent, before it
    ∷ record { given = expanded-from padded (macro 1 (pad_kx 2) ∷ macro 2 (67 ∷ []) ∷ []) [] (pos 1) (replicate 3 9); paper = 0 ∷ 1 ∷ 2 ∷ (kept-is padded ++ (67 ∷ 9 ∷ 9 ∷ [])) }
    ∷ expands (macro 1 (pad_kx 2) ∷ macro 2 (67 ∷ []) ∷ []) [] (pos 1) 0 1 (9 ∷ 9 ∷ 9 ∷ [])
    -- into the body that called it, and behind the expansion
    ∷ record { given = expanded-from fresh_memory (macro 1 (kx 2 ++ pad_kx 3) ∷ macro 2 ki_one ∷ macro 3 (67 ∷ []) ∷ []) [] (pos 1) (replicate 5 9); paper = 0 ∷ 5 ∷ 3 ∷ (kept-is padded ++ (ki_one ++ (67 ∷ []))) }
    -- a DEL that is an item is copied as others are
    ∷ record { given = expanded-from padded (macro 1 (65 ∷ 127 ∷ 66 ∷ []) ∷ []) [] (pos 1) (replicate 3 9); paper = 0 ∷ 3 ∷ 1 ∷ (kept-is padded ++ (65 ∷ 127 ∷ 66 ∷ [])) }
    ∷ []
