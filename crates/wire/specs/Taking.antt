-- A parameter's next byte.
use Rattle.std.specs.Prelude.{ℕ, ◌+◌, Bool, ◌&&◌, List, length, get_or, leb, ltb, eqb}
use Rattle.memory.specs.declared.DelMode.{DelMode}
use Rattle.memory.specs.declared.DelMode.TheVariants.{Data, Filler}
use Rattle.memory.specs.declared.Remembered.{Remembered}
use Rattle.refusals.specs.declared.Taken.{Taken}
use Rattle.refusals.specs.Answers.{Answer, done, refused, pick, past_front}

-- a DEL
abbrev pub is_del : ℕ → Bool
is_del b = eqb b 127

-- "After KI 1 each plain 127 .. is passed over": where the next byte stands from at on
unfoldable pub past_dels : DelMode → List ℕ → ℕ → ℕ
past_dels Data s at = at
past_dels Filler s at = past_front is_del s at

-- the byte behind the ESC at esc stands at place. "In a parameter, ESC followed by 63 reads as 127", "for the pair 27 63 the place is that of the
-- 63"; "27 at the end of the bytes is 1; 27 before another byte than 63 is 6 at the 27"
unfoldable pub pair_at : List ℕ → (esc place : ℕ) → Answer (Taken ℕ)
pair_at s esc place =
    pick (ltb place (length s))
    (pick (eqb (get_or s place 0) 63) (done (record { value = 127; place = place; next = place + 1 })) (refused 6 esc))
    (refused 1 (length s))

-- any other byte is 32..127, or not allowed
abbrev pub plain_at : ℕ → ℕ → Answer (Taken ℕ)
plain_at b at =
    pick (ltb b 32) (refused 3 at) (pick (ltb 127 b) (refused 3 at) (done (record { value = b; place = at; next = at + 1 })))

-- the byte that stands at at; "A 127 between the two bytes of a pair is passed over too."
unfoldable pub found_at : DelMode → List ℕ → ℕ → Answer (Taken ℕ)
found_at mode s at =
    pick (ltb at (length s))
    (pick (eqb (get_or s at 0) 27) (pair_at s at (past_dels mode s (at + 1))) (plain_at (get_or s at 0) at))
    (refused 1 (length s))

unfoldable pub byte_at : Remembered → List ℕ → ℕ → Answer (Taken ℕ)
byte_at kept s at = found_at kept.mode s (past_dels kept.mode s at)

-- the highest byte that is taken as it stands: a DEL only where it is data. The quick way of reading goes by this; what a byte is taken as does not.
unfoldable pub most_itself : DelMode → ℕ
most_itself Data = 127
most_itself Filler = 126

unfoldable pub is_itself : DelMode → ℕ → Bool
is_itself mode b = leb 32 b && leb b (most_itself mode)
