-- Bytes that are written.
use Rattle.std.specs.Prelude.{◌≡◌, ℕ, ◌+◌, ◌-◌, min, Bool, true, false, List, [], ◌∷◌, ◌++◌, length, leb, eqb, Result}
use Rattle.std.proofs.lemmas.List.Edits.{sets}
use Rattle.memory.specs.declared.DelMode.{DelMode}
use Rattle.memory.specs.declared.DelMode.TheVariants.{Data, Filler}
use Rattle.memory.specs.declared.Remembered.{Remembered}
use Rattle.refusals.specs.declared.Refusal.{Refusal}
use Rattle.refusals.specs.Answers.{Answer, done, refused, answer_of, pick}

-- "the writer in that mode writes it so": a 127 as the pair 27 63
abbrev pub paired : ℕ → List ℕ
paired b = pick (eqb b 127) (27 ∷ 63 ∷ []) (b ∷ [])

-- a parameter's bytes as they are sent: where a plain 127 is data, each as itself, "the writer writes 127"
unfoldable pub sent_in : DelMode → List ℕ → List ℕ
sent_in Data w = w
sent_in Filler [] = []
sent_in Filler (b ∷ w) = paired b ++ sent_in Filler w

unfoldable pub sent : Remembered → List ℕ → List ℕ
sent kept w = sent_in kept.mode w

-- whether each byte is sent as itself, whatever it is
unfoldable pub plain_in : DelMode → Bool
plain_in Data = true
plain_in Filler = false

unfoldable pub is_plain : Remembered → Bool
is_plain kept = plain_in kept.mode

-- where so many bytes from at on end in so much room, or 7
unfoldable pub room_for : ℕ → ℕ → ℕ → Answer ℕ
room_for size room at = pick (leb (at + size) room) (done (at + size)) (refused 7 0)

-- how many of so many bytes from at on there is room for
abbrev pub in_room : ℕ → ℕ → ℕ → ℕ
in_room size room at = min size (room - at)

-- w from at on in so much room: all of it, or 7
unfoldable pub write_at : List ℕ → ℕ → ℕ → Answer ℕ
write_at w room at = room_for (length w) room at

-- "8 for .. a value .. outside its range .. then 7"
unfoldable pub write_if : (inside : Bool) → List ℕ → ℕ → ℕ → Answer ℕ
write_if inside w room at = pick inside (write_at w room at) (refused 8 0)

-- the lent bytes after an answer: w stands in them from at on and the rest is as it was, or nothing has changed
unfoldable pub after_write : Answer ℕ → List ℕ → List ℕ → ℕ → List ℕ
after_write (done n) w l at = sets l at w
after_write (refused e p) w l at = l

-- bytes are poured: how many they are, and that they stand from at on, as far as there is room
abbrev pub Pours : List ℕ → List ℕ → ℕ → ℕ → List ℕ → Type 0
Pours w l at n o = (n ≡ length w) × (o ≡ sets l at w)

-- a writing of w is told so, and the lent bytes are those behind what it tells
abbrev pub Wrote : List ℕ → Answer ℕ → List ℕ → ℕ → Result ℕ Refusal → List ℕ → Type 0
Wrote w told l at r o = (answer_of r ≡ told) × (o ≡ after_write (answer_of r) w l at)

-- what is poured: all of it where it is inside its range, and nothing where it is not
unfoldable pub poured : (inside : Bool) → List ℕ → List ℕ
poured inside w = pick inside w []
