-- "Outside commands each byte but 27 is a text item." After KI 1 a plain 127 there "makes an item of its own between commands". "A refused command ends at its place, the index given in the answer. If the byte there
-- is 27, reading starts again on it; otherwise bytes are passed over up to the next 27 and belong to the refused item."
use Rattle.std.specs.Prelude.{ℕ, ◌+◌, Bool, false, not, List, length, get_or, ltb, eqb, ℤ}
use Rattle.std.proofs.lemmas.List.Edits.{sets}
use Rattle.memory.specs.declared.DelMode.{DelMode}
use Rattle.memory.specs.declared.DelMode.TheVariants.{Data, Filler}
use Rattle.memory.specs.declared.Remembered.{Remembered}
use Rattle.memory.specs.Memory.{inside}
use Rattle.refusals.specs.Refusals.{number_of}
use Rattle.refusals.specs.Answers.{Answer, done, refused, pick, past_front}
use Rattle.wire.specs.Taking.{is_del}
use Rattle.commands.specs.Reading.{Meaning, ToldCommand, tell, tell_taken, command_at}
use Rattle.stream.specs.declared.Item.{Item}
use Rattle.stream.specs.declared.Item.TheVariants.{Nothing, Text, Del}

-- an item: none is left; a text byte and the next start; a DEL, and the next start; a command; a refused command with its number, its place, the next start and
-- what is remembered; or no item at all, for a number and its place
pub data Itemed (A : Type 0) : Type 0 where
  nothing : Itemed A
  text : ℕ → ℕ → Itemed A
  del : ℕ → Itemed A
  command : A → Itemed A
  refused_command : ℕ → ℕ → ℕ → Remembered → Itemed A
  refused_call : ℕ → ℕ → Itemed A

-- "bytes are passed over up to the next 27": where it stands from at on, or the end
abbrev pub no_escape : ℕ → Bool
no_escape b = not (eqb b 27)

unfoldable pub passed_from : List ℕ → ℕ → ℕ
passed_from s at = past_front no_escape s at

-- a DEL that makes an item of its own
unfoldable pub is_filler : DelMode → ℕ → Bool
is_filler Data b = false
is_filler Filler b = is_del b

-- a byte outside commands, and the next start
abbrev pub byte_item : DelMode → ℕ → ℕ → Itemed Meaning
byte_item mode b next = pick (is_filler mode b) (del next) (text b next)

-- a command that was read, or refused: 7 "makes no item", "nothing is passed over"; "The remembered point after a refused command is that
-- before it."
abbrev pub as_item : Remembered → List ℕ → Answer Meaning → Itemed Meaning
as_item kept s (done m) = command m
as_item kept s (refused e p) = pick (eqb e 7) (refused_call e p) (refused_command e p (passed_from s p) kept)

unfoldable pub command_item : Remembered → List ℕ → ℕ → ℕ → Itemed Meaning
command_item kept s start room = as_item kept s (command_at kept s start room)

-- "Reading: first 8, with place 0, for a start past the end or a remembered point outside 0..4095; a start at the end answers that no item
-- is left."
unfoldable pub item_at : Remembered → List ℕ → ℕ → ℕ → Itemed Meaning
item_at kept s start room =
    pick (ltb (length s) start)
    (refused_call 8 0)
    (pick (inside kept.point)
    (pick (ltb start (length s))
    (pick (eqb (get_or s start 0) 27) (command_item kept s start room) (byte_item kept.mode (get_or s start 0) (start + 1)))
    nothing)
    (refused_call 8 0))

-- ---- what the answer says, and the lent list behind it

unfoldable pub told_item : Itemed Meaning → Itemed ToldCommand
told_item nothing = nothing
told_item (text b n) = text b n
told_item (del n) = del n
told_item (command m) = command (tell m)
told_item (refused_command e p n k) = refused_command e p n k
told_item (refused_call e p) = refused_call e p

unfoldable pub item_of : Item → Itemed ToldCommand
item_of Nothing = nothing
item_of (Text t) = text t.byte t.next
item_of (Del d) = del d.next
item_of (Item.Command t) = command (tell_taken t)
item_of (Item.RefusedCommand r) = refused_command (number_of r.refusal) r.place r.next r.kept
item_of (Item.Refused e) = refused_call (number_of e.refusal) e.place

unfoldable pub after_item : Itemed Meaning → List ℤ → List ℤ
after_item nothing l = l
after_item (text b n) l = l
after_item (del n) l = l
after_item (command m) l = sets l 0 m.entries
after_item (refused_command e p n k) l = l
after_item (refused_call e p) l = l

-- ---- what comes behind an item

-- where the next item starts: where this one ends
unfoldable pub next_start : ℕ → Itemed ToldCommand → ℕ
next_start start nothing = start
next_start start (text b n) = n
next_start start (del n) = n
next_start start (command c) = c.next
next_start start (refused_command e p n before) = n
next_start start (refused_call e p) = start

-- what is remembered there: "The remembered point after a refused command is that before it."
unfoldable pub next_kept : Remembered → Itemed ToldCommand → Remembered
next_kept kept nothing = kept
next_kept kept (text b n) = kept
next_kept kept (del n) = kept
next_kept kept (command c) = c.kept
next_kept kept (refused_command e p n before) = before
next_kept kept (refused_call e p) = kept
