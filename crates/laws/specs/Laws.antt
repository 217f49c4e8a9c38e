-- What the laws of whole commands say, over the items that reading gives. Demand 2: "A writable command, written and read again from the same remembered
-- point, comes back with the same remembered point after it. No spelling that reads as that command from that point is shorter." Since K2 it "reads 'from
-- the same point and mode'": what is remembered is both. Demand 1: "Every input is answered: all byte strings". proofs/ proves it.
use Rattle.std.specs.Prelude.{ℕ, zero, suc, ◌+◌, ◌≤◌, ◌<◌, ◌≡◌, List, [], length, take, ℤ}
use Rattle.memory.specs.declared.Remembered.{Remembered}
use Rattle.refusals.specs.Answers.{done}
use Rattle.wire.specs.Sending.{after_write}
use Rattle.parameters.specs.Shapes.{Tailed, no_list, list_of, values_of, tail_of}
use Rattle.commands.specs.declared.Command.{Command}
use Rattle.commands.specs.Reading.{Meaning}
use Rattle.commands.specs.Behind.{after_command}
use Rattle.writing.specs.Writing.{spell_command}
use Rattle.stream.specs.Items.{Itemed, nothing, text, del, command, refused_command, refused_call, item_at}

-- ---- the round trip

-- the entries that go with a tail
abbrev pub carried : Tailed → List ℤ → List ℤ
carried no_list es = []
carried (list_of e) es = es

-- the item that starts at start, read in so much room, is the command c with its entries es, and takes n bytes
pub record Back (kept : Remembered) (c : Command) (es : List ℤ) (n : ℕ) (s : List ℕ) (start room : ℕ) : Type 0 where
  pub read : Meaning
  pub whole : item_at kept s start room ≡ command read
  pub first-is : read.first ≡ c.first
  pub second_is : read.second ≡ c.second
  pub values-are : read.values ≡ values_of c.parameters
  pub tail-is : read.tail ≡ tail_of c.parameters
  pub entries-are : read.entries ≡ carried (tail_of c.parameters) es
  pub count-is : read.count ≡ length (carried (tail_of c.parameters) es)
  pub next-is : read.next ≡ start + n
  pub kept-is : read.kept ≡ after_command kept c.first c.second (values_of c.parameters)

-- the bytes that `write_command` gives: so many of the lent ones as it leaves them
abbrev pub given : Remembered → Command → List ℤ → (out : List ℕ) → (n : ℕ) → List ℕ
given kept c es out n = take n (after_write (done n) (spell_command kept c es) out 0)

-- ---- the shortest spelling

-- a command that says what was read
pub record SaysSo (c : Command) (m : Meaning) : Type 0 where
  pub first-is : c.first ≡ m.first
  pub second_is : c.second ≡ m.second
  pub values-are : values_of c.parameters ≡ m.values
  pub tail-is : tail_of c.parameters ≡ m.tail

-- what was read from start on took no fewer bytes than the writer gives
abbrev pub NoShorter : Remembered → (start : ℕ) → Command → Meaning → Type 0
NoShorter kept start c m = start + length (spell_command kept c m.entries) ≤ m.next

-- ---- the partition

-- an item, and the rest behind it: where none is left the bytes are at their end; a refused command has a number of 1 to 6 and a place behind its
-- ESC, and leaves what is remembered; what makes no item holds reading up, where `held` lets its number
unfoldable pub Onward : (held : ℕ → Type 0) → (rest : Remembered → ℕ → Type 0) → List ℕ → Remembered → ℕ → Itemed Meaning → Type 0
Onward held rest s kept start nothing = start ≡ length s
Onward held rest s kept start (text b n) = ((n ≡ start + 1) × (n ≤ length s)) × rest kept n
Onward held rest s kept start (del n) = ((n ≡ start + 1) × (n ≤ length s)) × rest kept n
Onward held rest s kept start (command m) = ((start < m.next) × (m.next ≤ length s)) × rest m.kept m.next
Onward held rest s kept start (refused_command e p n k) =
    (((1 ≤ e) × (e ≤ 6)) × ((start < p) × ((p ≤ n) × (n ≤ length s)))) × ((k ≡ kept) × rest k n)
Onward held rest s kept start (refused_call e p) = held e

-- the bytes from start on are cut into at most k items, each starting where the one before it ends, and the last ending with the bytes
unfoldable pub Parted : (held : ℕ → Type 0) → List ℕ → (room k : ℕ) → Remembered → ℕ → Type 0
Parted held s room zero kept start = start ≡ length s
Parted held s room (suc k) kept start = Onward held (Parted held s room k) s kept start (item_at kept s start room)

-- in any room only 7 holds reading up
abbrev pub BySeven : ℕ → Type 0
BySeven e = e ≡ 7

-- in room for the longest list nothing does
abbrev pub ByNothing : ℕ → Type 0
ByNothing e = ⊥
