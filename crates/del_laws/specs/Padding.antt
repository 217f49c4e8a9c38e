-- K2: "After KI 1 each plain 127, in text, between letters or in a parameter, is passed over". So there, up to the next KI, a stream reads as it does without
-- its plain 127s, item for item; only the places differ. proofs/Padding.antt proves it.
use Rattle.std.specs.Prelude.{ℕ, zero, suc, ◌≡◌, Bool, true, false, List, [], ◌∷◌}
use Rattle.memory.specs.declared.DelMode.{DelMode}
use Rattle.memory.specs.declared.Remembered.{Remembered}
use Rattle.memory.specs.Memory.{in_mode}
use Rattle.refusals.specs.Answers.{pick}
use Rattle.wire.specs.Taking.{is_del}
use Rattle.commands.specs.Behind.{is_ignore_deletes}
use Rattle.commands.specs.Reading.{Meaning}
use Rattle.stream.specs.Items.{Itemed, nothing, text, del, command, refused_command, refused_call, item_at}

unfoldable pub without_dels : List ℕ → List ℕ
without_dels [] = []
without_dels (b ∷ s) = pick (is_del b) (without_dels s) (b ∷ without_dels s)

-- where a place of s stands in s without its DELs
unfoldable pub place_without : List ℕ → ℕ → ℕ
place_without [] at = 0
place_without (b ∷ s) zero = 0
place_without (b ∷ s) (suc at) = pick (is_del b) (place_without s at) (suc (place_without s at))

-- a command with another end and another memory behind it
abbrev pub anew : Meaning → (next : ℕ) → Remembered → Meaning
anew c next kept = record {
  first = c.first;
  second = c.second;
  values = c.values;
  tail = c.tail;
  count = c.count;
  entries = c.entries;
  next = next;
  kept = kept;
}

-- a command of s, as it is read without DELs in the mode m
abbrev pub command_without : DelMode → List ℕ → Meaning → Meaning
command_without m s c = anew c (place_without s c.next) (in_mode c.kept m)

abbrev pub unless : Bool → Type 0 → Type 0
unless true P = Unit {0}
unless false P = P

module _ (m : DelMode) (s : List ℕ) (room : ℕ) where
  -- the item that stands for the one at start
  abbrev pub item_without : Remembered → ℕ → Itemed Meaning
  item_without kept start = item_at (in_mode kept m) (without_dels s) (place_without s start) room

  -- an item of s and what comes behind it; a DEL has no item, and of a KI and of what is behind it nothing is said
  unfoldable pub SameItem : (rest : Remembered → ℕ → Type 0) → Remembered → ℕ → Itemed Meaning → Type 0
  SameItem rest kept start nothing = item_without kept start ≡ nothing
  SameItem rest kept start (text b n) = (item_without kept start ≡ text b (place_without s n)) × rest kept n
  SameItem rest kept start (del n) = (place_without s n ≡ place_without s start) × rest kept n
  SameItem rest kept start (command c) =
      unless (is_ignore_deletes c.first c.second) ((item_without kept start ≡ command (command_without m s c)) × rest c.kept c.next)
  SameItem rest kept start (refused_command e p n k) =
      (item_without kept start ≡ refused_command e (place_without s p) (place_without s n) (in_mode k m)) × rest k n
  SameItem rest kept start (refused_call e p) = item_without kept start ≡ refused_call e (place_without s p)

  -- so it is with k items from start on
  unfoldable pub SameItems : (k : ℕ) → Remembered → ℕ → Type 0
  SameItems zero kept start = Unit {0}
  SameItems (suc k) kept start = SameItem (SameItems k) kept start (item_at kept s start room)
