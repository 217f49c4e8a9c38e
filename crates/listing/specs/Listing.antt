-- "It reads up to 4,096 bytes of standard input and prints one line an item .. Last: E and the bytes read, or M 4096 if more input follows;
-- either way the items are those of the bytes read, taken as the whole."
use Rattle.std.specs.Prelude.{ℕ, zero, suc, Bool, true, false, List, [], ◌++◌, ltb, length, take, ℤ}
use Rattle.memory.specs.declared.Remembered.{Remembered}
use Rattle.memory.specs.Memory.{fresh_memory}
use Rattle.refusals.specs.Answers.{pick}
use Rattle.ranges.specs.Ranges.{most_entries}
use Rattle.commands.specs.Reading.{Meaning}
use Rattle.stream.specs.Items.{Itemed, nothing, text, del, command, refused_command, refused_call, item_at, told_item, next_start, next_kept}
use Rattle.lines.specs.Lines.{line_of, last_line}

-- the entries that were read with an item
unfoldable pub entries_of : Itemed Meaning → List ℤ
entries_of nothing = []
entries_of (text b n) = []
entries_of (del n) = []
entries_of (command m) = m.entries
entries_of (refused_command e p n before) = []
entries_of (refused_call e p) = []

-- the line of an item that starts at start, and what comes behind it
unfoldable pub line_then : (rest : Remembered → ℕ → List ℕ) → Remembered → ℕ → Itemed Meaning → List ℕ
line_then rest kept start i =
    line_of (told_item i) start (entries_of i) ++ rest (next_kept kept (told_item i)) (next_start start (told_item i))

-- the lines of k items from start on; no item has no line
unfoldable pub lines_from : ℕ → List ℕ → Remembered → ℕ → List ℕ
lines_from zero s kept start = []
lines_from (suc k) s kept start = line_then (lines_from k s) kept start (item_at kept s start most_entries)

-- the lines of all items of s. Each takes a byte at least, so there are no more items than bytes; that every item has its turn is a law, `all_listed`
unfoldable pub lines_of : List ℕ → List ℕ
lines_of s = lines_from (length s) s fresh_memory 0

-- the listing of the bytes read, "taken as the whole": the lines of their items, then the last line
unfoldable pub listing_with : (more : Bool) → List ℕ → List ℕ
listing_with more s = lines_of s ++ last_line more (length s)

-- "up to 4,096 bytes"
abbrev pub most_bytes : ℕ
most_bytes = 4096

-- the listing of standard input, of which the bytes behind the 4,096 tell only that more follows
unfoldable pub listing_of : List ℕ → List ℕ
listing_of input = pick (ltb most_bytes (length input)) (listing_with true (take most_bytes input)) (listing_with false input)
