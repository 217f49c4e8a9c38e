-- What the laws of a listing speak of: how far it comes, and how long it gets. proofs/ proves them.
use Rattle.std.specs.Prelude.{ℕ, zero, suc, List}
use Rattle.memory.specs.declared.Remembered.{Remembered}
use Rattle.ranges.specs.Ranges.{most_entries}
use Rattle.stream.specs.Items.{item_at, told_item, next_start, next_kept}

-- where the next item starts behind k items
unfoldable pub start_behind : ℕ → List ℕ → Remembered → ℕ → ℕ
start_behind zero s kept start = start
start_behind (suc k) s kept start =
    start_behind k s (next_kept kept (told_item (item_at kept s start most_entries))) (next_start start (told_item (item_at kept s start most_entries)))

-- no listing has more bytes: 14 for each of the 4,096 that are read, and 7 for the last line
abbrev pub most_listed : ℕ
most_listed = 57351
