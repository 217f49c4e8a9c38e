-- "A count is an integer 0..256."
use Rattle.std.specs.Prelude.{ℕ, List, leb, ℤ, pos, nat_abs}
use Rattle.memory.specs.declared.Remembered.{Remembered}
use Rattle.refusals.specs.declared.Taken.{Taken}
use Rattle.refusals.specs.Answers.{Answer, done, refused, then, pick}
use Rattle.signs.specs.Signs.{is_negative}
use Rattle.ranges.specs.Ranges.{most_entries}
use Rattle.wire.specs.Sending.{sent, write_if}
use Rattle.numbers.specs.Integers.{integer_at, spell}

-- an integer that was read, as a count of at most most: "count negative or above 256 (place: its low byte)"
abbrev pub as_count : ℕ → Taken ℤ → Answer (Taken ℕ)
as_count most i =
    pick (is_negative i.value)
    (refused 5 i.place)
    (pick (leb (nat_abs i.value) most)
    (done (record { value = nat_abs i.value; place = i.place; next = i.next }))
    (refused 5 i.place))

-- "at one byte, 4 before 5"
unfoldable pub count_in : ℕ → Answer (Taken ℤ) → Answer (Taken ℕ)
count_in most i = then i (as_count most)

abbrev pub count_at : Remembered → List ℕ → ℕ → Answer (Taken ℕ)
count_at kept s at = count_in most_entries (integer_at kept s at)

abbrev pub write_count : Remembered → ℕ → ℕ → ℕ → Answer ℕ
write_count kept n room at = write_if (leb n most_entries) (sent kept (spell (pos n))) room at
