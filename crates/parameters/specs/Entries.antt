-- "A string is a count and that many bytes 32..127; an array is a count and that many integers."
use Rattle.std.specs.Prelude.{ℕ, ◌+◌, Bool, ◌&&◌, List, leb, length, take, drop, ℤ, pos}
use Rattle.std.proofs.lemmas.List.Edits.{sets}
use Rattle.memory.specs.declared.Remembered.{Remembered}
use Rattle.refusals.specs.declared.Taken.{Taken}
use Rattle.refusals.specs.Answers.{Answer, done, refused, then, pick, every, value_or, ends_after, all_after}
use Rattle.wire.specs.Taking.{byte_at, is_itself}
use Rattle.numbers.specs.Integers.{integer_at}
use Rattle.numbers.specs.Counts.{count_at}
use Rattle.parameters.specs.declared.CountedRun.{CountedRun}
use Rattle.parameters.specs.declared.Entry.{Entry}
use Rattle.parameters.specs.declared.Entry.TheVariants.{AnInteger, ACharacter}

abbrev pub as_entry : Taken ℕ → Answer (Taken ℤ)
as_entry b = done (record { value = pos b.value; place = b.place; next = b.next })

-- one entry: an integer, or a character as a number
unfoldable pub entry_at : Entry → Remembered → List ℕ → ℕ → Answer (Taken ℤ)
entry_at AnInteger kept s at = integer_at kept s at
entry_at ACharacter kept s at = then (byte_at kept s at) as_entry

-- k entries: where they end, or the first that is refused; and their values
abbrev pub entries_end : Entry → Remembered → ℕ → List ℕ → ℕ → Answer ℕ
entries_end e kept k s at = ends_after (entry_at e kept s) k at

abbrev pub entry_values : Entry → Remembered → ℕ → List ℕ → ℕ → List ℤ
entry_values e kept k s at = all_after (entry_at e kept s) k at

-- where the entries of a counted list start, how many they are, and where reading goes on
unfoldable pub run_at : Entry → Remembered → List ℕ → ℕ → Answer CountedRun
run_at e kept s at =
    then (count_at kept s at)
    (λ c. then (entries_end e kept c.value s c.next)
    (λ n. done (record { start = c.next; count = c.value; next = n })))

-- k entries stand at the front of a lent list that has room for all of them; any other list is as it was
unfoldable pub handed : ℕ → List ℤ → List ℤ → List ℤ
handed k es l = pick (leb k (length l)) (sets l 0 es) l

-- the lent list behind k entries that come to their end, or are refused
unfoldable pub list_behind : Entry → Remembered → ℕ → List ℕ → ℕ → List ℤ → List ℤ
list_behind e kept k s at l = value_or l (λ (n : ℕ). handed k (entry_values e kept k s at) l) (entries_end e kept k s at)

-- the lent list behind a counted one that is whole, or refused
unfoldable pub after_run : Entry → Remembered → List ℕ → Answer CountedRun → List ℤ → List ℤ
after_run e kept s (done h) l = handed h.count (entry_values e kept h.count s h.start) l
after_run e kept s (refused x p) l = l

-- k characters stand from at on, each of which is taken as it stands. The quick way of reading goes by this; what a string is does not.
unfoldable pub characters_ahead : Remembered → ℕ → List ℕ → ℕ → Bool
characters_ahead kept k s at = leb (at + k) (length s) && every (is_itself kept.mode) (take k (drop at s))
