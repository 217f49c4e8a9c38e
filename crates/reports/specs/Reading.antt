-- "An integer report is three bytes, high bytes 32..95 less 32 times 1024 and 16, and a low byte 32..63 as above. .. A string report is
-- such a length, 0..256, then bytes 32..127. Reading either takes a start: 8 with place 0 if it is past the end, then 1, 3, 5 as for
-- commands (27 is 3 here, and there are no pairs), then 7, at the start, only for a whole report."
use Rattle.std.specs.Prelude.{ℕ, ◌+◌, ◌-◌, ◌*◌, ◌%◌, List, length, get_or, take, drop, ltb, leb, ℤ}
use Rattle.std.proofs.lemmas.List.Edits.{sets}
use Rattle.refusals.specs.declared.Taken.{Taken}
use Rattle.refusals.specs.Answers.{Answer, done, refused, then, pick, ends_after}
use Rattle.signs.specs.Signs.{signed_of}
use Rattle.numbers.specs.Counts.{count_in}
use Rattle.characters.specs.Characters.{as_entries}
use Rattle.reports.specs.declared.TakenString.{TakenString}

-- a byte from least to most, as it stands
unfoldable pub byte_within : ℕ → ℕ → List ℕ → ℕ → Answer (Taken ℕ)
byte_within least most s at =
    pick (ltb at (length s))
    (pick (ltb (get_or s at 0) least)
    (refused 3 at)
    (pick (ltb most (get_or s at 0)) (refused 3 at) (done (record { value = get_or s at 0; place = at; next = at + 1 }))))
    (refused 1 (length s))

-- ---- integer reports

abbrev pub report_value : (first second low : ℕ) → ℤ
report_value a b c = signed_of ((a - 32) * 1024 + (b - 32) * 16 + c % 16) (ltb c 48)

unfoldable pub report_from : List ℕ → ℕ → Answer (Taken ℤ)
report_from s at =
    then (byte_within 32 95 s at)
    (λ a. then (byte_within 32 95 s a.next)
    (λ b. then (byte_within 32 63 s b.next)
    (λ c. done (record { value = report_value a.value b.value c.value; place = c.place; next = c.next }))))

unfoldable pub report_at : List ℕ → ℕ → Answer (Taken ℤ)
report_at s at = pick (ltb (length s) at) (refused 8 0) (report_from s at)

-- ---- string reports

-- where a run of characters ends
abbrev pub characters_end : ℕ → List ℕ → ℕ → Answer ℕ
characters_end k s at = ends_after (byte_within 32 127 s) k at

abbrev pub most_characters : ℕ
most_characters = 256

unfoldable pub string_at : List ℕ → ℕ → ℕ → Answer TakenString
string_at s at room =
    then (count_in most_characters (report_at s at))
    (λ c. then (characters_end c.value s c.next)
    (λ n. pick (leb c.value room) (done (record { count = c.value; next = n })) (refused 7 at)))

-- the bytes from at on, as entries
abbrev pub entries_at : ℕ → List ℕ → ℕ → List ℤ
entries_at k s at = as_entries (take k (drop at s))

-- the lent list after an answer: the characters behind the length, "beyond the result .. unchanged"; a refused call changes nothing
unfoldable pub after_string : Answer TakenString → List ℕ → ℕ → List ℤ → List ℤ
after_string (done r) s at l = sets l 0 (entries_at r.count s (at + 3))
after_string (refused e p) s at l = l
