-- Wrong answers of `reports`, and of its exported calls. Each row: a call, its input, and what it must not answer.
use Rattle.std.specs.Prelude.{ℕ, List, [], ◌∷◌, ◌++◌, length, ℤ, pos}
use Rattle.refusals.specs.declared.Taken.{Taken}
use Rattle.refusals.specs.Answers.{Answer, done, refused, number, value_or, place_of}
use Rattle.wire.specs.Sending.{after_write}
use Rattle.reports.specs.declared.TakenString.{TakenString}
use Rattle.reports.specs.Reading.{report_at, string_at, after_string}
use Rattle.reports.specs.Writing.{spell_report, write_report, spell_string, write_string}
use Rattle.sheet.specs.Rows.{Wrong, but, joined, signs, signs_of, reading_of, writing_of}

-- ---- reports

abbrev report_read : List ℕ → ℕ → List ℕ → Wrong
report_read s start wrong = but (reading_of signs (report_at s start)) wrong

abbrev pub wrong-read_integer_report : List Wrong
wrong-read_integer_report =
    -- "high bytes 32..95"
    report_read (96 ∷ 32 ∷ 48 ∷ []) 0 (0 ∷ 0 ∷ 65536 ∷ 2 ∷ 3 ∷ [])
    -- "less 32 times 1024 and 16": the first is the higher
    ∷ report_read (33 ∷ 32 ∷ 48 ∷ []) 0 (0 ∷ 0 ∷ 16 ∷ 2 ∷ 3 ∷ [])
    -- "8 with place 0 if it is past the end"
    ∷ report_read (32 ∷ []) 2 (8 ∷ 2 ∷ [])
    -- "27 is 3 here, and there are no pairs"
    ∷ report_read (27 ∷ 63 ∷ 48 ∷ []) 0 (6 ∷ 0 ∷ [])
    ∷ []

-- the number of entries and where reading goes on, or the refusal and its place; and the list
abbrev string_is : Answer TakenString → List ℕ
string_is (done h) = (0 ∷ h.count ∷ h.next ∷ [])
string_is (refused e p) = (e ∷ p ∷ [])

abbrev string_read : List ℕ → List ℤ → List ℕ → Wrong
string_read s list wrong = but (string_is (string_at s 0 (length list)) ++ signs_of (after_string (string_at s 0 (length list)) s 0 list)) wrong

abbrev pub wrong-read_string_report : List Wrong
wrong-read_string_report =
    -- "such a length, 0..256": 257 is 5, at its low byte
    string_read (32 ∷ 48 ∷ 49 ∷ []) [] (1 ∷ 3 ∷ [])
    -- "then 7, at the start"
    ∷ string_read (32 ∷ 32 ∷ 49 ∷ 65 ∷ []) [] (7 ∷ 3 ∷ [])
    -- a refused call leaves lists as they were on entry
    ∷ string_read (32 ∷ 32 ∷ 50 ∷ 65 ∷ 66 ∷ []) (pos 9 ∷ []) (7 ∷ 0 ∷ 0 ∷ 65 ∷ [])
    ∷ []

abbrev report_written : ℤ → List ℕ → List ℕ → Wrong
report_written v out wrong = but (writing_of (write_report v (length out) 0) (after_write (write_report v (length out) 0) (spell_report v) out 0)) wrong

abbrev pub wrong-write_integer_report : List Wrong
wrong-write_integer_report =
    -- "Range -65535..65535": not that of an integer in a command, and 65535 is inside
    report_written (pos 40000) (9 ∷ 9 ∷ 9 ∷ []) (0 ∷ 3 ∷ 39 ∷ 36 ∷ 48 ∷ [])
    ∷ report_written (pos 65535) (9 ∷ 9 ∷ 9 ∷ []) (8 ∷ 0 ∷ 9 ∷ 9 ∷ 9 ∷ [])
    -- "600 is 32 69 56. Document 003's bytes for 600 and 300 are misprints"
    ∷ report_written (pos 600) (9 ∷ 9 ∷ 9 ∷ []) (0 ∷ 3 ∷ 32 ∷ 67 ∷ 60 ∷ [])
    ∷ []

abbrev string_written : List ℤ → List ℕ → List ℕ → Wrong
string_written vs out wrong = but (writing_of (write_string vs (length out) 0) (after_write (write_string vs (length out) 0) (spell_string vs) out 0)) wrong

abbrev pub wrong-write_string_report : List Wrong
wrong-write_string_report =
    -- "such a length, .. then bytes 32..127": the characters stand behind the three bytes
    string_written (pos 65 ∷ []) (9 ∷ 9 ∷ 9 ∷ 9 ∷ []) (0 ∷ 4 ∷ 65 ∷ 32 ∷ 49 ∷ 9 ∷ [])
    -- 7: ".. too short for the whole result", the three bytes with it
    ∷ string_written (pos 65 ∷ []) (9 ∷ []) (0 ∷ 1 ∷ 32 ∷ [])
    -- "8 for a value outside its range, then 7"
    ∷ string_written (pos 31 ∷ []) (9 ∷ []) (7 ∷ 0 ∷ 9 ∷ [])
    ∷ []

-- ---- the exported calls: the number, the slots, and what is lent

abbrev report_slots : List ℕ → List ℕ → Wrong
report_slots s wrong =
    but (number (report_at s 0) ∷ (signs (value_or (pos 0) (λ (r : Taken ℤ). r.value) (report_at s 0)) ++ (place_of (λ (r : Taken ℤ). r.next) (report_at s 0) ∷ []))) wrong

abbrev pub wrong-ardh_read_integer_report : List Wrong
wrong-ardh_read_integer_report =
    -- the value is handed back, and where reading goes on, not the place of the low byte
    report_slots (33 ∷ 32 ∷ 48 ∷ []) (0 ∷ 0 ∷ 1024 ∷ 2 ∷ [])
    ∷ report_slots (33 ∷ 32 ∷ 48 ∷ []) (0 ∷ 0 ∷ 0 ∷ 3 ∷ [])
    ∷ []

abbrev string_slots : List ℕ → List ℤ → List ℕ → Wrong
string_slots s list wrong =
    but (number (string_at s 0 (length list)) ∷ value_or 0 (λ (h : TakenString). h.count) (string_at s 0 (length list)) ∷ place_of (λ (h : TakenString). h.next) (string_at s 0 (length list)) ∷ signs_of (after_string (string_at s 0 (length list)) s 0 list)) wrong

abbrev pub wrong-ardh_read_string_report : List Wrong
wrong-ardh_read_string_report =
    -- the count is that of the entries: not the most there may be, and not where reading goes on
    string_slots (32 ∷ 32 ∷ 49 ∷ 65 ∷ []) (pos 9 ∷ []) (0 ∷ 256 ∷ 4 ∷ 0 ∷ 65 ∷ [])
    ∷ string_slots (32 ∷ 32 ∷ 49 ∷ 65 ∷ []) (pos 9 ∷ []) (0 ∷ 4 ∷ 4 ∷ 0 ∷ 65 ∷ [])
    ∷ []

abbrev written-slots : Answer ℕ → List ℕ → List ℕ → Wrong
written-slots a out wrong = but (number a ∷ value_or 0 (λ (n : ℕ). n) a ∷ out) wrong

abbrev report_sent : ℤ → List ℕ → ℕ → List ℕ → Wrong
report_sent v out start wrong = written-slots (write_report v (length out) start) (after_write (write_report v (length out) start) (spell_report v) out start) wrong

abbrev pub wrong-ardh_write_integer_report : List Wrong
wrong-ardh_write_integer_report =
    -- the value that was handed in, from the start on
    report_sent (pos 600) (9 ∷ 9 ∷ 9 ∷ 9 ∷ []) 1 (0 ∷ 4 ∷ 9 ∷ 32 ∷ 32 ∷ 48 ∷ [])
    ∷ report_sent (pos 600) (9 ∷ 9 ∷ 9 ∷ 9 ∷ []) 1 (0 ∷ 3 ∷ 32 ∷ 69 ∷ 56 ∷ 9 ∷ [])
    ∷ []

abbrev string_sent : List ℤ → List ℕ → ℕ → List ℕ → Wrong
string_sent vs out start wrong = written-slots (write_string vs (length out) start) (after_write (write_string vs (length out) start) (spell_string vs) out start) wrong

abbrev pub wrong-ardh_write_string_report : List Wrong
wrong-ardh_write_string_report =
    -- where the next byte goes, and from the start on
    string_sent (pos 65 ∷ []) (9 ∷ 9 ∷ 9 ∷ 9 ∷ 9 ∷ []) 1 (0 ∷ 1 ∷ 9 ∷ 32 ∷ 32 ∷ 49 ∷ 65 ∷ [])
    ∷ string_sent (pos 65 ∷ []) (9 ∷ 9 ∷ 9 ∷ 9 ∷ 9 ∷ []) 1 (0 ∷ 4 ∷ 32 ∷ 32 ∷ 49 ∷ 65 ∷ 9 ∷ [])
    ∷ []

-- ---- all of them

abbrev pub column_of_reports : List Wrong
column_of_reports =
    joined
    (wrong-read_integer_report
    ∷ wrong-read_string_report
    ∷ wrong-write_integer_report
    ∷ wrong-write_string_report
    ∷ wrong-ardh_read_integer_report
    ∷ wrong-ardh_read_string_report
    ∷ wrong-ardh_write_integer_report
    ∷ wrong-ardh_write_string_report
    ∷ [])
