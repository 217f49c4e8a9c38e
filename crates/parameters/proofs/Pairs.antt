-- Two single parts are a pair, whatever parts stand behind them.
use Prim.Native.Nat.{ℕ}
use mathlib.Core.Path.{◌≡◌, refl}
use mathlib.Core.List.{List, [], ◌∷◌, ◌++◌}
use lib.IntN.{ℤ}
use Rattle.memory.specs.declared.Remembered.{Remembered}
use Rattle.refusals.specs.declared.Taken.{Taken}
use Rattle.refusals.specs.Answers.{Answer, done, refused, then}
use Rattle.parameters.specs.declared.Entry.{Entry}
use Rattle.parameters.specs.declared.TwoEntries.{TwoEntries}
use Rattle.parameters.specs.Entries.{entry_at}
use Rattle.parameters.specs.Shapes.{Part, single, Value, number}
use Rattle.parameters.specs.Looking.{two_entries_at, Fixed, part_at, fixed_at}

abbrev before : Value → Fixed → Answer Fixed
before v g = done (record { values = v ∷ g.values; next = g.next; kept = g.kept })

abbrev before2 : Value → Value → Fixed → Answer Fixed
before2 v w g = done (record { values = v ∷ w ∷ g.values; next = g.next; kept = g.kept })

abbrev both_entries : ℤ → Taken ℤ → Answer TwoEntries
both_entries v i = done (record { one = v; two = i.value; next = i.next })

abbrev two_then : Entry → (ℕ → Answer Fixed) → TwoEntries → Answer Fixed
two_then e rest r = then (rest r.next) (before2 (number e r.one) (number e r.two))

abbrev alone : Entry → Remembered → Taken ℤ → Answer Fixed
alone e kept i = done (record { values = number e i.value ∷ []; next = i.next; kept = kept })

abbrev joined : (Remembered → ℕ → Answer Fixed) → Fixed → Answer Fixed
joined rest f = then (rest f.kept f.next) (λ g. done (record { values = f.values ++ g.values; next = g.next; kept = g.kept }))

abbrev part_then : Entry → Remembered → Answer (Taken ℤ) → (Remembered → ℕ → Answer Fixed) → Answer Fixed
part_then e kept a rest = then (then a (alone e kept)) (joined rest)

third_part : (v w : Value) (a : Answer Fixed) → then (then a (before w)) (before v) ≡ then a (before2 v w)
third_part v w (done g) = refl
third_part v w (refused x p) = refl

second-part : (e : Entry) (kept : Remembered) (v : ℤ) (b : Answer (Taken ℤ)) (rest : Remembered → ℕ → Answer Fixed) → then (part_then e kept b rest) (before (number e v)) ≡ then (then b (both_entries v)) (two_then e (rest kept))
second-part e kept v (refused x p) rest = refl
second-part e kept v (done i) rest = third_part (number e v) (number e i.value) (rest kept i.next)

first_part : (e : Entry) (kept : Remembered) (a : Answer (Taken ℤ)) (next : Remembered → ℕ → Answer (Taken ℤ)) (rest : Remembered → ℕ → Answer Fixed) → part_then e kept a (λ k n. part_then e k (next k n) rest) ≡ then (then a (λ i. then (next kept i.next) (both_entries i.value))) (two_then e (rest kept))
first_part e kept (refused x p) next rest = refl
first_part e kept (done i) next rest = second-part e kept i.value (next kept i.next) rest

pub as_two_entries : (e : Entry) (kept : Remembered) (ps : List Part) (s : List ℕ) (at : ℕ) → fixed_at kept (single e ∷ single e ∷ ps) s at ≡ then (two_entries_at e kept s at) (two_then e (λ n. fixed_at kept ps s n))
unfolding fixed_at part_at two_entries_at
as_two_entries e kept ps s at = first_part e kept (entry_at e kept s at) (λ k n. entry_at e k s n) (λ k n. fixed_at k ps s n)
