-- Reading the parameters of a kind: part by part, each point from the one before it.
use Rattle.std.specs.Prelude.{ℕ, List, [], ◌∷◌, ◌++◌, ℤ, Result, Ok, Err}
use Rattle.memory.specs.declared.Remembered.{Remembered}
use Rattle.memory.specs.Memory.{remember}
use Rattle.refusals.specs.declared.RefusedAt.{RefusedAt}
use Rattle.refusals.specs.Refusals.{number_of}
use Rattle.refusals.specs.Answers.{Answer, done, refused, then}
use Rattle.points.specs.Reading.{point_at}
use Rattle.parameters.specs.declared.Entry.{Entry}
use Rattle.parameters.specs.declared.Entry.TheVariants.{AnInteger}
use Rattle.parameters.specs.declared.CountedRun.{CountedRun}
use Rattle.parameters.specs.declared.Parameters.{Parameters}
use Rattle.parameters.specs.declared.TakenParameters.{TakenParameters}
use Rattle.parameters.specs.declared.TwoEntries.{TwoEntries}
use Rattle.parameters.specs.Entries.{entry_at, entry_values, run_at, handed}
use Rattle.parameters.specs.Shapes.{Tailed, no_list, list_of, Part, single, real, point, Shape, Value, number, scaled, place, values_of, tail_of}

-- two entries, one after the other
unfoldable pub two_entries_at : Entry → Remembered → List ℕ → ℕ → Answer TwoEntries
two_entries_at e kept s at =
    then (entry_at e kept s at) (λ a. then (entry_at e kept s a.next) (λ b. done (record { one = a.value; two = b.value; next = b.next })))

-- what was read so far: its values, where reading goes on, and what is then remembered
pub record Fixed : Type 0 where
  pub values : List Value
  pub next : ℕ
  pub kept : Remembered

abbrev one : Value → ℕ → Remembered → Answer Fixed
one v n kept = done (record { values = v ∷ []; next = n; kept = kept })

-- "Real. Two integers, mantissa and exponent"; a point is remembered
unfoldable pub part_at : Remembered → Part → List ℕ → ℕ → Answer Fixed
part_at kept (single e) s at = then (entry_at e kept s at) (λ i. one (number e i.value) i.next kept)
part_at kept real s at = then (two_entries_at AnInteger kept s at) (λ r. one (scaled r.one r.two) r.next kept)
part_at kept point s at = then (point_at kept s at) (λ p. one (place p.value) p.next (remember kept p.value))

-- the fixed parts in their order
unfoldable pub fixed_at : Remembered → List Part → List ℕ → ℕ → Answer Fixed
fixed_at kept [] s at = done (record { values = []; next = at; kept = kept })
fixed_at kept (p ∷ ps) s at =
    then (part_at kept p s at)
    (λ f. then (fixed_at f.kept ps s f.next) (λ g. done (record { values = f.values ++ g.values; next = g.next; kept = g.kept })))

-- the string or the array behind them
unfoldable pub tail_at : Remembered → Tailed → List ℕ → ℕ → Answer CountedRun
tail_at kept no_list s at = done (record { start = 0; count = 0; next = at })
tail_at kept (list_of e) s at = run_at e kept s at

-- all parameters: the values and the kind of list, the run of its entries, where reading goes on, and what is then remembered
pub record Parsed : Type 0 where
  pub values : List Value
  pub tail : Tailed
  pub start : ℕ
  pub count : ℕ
  pub next : ℕ
  pub kept : Remembered

abbrev with : Fixed → Tailed → CountedRun → Answer Parsed
with f t h = done (record { values = f.values; tail = t; start = h.start; count = h.count; next = h.next; kept = f.kept })

unfoldable pub parameters_at : Remembered → Shape → List ℕ → ℕ → Answer Parsed
parameters_at kept shape s at =
    then (fixed_at kept shape.fixed s at) (λ f. then (tail_at f.kept shape.tail s f.next) (λ h. with f shape.tail h))

-- what the answer says
abbrev pub parsed_as : Parameters → CountedRun → Remembered → Parsed
parsed_as ps run kept = record { values = values_of ps; tail = tail_of ps; start = run.start; count = run.count; next = run.next; kept = kept }

unfoldable pub look_of : Result TakenParameters RefusedAt → Answer Parsed
look_of (Ok t) = done (parsed_as t.parameters t.run t.kept)
look_of (Err e) = refused (number_of e.refusal) e.place

-- ---- the entries, and the lent list behind them

abbrev pub entry_in : Tailed → Entry
entry_in no_list = AnInteger
entry_in (list_of e) = e

abbrev pub parsed_entries : List ℕ → Parsed → List ℤ
parsed_entries s p = entry_values (entry_in p.tail) p.kept p.count s p.start

unfoldable pub after_look : List ℕ → Answer Parsed → List ℤ → List ℤ
after_look s (done p) l = handed p.count (parsed_entries s p) l
after_look s (refused e p) l = l
