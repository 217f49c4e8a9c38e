-- "An array or string in one command has at most 256 entries": whole parameters have no more.
use Prim.Native.Nat.{ℕ, ◌≤◌}
use mathlib.Core.Path.{◌≡◌}
use mathlib.Core.List.{List}
use native.Mathlib.Omega.{arith}
use Rattle.memory.specs.declared.Remembered.{Remembered}
use Rattle.refusals.specs.Answers.{done}
use Rattle.refusals.proofs.Cases.{by_then, Done, done-of, is-done, not_done}
use Rattle.numbers.specs.Counts.{count_at}
use Rattle.numbers.proofs.Shortest.{count-shown}
use Rattle.parameters.specs.declared.CountedRun.{CountedRun}
use Rattle.parameters.specs.Entries.{entries_end, run_at}
use Rattle.parameters.specs.Shapes.{Tailed, no_list, list_of, Shape}
use Rattle.parameters.specs.Looking.{fixed_at, tail_at, Parsed, parameters_at}

abbrev FewHeld : CountedRun → Type 0
FewHeld h = h.count ≤ 256

tail-few : (kept : Remembered) (t : Tailed) (s : List ℕ) (at : ℕ) → Done FewHeld (tail_at kept t s at)
unfolding tail_at run_at
tail-few kept no_list s at = is-done FewHeld (omega arith)
tail-few kept (list_of e) s at =
    by_then (Done FewHeld) (count_at kept s at) _
    (λ c q. by_then (Done FewHeld) (entries_end e kept c.value s c.next) _
    (λ n r. is-done FewHeld (count-shown kept s at q).writable)
    (λ x y r. not_done FewHeld x y))
    (λ x y q. not_done FewHeld x y)

abbrev FewParsed : Parsed → Type 0
FewParsed p = p.count ≤ 256

parameters_few : (kept : Remembered) (h : Shape) (s : List ℕ) (at : ℕ) → Done FewParsed (parameters_at kept h s at)
unfolding parameters_at
parameters_few kept h s at =
    by_then (Done FewParsed) (fixed_at kept h.fixed s at) _
    (λ f q. by_then (Done FewParsed) (tail_at f.kept h.tail s f.next) _
    (λ t r. is-done FewParsed (done-of FewHeld (tail-few f.kept h.tail s f.next) r))
    (λ x y r. not_done FewParsed x y))
    (λ x y q. not_done FewParsed x y)

pub parsed_few : (kept : Remembered) (h : Shape) (s : List ℕ) (at : ℕ) {p : Parsed} → parameters_at kept h s at ≡ done p → p.count ≤ 256
parsed_few kept h s at e = done-of FewParsed (parameters_few kept h s at) e
