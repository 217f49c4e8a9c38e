-- Reading the parameters of each kind: what a kind that was matched gives, and the lent list of a kind without one.
use Prim.Native.Nat.{ℕ}
use mathlib.Core.Path.{◌≡◌, refl, sym, ◌∙◌, ap}
use mathlib.Core.List.{List}
use native.Mathlib.Omega.{arith}
use borrow.Author.Tests.{le-leb}
use lib.ListN.{length}
use lib.IntN.{ℤ}
use Rattle.memory.specs.declared.Remembered.{Remembered}
use Rattle.std.specs.Prelude.{Result, Ok, Err}
use Rattle.refusals.specs.Answers.{Answer, all_after}
use Rattle.refusals.proofs.Cases.{by_then}
use Rattle.table.specs.declared.Kind.{Kind}
use Rattle.table.specs.Table.{kind_meant}
use Rattle.parameters.specs.Entries.{handed}
use Rattle.parameters.specs.Shapes.{Tailed, no_list, Part, Shape, shape_of}
use Rattle.parameters.specs.Looking.{fixed_at, tail_at, Parsed, parameters_at, after_look}

pub of-kind : (kept : Remembered) (s : List ℕ) (at : ℕ) {k j : Kind} {q : Answer Parsed} → k ≡ j → q ≡ parameters_at kept (shape_of (kind_meant j)) s at → q ≡ parameters_at kept (shape_of (kind_meant k)) s at
of-kind kept s at e f = f ∙ ap (λ (k : Kind). parameters_at kept (shape_of (kind_meant k)) s at) (sym e)

pub entries-of_kind : (kept : Remembered) (s : List ℕ) (at : ℕ) (l : List ℤ) {k j : Kind} {o : List ℤ} → k ≡ j → o ≡ after_look s (parameters_at kept (shape_of (kind_meant j)) s at) l → o ≡ after_look s (parameters_at kept (shape_of (kind_meant k)) s at) l
entries-of_kind kept s at l e f = f ∙ ap (λ (k : Kind). after_look s (parameters_at kept (shape_of (kind_meant k)) s at) l) (sym e)

-- a kind without a list leaves the lent one as it is
fixed_left : (kept : Remembered) (ps : List Part) (s : List ℕ) (at : ℕ) (l : List ℤ) → l ≡ after_look s (parameters_at kept (record { fixed = ps; tail = no_list }) s at) l
unfolding parameters_at tail_at after_look handed all_after
fixed_left kept ps s at l =
    by_then (λ a. l ≡ after_look s a l) (fixed_at kept ps s at) _
    (λ f e. rw (le-leb 0 (length l) (omega arith)))
    (λ x p e. refl)

pub untouched : (kept : Remembered) (s : List ℕ) (at : ℕ) (l : List ℤ) {k j : Kind} → k ≡ j → (shape_of (kind_meant j)).tail ≡ no_list → l ≡ after_look s (parameters_at kept (shape_of (kind_meant k)) s at) l
untouched kept s at l {k} {j} e t =
    let shape : shape_of (kind_meant k) ≡ record { fixed = (shape_of (kind_meant j)).fixed; tail = no_list } = ap (λ (x : Kind). shape_of (kind_meant x)) e ∙ ap (λ (x : Tailed). record { fixed = (shape_of (kind_meant j)).fixed; tail = x }) t in
    fixed_left kept (shape_of (kind_meant j)).fixed s at l ∙ ap (λ (x : Shape). after_look s (parameters_at kept x s at) l) (sym shape)

pub ruleset of_kinds = (of-kind, entries-of_kind, untouched, refl)
