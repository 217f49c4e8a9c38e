-- What reading parameters remembers is what is remembered behind their values.
use Prim.Native.Nat.{ℕ}
use mathlib.Core.Path.{◌≡◌, refl, sym, ◌∙◌, ap}
use mathlib.Core.List.{List, [], ◌∷◌, ◌++◌}
use Rattle.memory.specs.declared.Remembered.{Remembered}
use Rattle.refusals.proofs.Cases.{by_then, Done, done-of, is-done, not_done}
use Rattle.points.specs.Reading.{point_at}
use Rattle.parameters.specs.declared.Entry.TheVariants.{AnInteger}
use Rattle.refusals.specs.Answers.{done}
use Rattle.parameters.specs.Entries.{entry_at}
use Rattle.parameters.specs.Shapes.{Part, single, real, point, Shape, Value}
use Rattle.parameters.specs.Behind.{after_value, after_values}
use Rattle.parameters.specs.Looking.{two_entries_at, Fixed, part_at, fixed_at, tail_at, Parsed, parameters_at}

pub after-append : (kept : Remembered) (xs ys : List Value) → after_values kept (xs ++ ys) ≡ after_values (after_values kept xs) ys
unfolding after_values
after-append kept [] ys = refl
after-append kept (x ∷ xs) ys = after-append (after_value kept x) xs ys

abbrev KeptSo : Remembered → Fixed → Type 0
KeptSo kept f = f.kept ≡ after_values kept f.values

part-kept : (kept : Remembered) (p : Part) (s : List ℕ) (at : ℕ) → Done (KeptSo kept) (part_at kept p s at)
unfolding part_at after_values
part-kept kept (single e) s at =
    by_then (Done (KeptSo kept)) (entry_at e kept s at) _ (λ r g. is-done (KeptSo kept) refl) (λ x q g. not_done (KeptSo kept) x q)
part-kept kept real s at =
    by_then (Done (KeptSo kept)) (two_entries_at AnInteger kept s at) _ (λ r g. is-done (KeptSo kept) refl) (λ x q g. not_done (KeptSo kept) x q)
part-kept kept point s at =
    by_then (Done (KeptSo kept)) (point_at kept s at) _ (λ r g. is-done (KeptSo kept) refl) (λ x q g. not_done (KeptSo kept) x q)

fixed-good : (kept : Remembered) (ps : List Part) (s : List ℕ) (at : ℕ) → Done (KeptSo kept) (fixed_at kept ps s at)
unfolding fixed_at after_values
fixed-good kept [] s at = is-done (KeptSo kept) refl
fixed-good kept (p ∷ ps) s at =
    by_then (Done (KeptSo kept)) (part_at kept p s at) _
    (λ f q.
    let a : KeptSo kept f = done-of (KeptSo kept) (part-kept kept p s at) q in
    by_then (Done (KeptSo kept)) (fixed_at f.kept ps s f.next) _
    (λ g r.
    let b : KeptSo f.kept g = done-of (KeptSo f.kept) (fixed-good f.kept ps s f.next) r in
    is-done (KeptSo kept) (b ∙ ap (λ (m : Remembered). after_values m g.values) a ∙ sym (after-append kept f.values g.values)))
    (λ x y r. not_done (KeptSo kept) x y))
    (λ x y q. not_done (KeptSo kept) x y)

pub fixed_kept : (kept : Remembered) (ps : List Part) (s : List ℕ) (at : ℕ) {f : Fixed} → fixed_at kept ps s at ≡ done f → f.kept ≡ after_values kept f.values
fixed_kept kept ps s at e = done-of (KeptSo kept) (fixed-good kept ps s at) e

pub parsed_kept : (kept : Remembered) (h : Shape) (s : List ℕ) (at : ℕ) {p : Parsed} → parameters_at kept h s at ≡ done p → p.kept ≡ after_values kept p.values
unfolding parameters_at
parsed_kept kept h s at e = done-of Good good e
  where
    Good : Parsed → Type 0
    Good p = p.kept ≡ after_values kept p.values

    good : Done Good (parameters_at kept h s at)
    good =
        by_then (Done Good) (fixed_at kept h.fixed s at) _
        (λ f q. by_then (Done Good) (tail_at f.kept h.tail s f.next) _
        (λ t r. is-done Good (fixed_kept kept h.fixed s at q))
        (λ x y r. not_done Good x y))
        (λ x y q. not_done Good x y)
