-- Where 127 is data nothing is passed over: parameters are read as in document 01.
use Prim.Native.Nat.{ℕ}
use mathlib.Core.Path.{◌≡◌, refl, ◌∙◌, ap}
use mathlib.Core.List.{List, [], ◌∷◌}
use lib.IntN.{ℤ}
use Rattle.memory.specs.declared.DelMode.{DelMode}
use Rattle.memory.specs.declared.DelMode.TheVariants.{Data}
use Rattle.memory.specs.declared.Point.{Point}
use Rattle.memory.specs.declared.Remembered.{Remembered}
use Rattle.refusals.specs.declared.Taken.{Taken}
use Rattle.refusals.specs.Answers.{Answer, done, refused, then, all_after}
use Rattle.wire.specs.Taking.{past_dels, pair_at, found_at, byte_at}
use Rattle.numbers.specs.Integers.{integer_from, integer_at}
use Rattle.points.specs.Reading.{by_kind, last_at, after_lo_y, after_upper, after_hi_y, point_from, point_at}
use Rattle.parameters.specs.declared.Entry.{Entry}
use Rattle.parameters.specs.declared.Entry.TheVariants.{AnInteger, ACharacter}
use Rattle.parameters.specs.Entries.{entry_at, run_at}
use Rattle.parameters.specs.Shapes.{Tailed, no_list, list_of, Part, single, real, point, Shape}
use Rattle.parameters.specs.Looking.{two_entries_at, part_at, fixed_at, tail_at, Parsed, parameters_at, entry_in, parsed_entries}
use Rattle.del_laws.specs.Base.{point_alone, base_pair, base_byte, base_highs, base_integer, base_kind, base_last, base_lo_y, base_upper, base_hi_y, base_from, base_point, base_entry, base_tail, base_part, base_fixed, base_parameters, base_entries}
use Rattle.del_laws.proofs.Moving.{part-mode, fixed-mode}

pub then_same : {A B : Type 0} (a : Answer A) {b : Answer A} {k j : A → Answer B} → a ≡ b → ((x : A) → a ≡ done x → k x ≡ j x) → then a k ≡ then b j
then_same (done x) e next = rw (← e) (next x refl)
then_same (refused y p) e next = rw (← e)

pub then-then : {A B C : Type 0} (a : Answer A) (k : A → Answer B) (j : B → Answer C) → then (then a k) j ≡ then a (λ x. then (k x) j)
then-then (done x) k j = refl
then-then (refused e p) k j = refl

-- with 127 as data, what is remembered is the point alone
pub alone : {kept : Remembered} → kept.mode ≡ Data → kept ≡ point_alone kept.point
alone {kept} e = ap (λ (m : DelMode). record { point = kept.point; mode = m }) e

module _ (s : List ℕ) where
  integer-so : (p : Point) (at : ℕ) → integer_at (point_alone p) s at ≡ base_integer s at
  unfolding byte_at found_at pair_at past_dels base_byte base_pair integer_from base_highs
  integer-so p at = refl

  point-so : (p : Point) (at : ℕ) → point_at (point_alone p) s at ≡ base_point s p at
  unfolding byte_at found_at pair_at past_dels base_byte base_pair by_kind last_at after_lo_y after_upper after_hi_y point_from point_at base_kind base_last base_lo_y base_upper base_hi_y base_from base_point
  point-so p at = refl

  entry_so : (p : Point) (n : Entry) → entry_at n (point_alone p) s ≡ base_entry s n
  unfolding byte_at found_at pair_at past_dels base_byte base_pair integer_from base_highs entry_at base_entry
  entry_so p AnInteger = refl
  entry_so p ACharacter = refl

  part-so : (p : Point) (part : Part) (at : ℕ) → part_at (point_alone p) part s at ≡ base_part s p part at
  unfolding part_at base_part two_entries_at base_entry
  part-so p (single n) at = rw (entry_so p n)
  part-so p real at =
      rw (entry_so p AnInteger)
      (then-then (base_integer s at) _ _ ∙ then_same (base_integer s at) refl (λ m q. then-then (base_integer s m.next) _ _))
  part-so p point at = rw (point-so p at)

  tail-so : (p : Point) (t : Tailed) (at : ℕ) → tail_at (point_alone p) t s at ≡ base_tail s t at
  unfolding tail_at run_at base_tail
  tail-so p no_list at = refl
  tail-so p (list_of n) at = rw (integer-so p at, entry_so p n)

  fixed-so : (kept : Remembered) (ps : List Part) (at : ℕ) → kept.mode ≡ Data → fixed_at kept ps s at ≡ base_fixed s kept.point ps at
  unfolding fixed_at base_fixed
  fixed-so kept [] at e = ap (λ (k : Remembered). done (record { values = []; next = at; kept = k })) (alone e)
  fixed-so kept (p ∷ ps) at e =
      then_same (part_at kept p s at) (ap (λ (k : Remembered). part_at k p s at) (alone e) ∙ part-so kept.point p at)
      (λ f q. then_same (fixed_at f.kept ps s f.next) (fixed-so f.kept ps f.next (part-mode kept p s at q ∙ e)) (λ g z. refl))

  pub parameters_so : (kept : Remembered) (h : Shape) (at : ℕ) → kept.mode ≡ Data → parameters_at kept h s at ≡ base_parameters s kept.point h at
  unfolding parameters_at base_parameters
  parameters_so kept h at e =
      then_same (fixed_at kept h.fixed s at) (fixed-so kept h.fixed at e)
      (λ f q.
      let d = fixed-mode kept h.fixed s at q ∙ e in
      then_same (tail_at f.kept h.tail s f.next) (ap (λ (k : Remembered). tail_at k h.tail s f.next) (alone d) ∙ tail-so f.kept.point h.tail f.next) (λ t z. refl))

  pub entries-so : (p : Parsed) → p.kept.mode ≡ Data → parsed_entries s p ≡ base_entries s p
  entries-so p e =
      ap (λ (one : ℕ → Answer (Taken ℤ)). all_after one p.count p.start)
      (ap (λ (k : Remembered). entry_at (entry_in p.tail) k s) (alone e) ∙ entry_so p.kept.point (entry_in p.tail))
