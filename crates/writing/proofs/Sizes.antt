-- How long a command gets: where a 127 is data, each byte is sent as itself.
use Prim.Native.Nat.{ℕ, ◌+◌, ◌*◌, ◌/◌, ◌≤◌}
use mathlib.Core.Path.{◌≡◌, refl, ◌∙◌, ap}
use mathlib.Core.Bool.{Bool, true, ◌&&◌}
use mathlib.Core.List.{List, [], ◌∷◌, ◌++◌}
use native.Mathlib.Omega.{arith}
use borrow.Author.Tests.{leb-true}
use lib.Dec.{eqb, leb, ltb}
use lib.ListN.{length, length-append}
use lib.IntN.{ℤ, pos, nat_abs}
use Rattle.memory.specs.declared.DelMode.{DelMode}
use Rattle.memory.specs.declared.DelMode.TheVariants.{Data, Filler}
use Rattle.memory.specs.declared.Remembered.{Remembered}
use Rattle.refusals.proofs.Cases.{by_pick, and_left}
use Rattle.wire.specs.Sending.{sent_in, sent}
use Rattle.signs.specs.Signs.{is_negative}
use Rattle.numbers.specs.Integers.{low_of, highs_of, spell_of, spell}
use Rattle.points.specs.declared.PointBytes.{PointBytes}
use Rattle.points.specs.Layout.{bytes_of}
use Rattle.points.specs.Writing.{part, spell_bytes, spell_point}
use Rattle.parameters.specs.declared.Entry.{Entry}
use Rattle.parameters.specs.declared.Entry.TheVariants.{AnInteger, ACharacter}
use Rattle.parameters.specs.declared.Parameters.{Parameters}
use Rattle.parameters.specs.declared.Parameters.TheVariants.{OneInteger, TwoIntegers, ThreeIntegers, OnePoint, TwoPoints, AReal, TwoCharacters, AString, AnArray, IntegerThenString, IntegerThenArray}
use Rattle.parameters.specs.Shapes.{Tailed, no_list, list_of, Value, number, scaled, place, values_of, tail_of}
use Rattle.parameters.specs.Behind.{after_value, after_values}
use Rattle.commands.specs.declared.Command.{Command}
use Rattle.writable.specs.Writable.{are_entries, is_tail}
use Rattle.writing.specs.Writing.{spell_entry, spell_entries, spell_value, spell_values, spell_tail, spell_parameters, spell_command, Poured, most_written}

highs_short : (h : ℕ) → length (highs_of h) ≤ 2
unfolding highs_of
highs_short h =
    by_pick (λ (w : List ℕ). length w ≤ 2) (eqb h 0) _ _
    (λ t. omega arith)
    (λ t. by_pick (λ (w : List ℕ). length w ≤ 2) (ltb h 64) _ _ (λ u. omega arith) (λ u. omega arith))

integer-short : (v : ℤ) → length (spell v) ≤ 3
unfolding spell_of
integer-short v =
    omega (arith, highs_short (nat_abs v / 16), length-append (highs_of (nat_abs v / 16)) (low_of (nat_abs v) (is_negative v) ∷ []))

part-short : (t : Bool) (b : ℕ) → length (part t b) ≤ 1
part-short t b = by_pick (λ (w : List ℕ). length w ≤ 1) t _ _ (λ u. omega arith) (λ u. omega arith)

-- one part more
more_short : (w : List ℕ) (t : Bool) (b n : ℕ) → length w ≤ n → length (w ++ part t b) ≤ n + 1
more_short w t b n h = omega (arith, h, part-short t b, length-append w (part t b))

bytes-short : (a b : PointBytes) → length (spell_bytes a b) ≤ 5
unfolding spell_bytes
bytes-short a b =
    let y = eqb a.hiy b.hiy in
    let u = eqb a.extra b.extra in
    let t = eqb a.hix b.hix in
    let l = eqb a.loy b.loy && (u && t) in
    let w₁ = part y b.hiy in
    let w₂ = w₁ ++ part u b.extra in
    let w₃ = w₂ ++ part l b.loy in
    let w₄ = w₃ ++ part t b.hix in
    let j₂ = more_short w₁ u b.extra 1 (part-short y b.hiy) in
    let j₃ = more_short w₂ l b.loy 2 j₂ in
    let j₄ = more_short w₃ t b.hix 3 j₃ in
    omega (arith, j₄, length-append w₄ (b.lox ∷ []))

module _ (kept : Remembered) (e : kept.mode ≡ Data) where
  as_itself : (w : List ℕ) → sent kept w ≡ w
  unfolding sent sent_in
  as_itself w = rw e

  integer-sent : (v : ℤ) → length (sent kept (spell v)) ≤ 3
  integer-sent v = rw (as_itself (spell v)) (integer-short v)

  entry_short : (n : Entry) (v : ℤ) → length (spell_entry n kept v) ≤ 3
  unfolding spell_entry
  entry_short AnInteger v = integer-sent v
  entry_short ACharacter v = rw (as_itself (nat_abs v ∷ [])) (omega arith)

  entries-short : (n : Entry) (vs : List ℤ) → length (spell_entries n kept vs) ≤ 3 * length vs
  unfolding spell_entries
  entries-short n [] = omega arith
  entries-short n (v ∷ vs) =
      omega (arith, entry_short n v, entries-short n vs, length-append (spell_entry n kept v) (spell_entries n kept vs))

  tail-short : (t : Tailed) (es : List ℤ) → is_tail t es ≡ true → length (spell_tail kept t es) ≤ 771
  unfolding spell_tail is_tail
  tail-short no_list es ok = omega arith
  tail-short (list_of n) es ok =
      let few = leb-true (length es) 256 (and_left (leb (length es) 256) (are_entries n es) ok) in
      omega (arith, few, integer-sent (pos (length es)), entries-short n es, length-append (sent kept (spell (pos (length es)))) (spell_entries n kept es))

  value-short : (v : Value) → length (spell_value kept v) ≤ 6
  value-short (number n v) = omega (arith, entry_short n v)
  value-short (scaled m x) =
      omega (arith, integer-sent m, integer-sent x, length-append (sent kept (spell m)) (sent kept (spell x)))
  value-short (place p) = rw (as_itself (spell_point kept.point p)) (omega (arith, bytes-short (bytes_of kept.point) (bytes_of p)))

-- a value leaves the mode
same-mode : (kept : Remembered) (v : Value) → (after_value kept v).mode ≡ kept.mode
same-mode kept (number n v) = refl
same-mode kept (scaled m x) = refl
same-mode kept (place p) = refl

pub values-mode : (kept : Remembered) (vs : List Value) → (after_values kept vs).mode ≡ kept.mode
unfolding after_values
values-mode kept [] = refl
values-mode kept (v ∷ vs) = values-mode (after_value kept v) vs ∙ same-mode kept v

-- what is sent depends on the mode alone, so a tail is spelled behind the values as it is before them
module _ (k kept : Remembered) (e : k.mode ≡ kept.mode) where
  same_sent : (w : List ℕ) → sent k w ≡ sent kept w
  unfolding sent
  same_sent w = ap (λ (m : DelMode). sent_in m w) e

  same-entry : (n : Entry) (v : ℤ) → spell_entry n k v ≡ spell_entry n kept v
  unfolding spell_entry
  same-entry AnInteger v = same_sent (spell v)
  same-entry ACharacter v = same_sent (nat_abs v ∷ [])

  same_entries : (n : Entry) (vs : List ℤ) → spell_entries n k vs ≡ spell_entries n kept vs
  unfolding spell_entries
  same_entries n [] = refl
  same_entries n (v ∷ vs) =
      ap (λ (w : List ℕ). w ++ spell_entries n k vs) (same-entry n v) ∙ ap (λ (w : List ℕ). spell_entry n kept v ++ w) (same_entries n vs)

  same-tail : (t : Tailed) (es : List ℤ) → spell_tail k t es ≡ spell_tail kept t es
  unfolding spell_tail
  same-tail no_list es = refl
  same-tail (list_of n) es =
      ap (λ (w : List ℕ). w ++ spell_entries n k es) (same_sent (spell (pos (length es))))
      ∙ ap (λ (w : List ℕ). sent kept (spell (pos (length es))) ++ w) (same_entries n es)

pub tail-kept : (kept : Remembered) (vs : List Value) (t : Tailed) (es : List ℤ) → spell_tail (after_values kept vs) t es ≡ spell_tail kept t es
tail-kept kept vs t es = same-tail (after_values kept vs) kept (values-mode kept vs) t es

values-short : (kept : Remembered) (vs : List Value) → kept.mode ≡ Data → length (spell_values kept vs) ≤ 6 * length vs
unfolding spell_values
values-short kept [] e = omega arith
values-short kept (v ∷ vs) e =
    omega (arith, value-short kept e v, values-short (after_value kept v) vs (same-mode kept v ∙ e), length-append (spell_value kept v) (spell_values (after_value kept v) vs))

few-values : (ps : Parameters) → length (values_of ps) ≤ 3
few-values (OneInteger a) = omega arith
few-values (TwoIntegers a b) = omega arith
few-values (ThreeIntegers a b c) = omega arith
few-values (OnePoint p) = omega arith
few-values (TwoPoints p q) = omega arith
few-values (AReal r) = omega arith
few-values AString = omega arith
few-values AnArray = omega arith
few-values (IntegerThenArray a) = omega arith
few-values (IntegerThenString a) = omega arith
few-values (TwoCharacters a b) = omega arith

command-short : (kept : Remembered) (c : Command) (es : List ℤ) → kept.mode ≡ Data → is_tail (tail_of c.parameters) es ≡ true → length (spell_command kept c es) ≤ 792
unfolding spell_command spell_parameters
command-short kept c es e ok =
    let vs = values_of c.parameters in
    let w = spell_values kept vs in
    let t = spell_tail (after_values kept vs) (tail_of c.parameters) es in
    let n = values-short kept vs e in
    let m = tail-short (after_values kept vs) (values-mode kept vs ∙ e) (tail_of c.parameters) es ok in
    omega (arith, n, m, few-values c.parameters, length-append w t)

-- what was poured has no more bytes than the mode lets a command have
pub bytes-few : (kept : Remembered) (c : Command) (es : List ℤ) {l o : List ℕ} {r : ℕ} → is_tail (tail_of c.parameters) es ≡ true → Poured (spell_command kept c es) 1043 l o 0 r → r ≤ most_written kept.mode
unfolding most_written
bytes-few kept c es {l} {o} {r} ok f = by kept.mode refl
  where
    by : (m : DelMode) → kept.mode ≡ m → r ≤ most_written m
    by Data e = omega (arith, f.size, command-short kept c es e ok)
    by Filler e = f.few
