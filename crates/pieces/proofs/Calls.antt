-- A call of a macro has one integer, which is the number that the piece hands on.
use Prim.Native.Nat.{ℕ}
use mathlib.Core.Path.{◌≡◌, sym, ◌∙◌, ap}
use mathlib.Core.List.{List, [], ◌∷◌, map}
use native.Mathlib.Omega.{arith}
use Rattle.memory.specs.declared.Remembered.{Remembered}
use Rattle.refusals.specs.Answers.{done}
use Rattle.table.specs.Table.{ParameterKind, in_table, kind_of}
use Rattle.table.specs.Table as K
use Rattle.parameters.specs.declared.Entry.TheVariants.{AnInteger}
use Rattle.parameters.specs.Shapes.{single, Shape, Value, number, scaled, place, shape_of}
use Rattle.commands.specs.Reading.{Meaning, command_at}
use Rattle.laws.proofs.RoundTrip.{part_of}
use Rattle.laws.proofs.Shortest.{command-shown}
use Rattle.commands.specs.Behind.{leading}

one-integer : (vs : List Value) → map part_of vs ≡ single AnInteger ∷ [] → vs ≡ number AnInteger (leading vs) ∷ []
one-integer [] e = let z : ◌≡◌ {A = ℕ} 0 1 = cc in absurd (omega arith)
one-integer (number k a ∷ []) e = let z : k ≡ AnInteger = cc in rw z
one-integer (scaled m x ∷ []) e = let z : ◌≡◌ {A = ℕ} 0 1 = cc in absurd (omega arith)
one-integer (place p ∷ []) e = let z : ◌≡◌ {A = ℕ} 0 1 = cc in absurd (omega arith)
one-integer (v ∷ w ∷ vs) e = let z : ◌≡◌ {A = ℕ} 0 1 = cc in absurd (omega arith)

kind-is : (k : ParameterKind) → kind_of 75 88 ≡ in_table k → k ≡ K.one_integer
unfolding kind_of
kind-is k e = cc

pub call_integer : (kept : Remembered) (s : List ℕ) (start room : ℕ) {m : Meaning} → command_at kept s start room ≡ done m → m.first ≡ 75 → m.second ≡ 88 → m.values ≡ number AnInteger (leading m.values) ∷ []
call_integer kept s start room {m = m} e a b =
    let f = command-shown kept s start room e in
    let k : f.kind ≡ K.one_integer = kind-is f.kind (ap (λ (x : ℕ). kind_of x 88) (sym a) ∙ ap (kind_of m.first) (sym b) ∙ f.known) in
    one-integer m.values (sym (ap (λ (x : Shape). x.fixed) f.shape_is) ∙ ap (λ (x : ParameterKind). (shape_of x).fixed) k)
