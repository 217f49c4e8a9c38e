-- The numbers of the parameters and their entries, by what was poured for them.
use Prim.Native.Nat.{ℕ, ◌-◌, ◌*◌, ◌^◌, ◌<◌, min}
use mathlib.Core.Path.{◌≡◌, sym, ◌∙◌, ap}
use mathlib.Core.Bool.{Bool, true, false}
use mathlib.Core.List.{List}
use mathlib.Core.Logic.{⊎_elim}
use native.Mathlib.Nat.{eq-zero-or-pos}
use native.Mathlib.Omega.{arith}
use lib.ListN.{length, take}
use lib.Seq.{take_all}
use lib.IntN.{ℤ, pos}
use Rattle.std.specs.Prelude.{Option, Some, None}
use Rattle.std.specs.Option.{is_some}
use Rattle.refusals.proofs.Cases.{zero_one}
use Rattle.parameters.specs.declared.Entry.{Entry}
use Rattle.parameters.specs.declared.Numbers.{Numbers}
use Rattle.parameters.specs.Shapes.{Tailed, tail_meant, Value}
use Rattle.parameters.specs.Numbers.{numbers_of, Holds}
use Rattle.lines.specs.Decimals.{field, fields}
use Rattle.lines.specs.Pouring.{Put}
use Rattle.lines.specs.Lines.{listed}
use Rattle.lines.proofs.Pours.{poured_none, poured_both}

pub fixed_poured : {vs : List Value} {r : Numbers} {l o : List ℕ} {at n : ℕ} → Holds vs r → Put l at (fields (take r.len r.values)) n o → Put l at (fields (numbers_of vs)) n o
fixed_poured h p = rw h.same at p

first_of : (k : ℕ) (list : List ℤ) → take (min k (length list)) list ≡ take k list
first_of k list =
    ⊎_elim
    (λ e. let z : min k (length list) ≡ k = omega arith in ap (λ (i : ℕ). take i list) z)
    (λ e. take_all (min k (length list)) list (omega arith) ∙ sym (take_all k list (omega arith)))
    (eq-zero-or-pos (k - length list))

pub list_poured : (u : Option Entry) (t : Tailed) (k : ℕ) (list : List ℤ) {m : ℕ} {l h o : List ℕ} {at j n : ℕ} {b : Bool} → tail_meant u ≡ t → b ≡ is_some u → b ≡ true → m ≡ min k (length list) → Put h j (fields (take m list)) n o → Put l at (field (pos k)) j h → Put l at (listed t k list) n o
unfolding listed
list_poured (Some x) t k list e f g d q p = rw (← e, ← first_of k list, ← d) (poured_both q p)
list_poured None t k list e f g d q p = let z : ◌≡◌ {A = ℕ} 0 1 = cc in absurd (zero_one z)

pub no_list : (u : Option Entry) (t : Tailed) (k : ℕ) (list : List ℤ) (l : List ℕ) (at : ℕ) {b : Bool} → tail_meant u ≡ t → b ≡ is_some u → b ≡ false → length l * 1 < 2 ^ 63 → Put l at (listed t k list) at l
unfolding listed
no_list None t k list l at e f g h = rw (← e) (poured_none l at h)
no_list (Some x) t k list l at e f g h = let z : ◌≡◌ {A = ℕ} 0 1 = cc in absurd (zero_one z)

pub ruleset lists = (fixed_poured, list_poured, no_list)
