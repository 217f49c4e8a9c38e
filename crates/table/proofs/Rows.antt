-- The row that is found by a key: it is a row of the table, and letters that have this key and are not its own are in no row.
use Prim.Native.Nat.{ℕ}
use mathlib.Core.Path.{◌≡◌, refl, sym, ◌∙◌, ap}
use mathlib.Core.Bool.{Bool, true, ◌&&◌}
use mathlib.Core.List.{List, [], ◌∷◌}
use lib.Dec.{eqb}
use borrow.Author.Rules.{rules}
use borrow.Author.Tests.{eqb-true, eq-eqb}
use Rattle.refusals.specs.Answers.{pick, every}
use Rattle.refusals.proofs.Cases.{by_pick, and_left, and_right}
use Rattle.refusals.proofs.Many.{every-split}
use Rattle.table.specs.Table.{ParameterKind, TableRow, Tabled, in_table, not_in_table, table, kind_in, kind_of}
use Rattle.table.specs.Keys.{key_of, no_other, only_with, RowAt}

-- a row whose key is known
pub row_known : (a b : ℕ) (k : ParameterKind) {n m : ℕ} → n ≡ m → kind_of a b ≡ in_table k → only_with m a b ≡ true → RowAt n a b k
row_known a b k e g h = rw e (record { tabled = g; only = h })

-- a row with these letters has their key, and so is the row that is found by it
this_row : (a b f g : ℕ) (x : TableRow) → no_other (key_of a b) f g x ≡ true → (eqb a x.first && eqb b x.second) ≡ true → (f ≡ a) × (g ≡ b)
this_row a b f g x e q =
    let one : a ≡ x.first = eqb-true a x.first (and_left _ _ q) in
    let two : b ≡ x.second = eqb-true b x.second (and_right (eqb a x.first) _ q) in
    let key : eqb (key_of a b) (key_of x.first x.second) ≡ true =
    eq-eqb (key_of a b) (key_of x.first x.second) (ap (λ (c : ℕ). key_of c b) one ∙ ap (key_of x.first) two) in
    let own : (eqb x.first f && eqb x.second g) ≡ true =
    sym (ap (λ (t : Bool). pick t (eqb x.first f && eqb x.second g) true) key) ∙ e in (
      sym (one ∙ eqb-true x.first f (and_left _ _ own)),
      sym (two ∙ eqb-true x.second g (and_right (eqb x.first f) _ own)),
    )

other-rows : (a b f g : ℕ) → ((f ≡ a) × (g ≡ b) → ⊥) → (es : List TableRow) → every (no_other (key_of a b) f g) es ≡ true → kind_in es a b ≡ not_in_table
other-rows a b f g h [] e = refl
other-rows a b f g h (x ∷ es) e =
    let split = every-split (no_other (key_of a b) f g) x es e in
    by_pick (λ (t : Tabled). t ≡ not_in_table) (eqb a x.first && eqb b x.second) (in_table x.kind) (kind_in es a b)
    (λ q. absurd (h (this_row a b f g x split.0 q)))
    (λ q. other-rows a b f g h es split.1)

-- ---- letters, and those of the row found by their key

pub letters-found : (a b f g : ℕ) {n : ℕ} {k : ParameterKind} → RowAt n f g k → f ≡ a → g ≡ b → in_table k ≡ kind_of a b
letters-found a b f g h e q = sym h.tabled ∙ ap (λ (c : ℕ). kind_of c g) e ∙ ap (kind_of a) q

letters-apart : (a b f g : ℕ) {n : ℕ} {k : ParameterKind} → RowAt n f g k → n ≡ key_of a b → ((f ≡ a) × (g ≡ b) → ⊥) → not_in_table ≡ kind_of a b
unfolding only_with kind_of
letters-apart a b f g h e apart =
    sym (other-rows a b f g apart table (sym (ap (λ (n : ℕ). every (no_other n f g) table) e) ∙ h.only))

pub first-apart : (a b f g : ℕ) {n : ℕ} {k : ParameterKind} → RowAt n f g k → n ≡ key_of a b → (f ≡ a → ⊥) → not_in_table ≡ kind_of a b
first-apart a b f g h e apart = letters-apart a b f g h e (λ q. apart q.0)

pub second-apart : (a b f g : ℕ) {n : ℕ} {k : ParameterKind} → RowAt n f g k → n ≡ key_of a b → (g ≡ b → ⊥) → not_in_table ≡ kind_of a b
second-apart a b f g h e apart = letters-apart a b f g h e (λ q. apart q.1)

pub ruleset rows = (rules, letters-found, first-apart, second-apart)
