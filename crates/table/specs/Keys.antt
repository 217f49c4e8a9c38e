-- Where the row of a command is looked for: by a key made of both letters. Each command has a key of its own.
use Rattle.std.specs.Prelude.{ℕ, ◌+◌, ◌*◌, ◌%◌, ◌≡◌, Bool, true, ◌&&◌, eqb}
use Rattle.refusals.specs.Answers.{pick, every}
use Rattle.table.specs.Table.{ParameterKind, TableRow, in_table, table, kind_of}

unfoldable pub key_of : ℕ → ℕ → ℕ
key_of a b = (31 * a + 2 * b) % 64

-- a row that has another key, or is the one with these letters
abbrev pub no_other : ℕ → ℕ → ℕ → TableRow → Bool
no_other n a b e = pick (eqb n (key_of e.first e.second)) (eqb e.first a && eqb e.second b) true

-- no other command than that of these letters has the key n
unfoldable pub only_with : ℕ → ℕ → ℕ → Bool
only_with n a b = every (no_other n a b) table

-- a row of the table, and the only one that may have the key n
pub record RowAt (n a b : ℕ) (k : ParameterKind) : Type 0 where
  pub tabled : kind_of a b ≡ in_table k
  pub only : only_with n a b ≡ true
