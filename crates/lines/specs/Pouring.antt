-- Bytes poured one after the other: what has room is stored, and all of it is counted.
use Rattle.std.specs.Prelude.{ℕ, ◌+◌, ◌-◌, ◌<◌, min, ◌≡◌, List, length}
use Rattle.std.proofs.lemmas.List.Edits.{sets}

-- no lent bytes are as many, and no count goes on past it
abbrev pub far : ℕ
far = 9223372036854775808

-- where the next byte goes, behind w
unfoldable pub behind : ℕ → List ℕ → ℕ
behind at w = at + min (length w) (far - at)

-- w was poured from at on
pub record Put (l : List ℕ) (at : ℕ) (w : List ℕ) (n : ℕ) (o : List ℕ) : Type 0 where
  pub room : length l < far
  pub next : n ≡ behind at w
  pub stands : o ≡ sets l at w
