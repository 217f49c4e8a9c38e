-- What the walker and the entry count on, and what they leave.
use Rattle.std.specs.Prelude.{ℕ, ◌+◌, ◌-◌, ◌*◌, ◌^◌, ◌≤◌, ◌<◌, ◌≡◌, List, Result}
use Rattle.std.proofs.lemmas.List.Edits.{sets}
use Rattle.refusals.specs.declared.Refusal.{Refusal}
use Rattle.refusals.specs.Answers.{answer_of}
use Rattle.expansion.specs.declared.Expanded.{Expanded}
use Rattle.expansion.specs.Expansion.{Stretch, reached_by}

-- the place can still be counted when all that may come has come: left bytes here, and 256 for each macro not yet entered
pub record Roomy (from : Expanded) (left : ℕ) : Type 0 where
  pub few : from.entered ≤ 1024
  pub fits : from.written + left + 256 * (1024 - from.entered) < 2 ^ 32

-- a stretch was written from a place on, as far as there was room
pub record Ran (c : Stretch) (at : ℕ) (out out' : List ℕ) (r : Result Expanded Refusal) : Type 0 where
  pub told : answer_of r ≡ reached_by at c
  pub stands : out' ≡ sets out at c.bytes
