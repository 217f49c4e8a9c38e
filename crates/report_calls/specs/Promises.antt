-- What a report call hands back: the promise of an exported call names the answer of the call beneath once.
use Rattle.std.specs.Prelude.{ℕ, ◌≡◌, ℤ, pos}
use Rattle.refusals.specs.declared.Taken.{Taken}
use Rattle.refusals.specs.Answers.{Answer, value_or, place_of}
use Rattle.refusals.specs.Answers as answers
use Rattle.reports.specs.declared.TakenString.{TakenString}

-- an integer that was read: 0 or the refusal's number, the value, and where reading goes on or the refusal's place
pub record HandsInteger (a : Answer (Taken ℤ)) (number : ℕ) (value : ℤ) (place : ℕ) : Type 0 where
  pub same_number : number ≡ answers.number a
  pub same-value : value ≡ value_or (pos 0) (λ (r : Taken ℤ). r.value) a
  pub same_place : place ≡ place_of (λ (r : Taken ℤ). r.next) a

-- a string that was read: the number of entries in place of the value
pub record HandsString (a : Answer TakenString) (number count place : ℕ) : Type 0 where
  pub same_number : number ≡ answers.number a
  pub same_count : count ≡ value_or 0 (λ (t : TakenString). t.count) a
  pub same_place : place ≡ place_of (λ (t : TakenString). t.next) a

-- a report that was written: where the next byte goes
pub record HandsWriting (a : Answer ℕ) (number next : ℕ) : Type 0 where
  pub same_number : number ≡ answers.number a
  pub same_next : next ≡ value_or 0 (λ (n : ℕ). n) a
