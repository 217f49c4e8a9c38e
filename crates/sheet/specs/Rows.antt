-- The rows of the tables: what a definition gives on one input, and what is set beside it. An answer is a list of numbers.
use Rattle.std.specs.Prelude.{ℕ, suc, Bool, true, false, not, ◌&&◌, List, [], ◌∷◌, ◌++◌, eqb, ℤ, pos, negsuc}
use Rattle.memory.specs.declared.Point.{Point}
use Rattle.memory.specs.declared.DelMode.{DelMode}
use Rattle.memory.specs.declared.DelMode.TheVariants.{Data, Filler}
use Rattle.memory.specs.declared.Remembered.{Remembered}
use Rattle.refusals.specs.declared.Taken.{Taken}
use Rattle.refusals.specs.Answers.{Answer, done, refused}

-- what the papers set
pub record SheetRow : Type 0 where
  pub given : List ℕ
  pub paper : List ℕ

abbrev pub given-of : SheetRow → List ℕ
given-of r = r.given

abbrev pub paper-of : SheetRow → List ℕ
paper-of r = r.paper

-- what a wrong program answers
pub record Wrong : Type 0 where
  pub given : List ℕ
  pub wrong : List ℕ

abbrev pub but : (given wrong : List ℕ) → Wrong
but given wrong = record { given = given; wrong = wrong }

abbrev pub alike : List ℕ → List ℕ → Bool
alike [] [] = true
alike [] (y ∷ ys) = false
alike (x ∷ xs) [] = false
alike (x ∷ xs) (y ∷ ys) = eqb x y && alike xs ys

abbrev pub differs : Wrong → Bool
differs r = not (alike r.given r.wrong)

-- ---- answers as lists of numbers

-- a truth value is 1 or 0
abbrev pub truth : Bool → List ℕ
truth true = (1 ∷ [])
truth false = (0 ∷ [])

-- a number has its sign in front: 1 where it is negative
abbrev pub signs : ℤ → List ℕ
signs (pos n) = (0 ∷ n ∷ [])
signs (negsuc n) = (1 ∷ suc n ∷ [])

abbrev pub signs_of : List ℤ → List ℕ
signs_of [] = []
signs_of (v ∷ vs) = signs v ++ signs_of vs

abbrev pub at : ℕ → ℕ → Point
at x y = record { x = x; y = y }

-- what is remembered: a point, and the DEL mode of before KI 1, or that behind it
abbrev pub from : ℕ → ℕ → Remembered
from x y = record { point = at x y; mode = Data }

abbrev pub padded_from : ℕ → ℕ → Remembered
padded_from x y = record { point = at x y; mode = Filler }

-- "Hosts that pad with DEL set IGNORE DELETES first": what is remembered behind a KI 1 alone
abbrev pub padded : Remembered
padded = padded_from 0 0

-- a reading: 0, the value, the place of its last byte and where reading goes on; or the refusal and its place
abbrev pub reading_of : {A : Type 0} → (A → List ℕ) → Answer (Taken A) → List ℕ
reading_of value (done r) = 0 ∷ (value r.value ++ (r.place ∷ r.next ∷ []))
reading_of value (refused e p) = (e ∷ p ∷ [])

abbrev pub number_is : ℕ → List ℕ
number_is n = (n ∷ [])

abbrev pub point-is : Point → List ℕ
point-is p = (p.x ∷ p.y ∷ [])

-- what is remembered: x, y, and the mode, 1 where a plain 127 is passed over
abbrev pub mode_is : DelMode → ℕ
mode_is Data = 0
mode_is Filler = 1

abbrev pub kept-is : Remembered → List ℕ
kept-is kept = (kept.point.x ∷ kept.point.y ∷ mode_is kept.mode ∷ [])

-- a writing: 0 and where the next byte goes, or the refusal and 0; and the output behind it
abbrev pub writing_of : Answer ℕ → List ℕ → List ℕ
writing_of (done n) out = 0 ∷ n ∷ out
writing_of (refused e p) out = e ∷ 0 ∷ out

-- the groups of a column, one behind the other
abbrev pub joined : List (List Wrong) → List Wrong
joined [] = []
joined (g ∷ gs) = g ++ joined gs
