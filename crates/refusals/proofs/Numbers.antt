-- The number of a refusal, as an arm of a `match` has it, and refusals in their order.
use Prim.Native.Nat.{ℕ}
use mathlib.Core.Path.{◌≡◌, refl, sym, ◌∙◌, ap}
use mathlib.Core.Bool.{Bool, true, false}
use lib.Dec.{eqb}
use Rattle.refusals.specs.declared.Refusal.{Refusal}
use Rattle.refusals.specs.declared.Refusal.TheVariants.{BytesEnd, UnknownCommand, ByteNotAllowed, IntegerOutside, CountOutside, NewEscape, TooShort, NotValid, BitsNotSet, RasterCharacters, SurfaceSize, StoreMalformed, StoreTooShort, NoSuchMacro, TooDeep, TooManyMacros, BodyRefused}
use Rattle.refusals.specs.Refusals.{number_of}
use Rattle.refusals.specs.Answers.{demand}

pub numbered : (n : ℕ) {r q : Refusal} → r ≡ q → number_of q ≡ n → n ≡ number_of r
numbered n e g = sym (ap number_of e ∙ g)

-- no refusal has the number 0, which means done
pub not_nought : (r : Refusal) → eqb (number_of r) 0 ≡ false
not_nought BytesEnd = refl
not_nought UnknownCommand = refl
not_nought ByteNotAllowed = refl
not_nought IntegerOutside = refl
not_nought CountOutside = refl
not_nought NewEscape = refl
not_nought TooShort = refl
not_nought NotValid = refl
not_nought BitsNotSet = refl
not_nought RasterCharacters = refl
not_nought SurfaceSize = refl
not_nought StoreMalformed = refl
not_nought StoreTooShort = refl
not_nought NoSuchMacro = refl
not_nought TooDeep = refl
not_nought TooManyMacros = refl
not_nought BodyRefused = refl

-- ---- tests in the paper's order

-- where there is no refusal, the test has passed and what comes next gives none
pub met : (ok : Bool) (e next : ℕ) → (e ≡ 0 → ⊥) → demand ok e next ≡ 0 → (ok ≡ true) × (next ≡ 0)
met true e next h q = (refl, q)
met false e next h q = absurd (h q)
