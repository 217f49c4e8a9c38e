-- Two answers that say the same are the same: what a promise says through numbers and values fixes the answer itself.
use Prim.Native.Nat.{ℕ}
use mathlib.Core.Path.{◌≡◌, refl, sym, ◌∙◌, ap}
use mathlib.Core.List.{[], ◌∷◌}
use lib.ListN.{get_or}
use Rattle.refusals.specs.declared.Refusal.{Refusal}
use Rattle.refusals.specs.declared.Refusal.TheVariants.{BytesEnd, UnknownCommand, ByteNotAllowed, IntegerOutside, CountOutside, NewEscape, TooShort, NotValid, BitsNotSet, RasterCharacters, SurfaceSize, StoreMalformed, StoreTooShort, NoSuchMacro, TooDeep, TooManyMacros, BodyRefused}
use Rattle.std.specs.Prelude.{Result, Ok, Err}
use Rattle.refusals.specs.declared.RefusedAt.{RefusedAt}
use Rattle.refusals.specs.Refusals.{number_of}
use Rattle.refusals.specs.Answers.{Answer, done, refused, answer_at, answer_of}

-- the refusal of a number
abbrev pub named : ℕ → Refusal
named n =
    get_or (BytesEnd ∷ BytesEnd ∷ UnknownCommand ∷ ByteNotAllowed ∷ IntegerOutside ∷ CountOutside ∷ NewEscape ∷ TooShort ∷ NotValid ∷ BitsNotSet ∷ RasterCharacters ∷ SurfaceSize ∷ StoreMalformed ∷ StoreTooShort ∷ NoSuchMacro ∷ TooDeep ∷ TooManyMacros ∷ BodyRefused ∷ []) n BytesEnd

pub named_back : (r : Refusal) → named (number_of r) ≡ r
named_back BytesEnd = refl
named_back UnknownCommand = refl
named_back ByteNotAllowed = refl
named_back IntegerOutside = refl
named_back CountOutside = refl
named_back NewEscape = refl
named_back TooShort = refl
named_back NotValid = refl
named_back BitsNotSet = refl
named_back RasterCharacters = refl
named_back SurfaceSize = refl
named_back StoreMalformed = refl
named_back StoreTooShort = refl
named_back NoSuchMacro = refl
named_back TooDeep = refl
named_back TooManyMacros = refl
named_back BodyRefused = refl

-- said once for every call: an answer that can be read off what it says is fixed by what it says
pub coincide : {A B : Type 0} (says : A → B) (back : B → A) → ((a : A) → back (says a) ≡ a) → {x y : A} {d : B} → says x ≡ d → says y ≡ d → x ≡ y
coincide says back h {x = x} {y = y} e f = sym (h x) ∙ ap back (e ∙ sym f) ∙ h y

-- ---- what may be refused

at_back : {A : Type 0} → Answer A → Result A RefusedAt
at_back (done a) = Ok a
at_back (refused e p) = Err (record { refusal = named e; place = p })

at_same : {A : Type 0} (r : Result A RefusedAt) → at_back (answer_at r) ≡ r
unfolding answer_at at_back
at_same (Ok a) = refl
at_same (Err e) = ap (λ (x : Refusal). Err (record { refusal = x; place = e.place })) (named_back e.refusal)

pub readings_coincide : {A : Type 0} {x y : Result A RefusedAt} {d : Answer A} → answer_at x ≡ d → answer_at y ≡ d → x ≡ y
readings_coincide = coincide answer_at at_back at_same

of_back : {A : Type 0} → Answer A → Result A Refusal
of_back (done a) = Ok a
of_back (refused e p) = Err (named e)

of_same : {A : Type 0} (r : Result A Refusal) → of_back (answer_of r) ≡ r
unfolding answer_of of_back
of_same (Ok a) = refl
of_same (Err e) = ap Err (named_back e)

pub answers_coincide : {A : Type 0} {x y : Result A Refusal} {d : Answer A} → answer_of x ≡ d → answer_of y ≡ d → x ≡ y
answers_coincide = coincide answer_of of_back of_same
