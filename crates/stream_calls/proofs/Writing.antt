-- A command that is given by letters and four numbers.
use Prim.Native.Nat.{ℕ}
use mathlib.Core.Path.{◌≡◌, refl, sym, ◌∙◌}
use mathlib.Core.Bool.{true}
use mathlib.Core.List.{List}
use borrow.Author.Tests.{eq-eqb}
use lib.IntN.{ℤ}
use mir.Syntax.{w32}
use mir.Val.{SFits, to_z, of_z}
use Rattle.refusals.specs.declared.Refusal.{Refusal}
use Rattle.refusals.specs.declared.Refusal.TheVariants.{NotValid}
use Rattle.std.specs.Prelude.{Option, Some, None, Result, Err}
use Rattle.refusals.specs.Answers.{refused, answer_of}
use Rattle.memory.specs.declared.Point.{Point}
use Rattle.memory.specs.declared.Remembered.{Remembered}
use Rattle.coordinates.specs.Coordinates.{point_given}
use Rattle.coordinates.proofs.Sides.{point-given}
use Rattle.wire.specs.Sending.{write_if, after_write}
use Rattle.table.specs.declared.Kind.{Kind}
use Rattle.table.specs.declared.Kind.TheVariants as K
use Rattle.table.specs.Table.{kind_meant, kind_of, found_of}
use Rattle.parameters.specs.declared.Parameters.{Parameters}
use Rattle.writable.specs.Writable.{kind_for, kind_number, is_kind, is_command}
use Rattle.writing.specs.Writing.{write_fitting, write_command}
use Rattle.stream_calls.specs.Given.{of_kind, of_tabled, command_given, sent_behind, Writes}
use Rattle.stream_calls.specs.declared.Sent.{Sent}

-- ---- the parameters of a kind

-- numbers that come back from the list as the machine reads them
pub point_of : (a b : ℤ) {p : Point} → SFits w32 a → SFits w32 b → p ≡ point_given (to_z w32 (of_z w32 a)) (to_z w32 (of_z w32 b)) → p ≡ point_given a b
point_of a b fa fb ep = point-given a b fa fb ep

-- ---- the command, by what the table has for its letters

-- numbers that were read for a kind make parameters of that kind
kind-kept : (k : Kind) (vs : List ℤ) → kind_for (of_kind (kind_meant k) vs) ≡ kind_meant k
unfolding of_kind
kind-kept K.OneInteger vs = refl
kind-kept K.TwoIntegers vs = refl
kind-kept K.ThreeIntegers vs = refl
kind-kept K.OnePoint vs = refl
kind-kept K.TwoPoints vs = refl
kind-kept K.AReal vs = refl
kind-kept K.AString vs = refl
kind-kept K.AnArray vs = refl
kind-kept K.IntegerThenArray vs = refl
kind-kept K.IntegerThenString vs = refl
kind-kept K.TwoCharacters vs = refl

module _ (kept : Remembered) (first second : ℕ) (vs es : List ℤ) (room : ℕ) {f : Option Kind} (ef : found_of f ≡ kind_of first second) where
  module _ {kind : Kind} (g : f ≡ Some kind) {ps : Parameters} (ep : ps ≡ of_kind (kind_meant kind) vs) where
    known : record { first = first; second = second; parameters = ps } ≡ command_given first second vs
    unfolding command_given of_tabled found_of
    known = rw (sym ef, g, ep)

    fitting : is_kind first second ps ≡ true
    unfolding is_kind found_of
    fitting = rw (sym ef, g, ep, kind-kept kind vs) (eq-eqb (kind_number (kind_meant kind)) (kind_number (kind_meant kind)) refl)

    same : write_fitting kept (record { first = first; second = second; parameters = ps }) es room ≡ write_command kept (command_given first second vs) es room
    unfolding is_command
    same = rw (sym known, fitting)

    pub known_writes : (out : List ℕ) {r : Result Sent Refusal} {left : List ℕ} → Writes kept (record { first = first; second = second; parameters = ps }) es out (write_fitting kept (record { first = first; second = second; parameters = ps }) es room) r left
        → Writes kept (command_given first second vs) es out (write_command kept (command_given first second vs) es room) r left
    known_writes out w = record { answered = w.answered ∙ rw (same, known); stands = w.stands ∙ rw (same, known) }

  module _ (g : f ≡ None) where
    none : refused 8 0 ≡ write_command kept (command_given first second vs) es room
    unfolding command_given is_command is_kind found_of write_if
    none = rw (sym ef, g)

    pub unknown_writes : (out : List ℕ) → Writes kept (command_given first second vs) es out (write_command kept (command_given first second vs) es room) (Err NotValid) out
    unfolding answer_of sent_behind after_write
    unknown_writes out = record { answered = rw (sym none); stands = rw (sym none) }
