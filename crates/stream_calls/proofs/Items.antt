-- The kind of a command's parameters, as the slots number it.
use mathlib.Core.Path.{◌≡◌, refl}
use Rattle.parameters.specs.declared.Parameters.{Parameters}
use Rattle.parameters.specs.declared.Parameters.TheVariants.{OneInteger, TwoIntegers, ThreeIntegers, OnePoint, TwoPoints, AReal, AString, AnArray, IntegerThenArray, IntegerThenString, TwoCharacters}
use Rattle.parameters.specs.Shapes.{values_of, tail_of}
use Rattle.writable.specs.Writable.{kind_for, kind_number}
use Rattle.stream_calls.specs.Slots.{kind_slot}

-- ---- a command's kind

-- the kind that the parameters are made as is the kind that they are
pub kind_slot_lem : (ps : Parameters) → kind_slot (values_of ps) (tail_of ps) ≡ kind_number (kind_for ps)
unfolding kind_slot
kind_slot_lem (OneInteger a) = refl
kind_slot_lem (TwoIntegers a b) = refl
kind_slot_lem (ThreeIntegers a b c) = refl
kind_slot_lem (OnePoint p) = refl
kind_slot_lem (TwoPoints p q) = refl
kind_slot_lem (AReal r) = refl
kind_slot_lem (TwoCharacters a b) = refl
kind_slot_lem AString = refl
kind_slot_lem AnArray = refl
kind_slot_lem (IntegerThenString a) = refl
kind_slot_lem (IntegerThenArray a) = refl
