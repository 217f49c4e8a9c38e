-- Document 01, "Numbers the unit gives back": the number of each refusal.
use Rattle.std.specs.Prelude.{ℕ}
use Rattle.refusals.specs.declared.Refusal.{Refusal}
use Rattle.refusals.specs.declared.Refusal.TheVariants.{BytesEnd, UnknownCommand, ByteNotAllowed, IntegerOutside, CountOutside, NewEscape, TooShort, NotValid, BitsNotSet, RasterCharacters, SurfaceSize, StoreMalformed, StoreTooShort, NoSuchMacro, TooDeep, TooManyMacros, BodyRefused}

abbrev pub number_of : Refusal → ℕ
number_of BytesEnd = 1
number_of UnknownCommand = 2
number_of ByteNotAllowed = 3
number_of IntegerOutside = 4
number_of CountOutside = 5
number_of NewEscape = 6
number_of TooShort = 7
number_of NotValid = 8
number_of BitsNotSet = 9
number_of RasterCharacters = 10
number_of SurfaceSize = 11
number_of StoreMalformed = 12
number_of StoreTooShort = 13
number_of NoSuchMacro = 14
number_of TooDeep = 15
number_of TooManyMacros = 16
number_of BodyRefused = 17
