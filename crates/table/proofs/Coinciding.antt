-- Two conforming answers of kind_of coincide, and two kinds that mean the same.
use mathlib.Core.Path.{◌≡◌, refl, ap}
use Rattle.std.specs.Prelude.{Option, Some, None}
use Rattle.refusals.proofs.Coinciding.{coincide}
use Rattle.table.specs.declared.Kind.{Kind}
use Rattle.table.specs.Table.{ParameterKind, Tabled, in_table, not_in_table, kind_meant, found_of}
use Rattle.table.specs.Table as Table

kind-back : ParameterKind → Kind
kind-back Table.one_integer = Kind.OneInteger
kind-back Table.two_integers = Kind.TwoIntegers
kind-back Table.three_integers = Kind.ThreeIntegers
kind-back Table.one_point = Kind.OnePoint
kind-back Table.two_points = Kind.TwoPoints
kind-back Table.a_real = Kind.AReal
kind-back Table.a_string = Kind.AString
kind-back Table.an_array = Kind.AnArray
kind-back Table.integer_then_array = Kind.IntegerThenArray
kind-back Table.integer_then_string = Kind.IntegerThenString
kind-back Table.two_characters = Kind.TwoCharacters

kind-same : (k : Kind) → kind-back (kind_meant k) ≡ k
unfolding kind-back
kind-same Kind.OneInteger = refl
kind-same Kind.TwoIntegers = refl
kind-same Kind.ThreeIntegers = refl
kind-same Kind.OnePoint = refl
kind-same Kind.TwoPoints = refl
kind-same Kind.AReal = refl
kind-same Kind.AString = refl
kind-same Kind.AnArray = refl
kind-same Kind.IntegerThenArray = refl
kind-same Kind.IntegerThenString = refl
kind-same Kind.TwoCharacters = refl

pub kinds_coincide : (x y : Kind) {d : ParameterKind} → kind_meant x ≡ d → kind_meant y ≡ d → x ≡ y
kinds_coincide x y = coincide kind_meant kind-back kind-same

found_back : Tabled → Option Kind
found_back (in_table k) = Some (kind-back k)
found_back not_in_table = None

found_same : (r : Option Kind) → found_back (found_of r) ≡ r
unfolding found_back found_of
found_same (Some k) = ap Some (kind-same k)
found_same None = refl

pub founds_coincide : {x y : Option Kind} {d : Tabled} → found_of x ≡ d → found_of y ≡ d → x ≡ y
founds_coincide = coincide found_of found_back found_same
