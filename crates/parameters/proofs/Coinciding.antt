-- Two conforming answers of `look_at` coincide: values and tail fix the parameters. So do two of `numbers_of`, of `tail_of` and of `last_point`.
use Prim.Native.Nat.{ℕ, ◌+◌, ◌*◌}
use mathlib.Core.Path.{◌≡◌, refl, sym, ◌∙◌, ap}
use mathlib.Core.List.{List, [], ◌∷◌}
use lib.Dec.{eqb}
use lib.ListN.{get_or, length}
use lib.Seq.{length-take-le}
use lib.IntN.{ℤ, pos}
use Rattle.memory.specs.declared.Point.{Point}
use Rattle.std.specs.Prelude.{Option, Some, None, Result, Ok, Err}
use Rattle.refusals.specs.declared.Refusal.{Refusal}
use Rattle.refusals.specs.declared.RefusedAt.{RefusedAt}
use Rattle.parameters.specs.declared.Entry.{Entry}
use Rattle.parameters.specs.declared.TakenParameters.{TakenParameters}
use Rattle.refusals.specs.Answers.{Answer, done, refused, pick}
use Rattle.refusals.proofs.Coinciding.{named, named_back, coincide}
use Rattle.parameters.specs.declared.Entry.TheVariants.{AnInteger, ACharacter}
use Rattle.parameters.specs.declared.Parameters.{Parameters}
use Rattle.parameters.specs.declared.Parameters.TheVariants.{OneInteger, TwoIntegers, ThreeIntegers, OnePoint, TwoPoints, AReal, TwoCharacters, AString, AnArray, IntegerThenString, IntegerThenArray}
use Rattle.parameters.specs.Shapes.{Tailed, no_list, list_of, tail_meant, Pointed, no_point, last, point_meant, Value, number, scaled, place, values_of, tail_of}
use Rattle.parameters.specs.declared.Numbers.{Numbers}
use Rattle.parameters.specs.Numbers.{Holds, numbers_of}
use Rattle.parameters.specs.Looking.{Parsed, look_of}

-- a number for each kind of values, by which they are told apart
value_code : Value → ℕ
value_code (number AnInteger v) = 1
value_code (number ACharacter v) = 2
value_code (scaled m x) = 3
value_code (place p) = 4

codes : List Value → ℕ
codes [] = 0
codes (v ∷ vs) = value_code v + 5 * codes vs

tail_code : Tailed → ℕ
tail_code no_list = 0
tail_code (list_of AnInteger) = 1
tail_code (list_of ACharacter) = 2

-- what a value holds
integer_in : Value → ℤ
integer_in (number e v) = v
integer_in (scaled m x) = m
integer_in (place p) = pos 0

exponent_in : Value → ℤ
exponent_in (number e v) = v
exponent_in (scaled m x) = x
exponent_in (place p) = pos 0

point_in : Value → Point
point_in (number e v) = record { x = 0; y = 0 }
point_in (scaled m x) = record { x = 0; y = 0 }
point_in (place p) = p

at : List Value → ℕ → Value
at vs n = get_or vs n (number AnInteger (pos 0))

chosen : ℕ → List Value → Parameters
chosen n vs =
    pick (eqb n 3) (OneInteger (integer_in (at vs 0)))
    (pick (eqb n 18) (TwoIntegers (integer_in (at vs 0)) (integer_in (at vs 1)))
    (pick (eqb n 93) (ThreeIntegers (integer_in (at vs 0)) (integer_in (at vs 1)) (integer_in (at vs 2)))
    (pick (eqb n 12) (OnePoint (point_in (at vs 0)))
    (pick (eqb n 72) (TwoPoints (point_in (at vs 0)) (point_in (at vs 1)))
    (pick (eqb n 9) (AReal (record { mantissa = integer_in (at vs 0); exponent = exponent_in (at vs 0) }))
    (pick (eqb n 36) (TwoCharacters (integer_in (at vs 0)) (integer_in (at vs 1)))
    (pick (eqb n 2) AString
    (pick (eqb n 1) AnArray
    (pick (eqb n 5) (IntegerThenString (integer_in (at vs 0)))
    (IntegerThenArray (integer_in (at vs 0))))))))))))

pub parameters_for : List Value → Tailed → Parameters
parameters_for vs t = chosen (codes vs * 3 + tail_code t) vs

pub parameters-for : (ps : Parameters) → parameters_for (values_of ps) (tail_of ps) ≡ ps
unfolding parameters_for chosen codes value_code tail_code integer_in exponent_in point_in at
parameters-for (OneInteger a) = refl
parameters-for (TwoIntegers a b) = refl
parameters-for (ThreeIntegers a b c) = refl
parameters-for (OnePoint p) = refl
parameters-for (TwoPoints p q) = refl
parameters-for (AReal r) = refl
parameters-for (TwoCharacters a b) = refl
parameters-for AString = refl
parameters-for AnArray = refl
parameters-for (IntegerThenString a) = refl
parameters-for (IntegerThenArray a) = refl

look_back : Answer Parsed → Result TakenParameters RefusedAt
look_back (done p) = Ok (record { parameters = parameters_for p.values p.tail; run = record { start = p.start; count = p.count; next = p.next }; kept = p.kept })
look_back (refused e p) = Err (record { refusal = named e; place = p })

look_same : (r : Result TakenParameters RefusedAt) → look_back (look_of r) ≡ r
unfolding look_of look_back
look_same (Ok t) = ap (λ (x : Parameters). Ok (record { parameters = x; run = t.run; kept = t.kept })) (parameters-for t.parameters)
look_same (Err e) = ap (λ (x : Refusal). Err (record { refusal = x; place = e.place })) (named_back e.refusal)

pub looks_coincide : {x y : Result TakenParameters RefusedAt} {d : Answer Parsed} → look_of x ≡ d → look_of y ≡ d → x ≡ y
looks_coincide = coincide look_of look_back look_same

-- ---- numbers_of

-- how many numbers there are is how many the values have
held-long : (vs : List Value) (r : Numbers) → Holds vs r → r.len ≡ length (numbers_of vs)
held-long vs r h = sym (length-take-le r.len r.values h.within) ∙ ap (λ (l : List ℤ). length l) h.same

numbers-by : (a b : List ℤ) (m n : ℕ) → a ≡ b → m ≡ n → ◌≡◌ {A = Numbers} (record { values = a; len = m }) (record { values = b; len = n })
numbers-by a b m n e f = rw (e, f)

pub numbers-coincide : (vs : List Value) (x y : Numbers) → Holds vs x → Holds vs y → x ≡ y
numbers-coincide vs x y h k =
    numbers-by x.values y.values x.len y.len (h.four ∙ sym k.four) (held-long vs x h ∙ sym (held-long vs y k))

-- ---- tail_of and last_point

tail-back : Tailed → Option Entry
tail-back no_list = None
tail-back (list_of e) = Some e

tail-same : (t : Option Entry) → tail-back (tail_meant t) ≡ t
unfolding tail-back
tail-same None = refl
tail-same (Some e) = refl

pub tails_coincide : (x y : Option Entry) {d : Tailed} → tail_meant x ≡ d → tail_meant y ≡ d → x ≡ y
tails_coincide x y = coincide tail_meant tail-back tail-same

point-back : Pointed → Option Point
point-back no_point = None
point-back (last p) = Some p

point-same : (r : Option Point) → point-back (point_meant r) ≡ r
unfolding point-back
point-same None = refl
point-same (Some p) = refl

pub last-points_coincide : (x y : Option Point) {d : Pointed} → point_meant x ≡ d → point_meant y ≡ d → x ≡ y
last-points_coincide x y = coincide point_meant point-back point-same
