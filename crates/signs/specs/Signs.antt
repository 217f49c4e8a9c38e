-- "Negating -32768 in 16 bits": a number is a magnitude and a sign, and is never negated in a width that it does not fit.
use Rattle.std.specs.Prelude.{ℕ, Bool, true, false, leb, ℤ, pos, negsuc, neg_ℤ, nat_abs}

-- the number of a magnitude and a sign
abbrev pub signed_of : ℕ → Bool → ℤ
signed_of m true = neg_ℤ (pos m)
signed_of m false = pos m

abbrev pub is_negative : ℤ → Bool
is_negative (pos n) = false
is_negative (negsuc n) = true

-- the largest magnitude of a negative integer, and of another
abbrev pub most_magnitude : Bool → ℕ
most_magnitude true = 32768
most_magnitude false = 32767

-- "Range -32768..32767"
abbrev pub is_integer : ℤ → Bool
is_integer v = leb (nat_abs v) (most_magnitude (is_negative v))
