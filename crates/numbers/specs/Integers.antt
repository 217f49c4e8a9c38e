-- "Integer. Up to two high bytes 64..127, six bits each, then a low byte 32..63: four bits of magnitude, and 16 added when the
-- number is not negative. Range -32768..32767. Minus nought reads as 0. Leading high bytes of value 0 are accepted and never written."
use Rattle.std.specs.Prelude.{ℕ, suc, zero, ◌+◌, ◌*◌, ◌/◌, ◌%◌, List, [], ◌∷◌, ◌++◌, Bool, true, false, ltb, leb, eqb, ℤ, nat_abs}
use Rattle.memory.specs.declared.Remembered.{Remembered}
use Rattle.refusals.specs.declared.Taken.{Taken}
use Rattle.refusals.specs.Answers.{Answer, done, refused, then, pick}
use Rattle.signs.specs.Signs.{signed_of, is_negative, most_magnitude, is_integer}
use Rattle.wire.specs.Taking.{byte_at}
use Rattle.wire.specs.Sending.{sent, write_if}

-- ---- reading

-- "integer out of range (place: its low byte)"
abbrev pub in_range : ℕ → Bool → ℕ → ℕ → Answer (Taken ℤ)
in_range m negative p n =
    pick (leb m (most_magnitude negative)) (done (record { value = signed_of m negative; place = p; next = n })) (refused 4 p)

-- the low byte b, at p, after high bytes of value h
abbrev pub low_byte : ℕ → ℕ → ℕ → ℕ → Answer (Taken ℤ)
low_byte h b p n = in_range (h * 16 + b % 16) (ltb b 48) p n

-- up to k high bytes and the low byte, after high bytes of value h; "third high byte (place: that byte)"
unfoldable pub integer_from : Remembered → ℕ → ℕ → List ℕ → ℕ → Answer (Taken ℤ)
integer_from kept zero h s at =
    then (byte_at kept s at)
    (λ b. pick (ltb b.value 64) (low_byte h b.value b.place b.next) (refused 4 b.place))
integer_from kept (suc k) h s at =
    then (byte_at kept s at)
    (λ b. pick (ltb b.value 64) (low_byte h b.value b.place b.next) (integer_from kept k (h * 64 + b.value % 64) s b.next))

abbrev pub integer_at : Remembered → List ℕ → ℕ → Answer (Taken ℤ)
integer_at kept s at = integer_from kept 2 0 s at

-- ---- writing

-- the low byte of a magnitude and a sign
abbrev pub low_of : ℕ → Bool → ℕ
low_of m true = 32 + m % 16
low_of m false = 48 + m % 16

-- the high bytes of value h, none of value 0 in front
unfoldable pub highs_of : ℕ → List ℕ
highs_of h = pick (eqb h 0) [] (pick (ltb h 64) ((64 + h % 64) ∷ []) ((64 + h / 64) ∷ (64 + h % 64) ∷ []))

unfoldable pub spell_of : ℕ → Bool → List ℕ
spell_of m negative = highs_of (m / 16) ++ (low_of m negative ∷ [])

abbrev pub spell : ℤ → List ℕ
spell v = spell_of (nat_abs v) (is_negative v)

abbrev pub write_integer : Remembered → ℤ → ℕ → ℕ → Answer ℕ
write_integer kept v room at = write_if (is_integer v) (sent kept (spell v)) room at
