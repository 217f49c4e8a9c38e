-- Numbers in decimal, as a line has them.
use Rattle.std.specs.Prelude.{ℕ, zero, suc, ◌+◌, ◌/◌, ◌%◌, List, [], ◌∷◌, ◌++◌, ltb, ℤ, pos, negsuc}
use Rattle.refusals.specs.Answers.{pick}

-- the digits of n, no nought in front; there are at most as many as the fuel
unfoldable pub digits_of : ℕ → ℕ → List ℕ
digits_of zero n = []
digits_of (suc k) n = pick (ltb n 10) ((48 + n) ∷ []) (digits_of k (n / 10) ++ ((48 + n % 10) ∷ []))

unfoldable pub decimal : ℕ → List ℕ
decimal n = digits_of (suc n) n

-- a number with the blank before it; a negative one has 45, a minus, in front
unfoldable pub field : ℤ → List ℕ
field (pos n) = (32 ∷ []) ++ decimal n
field (negsuc n) = (32 ∷ []) ++ (45 ∷ []) ++ decimal (suc n)

unfoldable pub fields : List ℤ → List ℕ
fields [] = []
fields (v ∷ vs) = field v ++ fields vs
