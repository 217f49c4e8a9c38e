-- An integer among three bytes, by the two that come first. The quick way of reading goes by this; what an integer is does not.
use Rattle.std.specs.Prelude.{ℕ, ◌+◌, ◌*◌, ◌%◌, Bool, ◌&&◌, List, ltb, leb, length, get_or}
use Rattle.refusals.specs.Answers.{pick}

-- how many high bytes stand before the low byte
unfoldable pub highs_before : ℕ → ℕ → ℕ
highs_before a b = pick (ltb a 64) 0 (pick (ltb b 64) 1 2)

-- what they are worth
unfoldable pub high_value : ℕ → ℕ → ℕ
high_value a b = pick (ltb a 64) 0 (pick (ltb b 64) (a % 64) (a % 64 * 64 + b % 64))

-- three bytes stand from at on, the first two are below 127, and where the low byte should stand is one, 32..63; some integers that end there
-- are left out, such as those with a 127
unfoldable pub ends_ahead : List ℕ → ℕ → Bool
ends_ahead s at =
    leb (at + 3) (length s)
    && (ltb (get_or s at 0) 127
    && (ltb (get_or s (at + 1) 0) 127
    && (leb 32 (get_or s (at + highs_before (get_or s at 0) (get_or s (at + 1) 0)) 0)
    && ltb (get_or s (at + highs_before (get_or s at 0) (get_or s (at + 1) 0)) 0) 64)))
