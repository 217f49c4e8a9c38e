-- How many entries a list may have, and whether a number lies in a range.
use Rattle.std.specs.Prelude.{ℕ, Bool, false, ◌&&◌, leb, ℤ, pos, negsuc}

-- "An array or string in one command has at most 256 entries."
abbrev pub most_entries : ℕ
most_entries = 256

-- a number from least to most, "none negative"
abbrev pub within : (least most : ℕ) → ℤ → Bool
within least most (pos n) = leb least n && leb n most
within least most (negsuc n) = false
