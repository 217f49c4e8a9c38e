-- Shift and mask: the mask that the code makes takes the low bits.
use Prim.Native.Nat.{ℕ, ◌-◌, ◌*◌, ◌%◌, ◌^◌, ◌≤◌}
use mathlib.Core.Path.{◌≡◌, ◌∙◌}
use native.Mathlib.Nat.{one-mul}
use native.Mathlib.Omega.{arith}
use lib.Bits.{bit_and, and_mask}
use lib.Pow.{shl_exact}

pub mask_ok : (b : ℕ) → b ≤ 6 → 1 * 2 ^ b % 2 ^ 64 ≡ 2 ^ b
mask_ok b l = shl_exact {a = 1} 1 b 64 (omega arith) (omega arith) ∙ one-mul (2 ^ b)

pub masked : (b x : ℕ) → b ≤ 6 → bit_and x (1 * 2 ^ b % 2 ^ 64 - 1) ≡ x % 2 ^ b
masked b x l = rw (mask_ok b l) (and_mask x b)
