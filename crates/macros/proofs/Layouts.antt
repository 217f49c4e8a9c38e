-- What a layout must satisfy for the laws of a store: a header is read as it was written, and written as it was read.
use Prim.Native.Nat.{ℕ, zero, suc, ◌+◌, ◌*◌, ◌/◌, ◌%◌, ◌≤◌}
use mathlib.Core.Path.{◌≡◌, refl}
use mathlib.Core.Bool.{true}
use mathlib.Core.List.{List, [], ◌∷◌, ◌++◌}
use native.Mathlib.Omega.{arith}
use lib.ListN.{length, get_or, drop, replicate}
use Rattle.macros.specs.Store.{Layout, three_bytes}
use Rattle.macros.specs.Fronts.{Bytes}

pub record Lawful (L : Layout) : Type 0 where
  pub sized : (n l : ℕ) → length (L.pack n l) ≡ L.size
  pub number-back : (n l : ℕ) (rest : List ℕ) → n ≤ 32767 → l ≤ L.longest → L.number_in (L.pack n l ++ rest) ≡ n
  pub length_back : (n l : ℕ) (rest : List ℕ) → n ≤ 32767 → l ≤ L.longest → L.length_in (L.pack n l ++ rest) ≡ l
  pub spare-back : (n l : ℕ) (rest : List ℕ) → n ≤ 32767 → l ≤ L.longest → L.spare_zero (L.pack n l ++ rest) ≡ true
  pub again : (s : List ℕ) → Bytes s → L.size ≤ length s → L.spare_zero s ≡ true → L.pack (L.number_in s) (L.length_in s) ++ drop L.size s ≡ s
  pub small : (s : List ℕ) → Bytes s → L.number_in s ≤ 32767
  -- zeros are no entry
  pub nought : (z : ℕ) → L.length_in (replicate z 0) ≡ 0

-- ---- three bytes

pub three-size : 3 ≡ three_bytes.size
unfolding three_bytes
three-size = refl

pub three-longest : 256 ≡ three_bytes.longest
unfolding three_bytes
three-longest = refl

zeros_at : (z i : ℕ) → ◌≡◌ {A = ℕ} (get_or (replicate z 0) i 0) 0
zeros_at zero i = refl
zeros_at (suc z) zero = refl
zeros_at (suc z) (suc i) = zeros_at z i

digits : (x y z : ℕ) → y ≤ 255 → z ≤ 255 → ((x * 65536 + y * 256 + z) / 65536 ≡ x) × (((x * 65536 + y * 256 + z) / 256 % 256 ≡ y) × ((x * 65536 + y * 256 + z) % 256 ≡ z))
digits x y z h g = (omega arith, (omega arith, omega arith))

three-again : (s : List ℕ) → Bytes s → 3 ≤ length s → three_bytes.pack (three_bytes.number_in s) (three_bytes.length_in s) ++ drop 3 s ≡ s
unfolding three_bytes Bytes
three-again [] b h = absurd (omega arith)
three-again (x ∷ []) b h = absurd (omega arith)
three-again (x ∷ y ∷ []) b h = absurd (omega arith)
three-again (x ∷ y ∷ z ∷ rest) b h =
    let v : (x * 65536 + y * 256 + z) / 512 * 512 + (x * 65536 + y * 256 + z) % 512 ≡ x * 65536 + y * 256 + z = omega arith in
    let d = digits x y z (b 1) (b 2) in
    rw (v, d.0, d.1.0, d.1.1)

pub three-lawful : Lawful three_bytes
unfolding three_bytes Bytes
three-lawful = record {
  sized = λ n l. refl;
  number-back = λ n l rest h g. omega arith;
  length_back = λ n l rest h g. omega arith;
  spare-back = λ n l rest h g. refl;
  again = λ s b h e. three-again s b h;
  small = λ s b. omega (arith, b 0, b 1, b 2);
  nought = λ z. omega (arith, zeros_at z 0, zeros_at z 1, zeros_at z 2);
}
