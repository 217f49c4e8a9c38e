-- Entries as bytes, one and many.
use Prim.Native.Nat.{ℕ, zero, suc, ◌+◌, ◌%◌, ◌^◌, ◌≤◌, ◌<◌}
use mathlib.Core.Path.{◌≡◌, refl, sym, ◌∙◌, ap}
use mathlib.Core.Bool.{true}
use mathlib.Core.List.{List, [], ◌∷◌}
use native.Mathlib.Omega.{arith}
use lib.ListN.{length, get_or, set, length-map}
use lib.Seq.{sets}
use lib.Bits.{bit_and, and_mask}
use lib.Dec.{T}
use lib.IntN.{ℤ, pos, negsuc, nat_abs}
use lib.Signed.{non_neg}
use mir.Syntax.{w8, w32}
use mir.Val.{Fits, SFits, to_z, of_z}
use mir.Facts.{to_z_pos, to_z-of_z}
use Rattle.refusals.specs.Answers.{every}
use Rattle.refusals.proofs.Many.{every-split}
use Rattle.wire.specs.Sending.{in_room}
use Rattle.wire.proofs.Writings.{Copying, copying_none, copying_more, copying_end}
use Rattle.ranges.specs.Ranges.{within}
use Rattle.ranges.proofs.Entries.{within-range}
use Rattle.characters.specs.Characters.{as_bytes, low_eight, low_bytes}

-- ---- a mask of eight ones keeps the lowest eight bits

masked : (n : ℕ) → to_z w32 (bit_and n 255) ≡ pos (n % 256)
masked n =
    let h : n % 256 < 2 ^ 31 = omega arith in
    ap (to_z w32) (and_mask n 8) ∙ to_z_pos w32 h

pub masked_plus : (n : ℕ) → T (non_neg (to_z w32 (bit_and n 255)))
masked_plus n = rw (masked n) tt

pub masked_narrow : (n : ℕ) → Fits w8 (nat_abs (to_z w32 (bit_and n 255)))
masked_narrow n = rw (masked n) (record { fits = omega arith })

bits-low : (v : ℤ) → SFits w32 v → of_z w32 v % 256 ≡ low_eight v
bits-low (pos n) f = refl
bits-low (negsuc n) f = let h : n < 2147483648 = f.sfits in omega arith

pub of_low_eight : (v : ℤ) → SFits w32 v → nat_abs (to_z w32 (bit_and (of_z w32 v) 255)) ≡ low_eight v
of_low_eight v f = ap nat_abs (masked (of_z w32 v)) ∙ bits-low v f

-- an entry of at most 127 is a byte
module _ (least : ℕ) where
  pub a_byte : (v : ℤ) → within least 127 v ≡ true → low_eight v ≡ nat_abs v
  a_byte v e =
      let k = within-range least 127 v e in
      let h : nat_abs v ≤ 127 = k.1.0 in
      let b : nat_abs v % 256 ≡ nat_abs v = omega arith in
      sym (ap low_eight k.1.1) ∙ b

  pub all_bytes : (list : List ℤ) → every (within least 127) list ≡ true → low_bytes list ≡ as_bytes list
  all_bytes [] e = refl
  all_bytes (v ∷ list) e =
      let ok = every-split (within least 127) v list e in
      ap (λ (b : ℕ). b ∷ low_bytes list) (a_byte v ok.0) ∙ ap (λ (w : List ℕ). nat_abs v ∷ w) (all_bytes list ok.1)

-- ---- laid one a turn

low_long : (list : List ℤ) → length (low_bytes list) ≡ length list
low_long list = length-map list low_eight

low_at : (list : List ℤ) (i : ℕ) → get_or (low_bytes list) i 0 ≡ low_eight (get_or list i (pos 0))
low_at [] i = refl
low_at (v ∷ list) zero = refl
low_at (v ∷ list) (suc i) = low_at list i

module _ (list : List ℤ) (out₀ out : List ℕ) (at i : ℕ) {count : ℕ} (f : Copying (low_bytes list) out₀ out at i) (e : count ≡ in_room (length list) (length out₀) at) where
  many : count ≡ in_room (length (low_bytes list)) (length out₀) at
  many = e ∙ rw (low_long list)

  entry_copied : (v x : ℤ) {b : ℕ} → i < count → v ≡ get_or list i (pos 0) → b ≡ low_eight x → x ≡ v → Copying (low_bytes list) out₀ (set out (at + i) b) at (i + 1)
  entry_copied v x {b} h ev eb j =
      let k : b ≡ get_or (low_bytes list) i 0 = eb ∙ ap low_eight (j ∙ ev) ∙ sym (low_at list i) in
      rw (← k) at (copying_more (low_bytes list) out₀ out at i f many h)

  -- an entry comes back from the callee's contract as the machine reads it
  pub entry_laid : {b : ℕ} → i < count → SFits w32 (get_or list i (pos 0)) → b ≡ low_eight (to_z w32 (of_z w32 (get_or list i (pos 0)))) → Copying (low_bytes list) out₀ (set out (at + i) b) at (i + 1)
  entry_laid h fits eb = entry_copied (get_or list i (pos 0)) _ h refl eb (to_z-of_z fits)

  pub entries-copied : count ≤ i → out ≡ sets out₀ at (low_bytes list)
  entries-copied h = copying_end (low_bytes list) out₀ out at i f many h

pub ruleset entering = (copying_none, entry_laid, entries-copied)
