-- Parts of a store that are moved, written and cleared at once, as bytes that are set one behind the other.
use Prim.Native.Nat.{ℕ, ◌+◌, ◌-◌, ◌*◌, ◌/◌, ◌%◌, ◌≤◌}
use mathlib.Core.Path.{◌≡◌, sym, ◌∙◌, ap}
use mathlib.Core.List.{List, [], ◌∷◌, ◌++◌, append_assoc}
use native.Mathlib.Omega.{arith}
use borrow.Rule.Slice.PartMut.{put_mid}
use lib.ListN.{length, take, drop, replicate, length-take, length-drop, length-replicate}
use lib.Seq.{sets, sets-eq, drop-drop}
use Rattle.std.specs.List.{copy_within}
use Rattle.macros.specs.Store.{three_bytes}

put_sets : (s ys : List ℕ) (a k : ℕ) → length ys ≡ k → a + k ≤ length s → put_mid a k s ys ≡ sets s a ys
put_sets s ys a k e h =
    ap (λ (r : List ℕ). take a s ++ (ys ++ r)) (drop-drop k a s)
    ∙ ap (λ (i : ℕ). take a s ++ (ys ++ drop (a + i) s)) (sym e)
    ∙ sym (sets-eq ys s a (omega (arith, e, h)) ∙ append_assoc (take a s) ys (drop (a + length ys) s))

-- ---- moving a stretch

pub moved : (s : List ℕ) (from end to : ℕ) → from ≤ end → end ≤ length s → to + (end - from) ≤ length s → {t : List ℕ} → t ≡ copy_within s from end to → t ≡ sets s to (take (end - from) (drop from s))
moved s from end to h g room e =
    let l : length (take (end - from) (drop from s)) ≡ end - from = length-take (end - from) (drop from s) ∙ omega (arith, length-drop from s, h, g) in
    e
    ∙ append_assoc (take to s) (take (end - from) (drop from s)) (drop (to + (end - from)) s)
    ∙ ap (λ (i : ℕ). take to s ++ (take (end - from) (drop from s) ++ drop (to + i) s)) (sym l)
    ∙ sym (sets-eq (take (end - from) (drop from s)) s to (omega (arith, l, room)) ∙ append_assoc (take to s) (take (end - from) (drop from s)) _)

-- ---- a header

module _ (number long : ℕ) where
  abbrev packed : ℕ
  packed = number * 512 + long

  pub header_put : (s : List ℕ) (at k : ℕ) {ys bs : List ℕ} → number ≤ 32767 → long ≤ 256 → at + 3 ≤ length s → k ≡ 3
      → bs ≡ packed / 16777216 % 256 ∷ (packed / 65536 % 256 ∷ (packed / 256 % 256 ∷ (packed % 256 ∷ []))) → ys ≡ take 3 (drop 1 bs) → put_mid at k s ys ≡ sets s at (three_bytes.pack number long)
  unfolding three_bytes
  header_put s at k {ys} {bs} h g room e eb ey =
      let top : packed / 65536 % 256 ≡ packed / 65536 = omega (arith, h, g) in
      let three : ys ≡ packed / 65536 ∷ (packed / 256 % 256 ∷ (packed % 256 ∷ [])) =
      ey ∙ ap (λ (l : List ℕ). take 3 (drop 1 l)) eb ∙ ap (λ (x : ℕ). x ∷ (packed / 256 % 256 ∷ (packed % 256 ∷ []))) top in
      put_sets s ys at k (ap length three ∙ sym e) (omega (arith, e, room)) ∙ ap (sets s at) three

-- ---- zeros to the end

pub cleared : (s : List ℕ) (at : ℕ) → at ≤ length s → {ys : List ℕ} → ys ≡ replicate (length (take (length s - at) (drop at s))) 0 → put_mid at (length s - at) s ys ≡ sets s at (replicate (length s - at) 0)
cleared s at h {ys} e =
    let l : length (take (length s - at) (drop at s)) ≡ length s - at = length-take (length s - at) (drop at s) ∙ omega (arith, length-drop at s) in
    let z : ys ≡ replicate (length s - at) 0 = e ∙ ap (λ (n : ℕ). replicate n 0) l in
    put_sets s ys at (length s - at) (ap length z ∙ length-replicate (length s - at) 0) (omega (arith, h)) ∙ ap (sets s at) z
