-- From what the macro calls answer to the numbers of the exported ones. A signed argument comes back from a callee's contract as the machine
-- reads it.
use Prim.Native.Nat.{ℕ}
use mathlib.Core.Path.{◌≡◌, ap, ◌∙◌}
use mathlib.Core.List.{List}
use lib.ListN.{length}
use lib.IntN.{ℤ}
use mir.Syntax.{w32}
use mir.Val.{SFits, to_z, of_z}
use mir.Facts.{to_z-of_z}
use Rattle.refusals.specs.Answers.{Answer, number}
use Rattle.memory.specs.declared.Remembered.{Remembered}
use Rattle.macros.specs.Store.{three_bytes, Placed, placed}
use Rattle.defining.specs.Defining.{define_refusal, store_after}
use Rattle.expansion.specs.declared.Expanded.{Expanded}
use Rattle.expansion.specs.Expansion.{expand_told, expand_out}
use Rattle.coordinates.specs.Remembering.{kept_in}
use Rattle.macro_calls.specs.Slots.{place_fields, count_fields, slots_behind, ExpandedCall}

module _ (n : ℤ) (f : SFits w32 n) where
  pub define-told : (s : List ℕ) (contents : List ℤ) {x : ℕ} → x ≡ define_refusal three_bytes s (to_z w32 (of_z w32 n)) contents → x ≡ define_refusal three_bytes s n contents
  define-told s contents e = e ∙ rw (to_z-of_z f)

  pub store-so : (s : List ℕ) (contents : List ℤ) {o : List ℕ} → o ≡ store_after three_bytes s (to_z w32 (of_z w32 n)) contents → o ≡ store_after three_bytes s n contents
  store-so s contents e = e ∙ rw (to_z-of_z f)

  module _ (v s : List ℕ) where
    pub place_number : {p : Placed} → p ≡ placed three_bytes v s (to_z w32 (of_z w32 n)) → p.number ≡ (placed three_bytes v s n).number
    place_number {p} e = let q : p ≡ placed three_bytes v s n = e ∙ rw (to_z-of_z f) in ap (λ (x : Placed). x.number) q

    pub place_told : {p : Placed} → p ≡ placed three_bytes v s (to_z w32 (of_z w32 n)) → place_fields p ≡ place_fields (placed three_bytes v s n)
    place_told {p} e = let q : p ≡ placed three_bytes v s n = e ∙ rw (to_z-of_z f) in ap place_fields q

    pub expanded : (before out : List ℕ) {m : Remembered} → m ≡ kept_in before → {left : List ℕ} → left ≡ expand_out v s (to_z w32 (of_z w32 n)) m out → {a : Answer Expanded} → a ≡ expand_told v s (to_z w32 (of_z w32 n)) m (length out)
        → ExpandedCall v s n before out (number a) (count_fields a) (slots_behind before a) left
    expanded before out em o {a = a} e =
        let came : a ≡ expand_told v s n (kept_in before) (length out) = e ∙ rw (to_z-of_z f, em) in
        record { answered = ap number came; counted = ap count_fields came; kept = ap (slots_behind before) came; stands = o ∙ rw (to_z-of_z f, em) }
