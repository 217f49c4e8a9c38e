-- Where a body stands and what an expansion comes to, as the header's slots hold them.
use Rattle.std.specs.Prelude.{ℕ, ◌≡◌, List, [], ◌∷◌, length, ℤ}
use Rattle.refusals.specs.Answers.{Answer, number, value_or}
use Rattle.coordinates.specs.Remembering.{slots_of, kept_in}
use Rattle.macros.specs.Store.{Placed}
use Rattle.expansion.specs.declared.Expanded.{Expanded}
use Rattle.expansion.specs.Expansion.{expand_told, expand_out}

-- the store, where the body begins in it, and its length
unfoldable pub place_fields : Placed → List ℕ
place_fields p = p.store ∷ p.offset ∷ p.long ∷ []

-- "bytes written and macros entered"
unfoldable pub count_fields : Answer Expanded → List ℕ
count_fields a = value_or (0 ∷ 0 ∷ []) (λ (k : Expanded). k.written ∷ k.entered ∷ []) a

-- what is remembered at the end; refused, the slots are as they came
unfoldable pub slots_behind : List ℕ → Answer Expanded → List ℕ
slots_behind before a = value_or before (λ (k : Expanded). slots_of k.kept) a

-- what ardh_expand leaves, where before are the lent slots of what is remembered
module _ (volatile saved : List ℕ) (macro : ℤ) (before out : List ℕ) where
  abbrev came : Answer Expanded
  came = expand_told volatile saved macro (kept_in before) (length out)

  pub record ExpandedCall (answer : ℕ) (counts remembered left : List ℕ) : Type 0 where
    pub answered : answer ≡ number came
    pub counted : counts ≡ count_fields came
    pub kept : remembered ≡ slots_behind before came
    pub stands : left ≡ expand_out volatile saved macro (kept_in before) out
