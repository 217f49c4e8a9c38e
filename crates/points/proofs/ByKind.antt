-- A byte that is taken, by its kind, whatever the state: what the round trip and the shortest spelling go by.
use Prim.Native.Nat.{ℕ, ◌+◌, ◌≤◌, ◌<◌}
use mathlib.Core.Path.{◌≡◌}
use mathlib.Core.List.{List, [], ◌∷◌}
use borrow.Author.Tests.{lt-ltb, le-ltb, ltb-true, ltb-false}
use native.Mathlib.Omega.{arith}
use lib.Dec.{ltb}
use lib.ListN.{length}
use Rattle.memory.specs.declared.Point.{Point}
use Rattle.memory.specs.declared.Remembered.{Remembered}
use Rattle.refusals.specs.declared.Taken.{Taken}
use Rattle.refusals.specs.Answers.{Answer, done}
use Rattle.refusals.proofs.Cases.{by_pick, by_then, Done, not_done}
use Rattle.wire.specs.Taking.{byte_at}
use Rattle.wire.specs.Sending.{sent}
use Rattle.wire.proofs.Feeds.{Took, took, took_least}
use Rattle.points.specs.Reading.{by_kind}

module _ (kept : Remembered) (s : List ℕ) (at : ℕ) (hi lo upper : Taken ℕ → Answer (Taken Point)) where
  module _ {r : Taken ℕ} (e : byte_at kept s at ≡ done r) where
    pub is-hi : r.value < 64 → by_kind kept s at hi lo upper ≡ hi r
    unfolding by_kind
    is-hi l = rw (e, lt-ltb r.value 64 l)

    pub is-lo : 64 ≤ r.value → r.value < 96 → by_kind kept s at hi lo upper ≡ lo r
    unfolding by_kind
    is-lo l h = rw (e, le-ltb r.value 64 l, lt-ltb r.value 96 h)

    pub is-upper : 96 ≤ r.value → by_kind kept s at hi lo upper ≡ upper r
    unfolding by_kind
    is-upper l = rw (e, le-ltb r.value 64 (omega arith), le-ltb r.value 96 l)

  -- what a byte that was taken cost at least
  abbrev Cost : Taken ℕ → Type 0
  Cost r = at + length (sent kept (r.value ∷ [])) ≤ r.next

  -- what holds of each kind of byte that was taken holds of the answer
  pub by-kind : (P : Taken Point → Type 0) → ((r : Taken ℕ) → Took s at r → Cost r → r.value < 64 → Done P (hi r)) → ((r : Taken ℕ) → Took s at r → Cost r → 64 ≤ r.value → r.value < 96 → Done P (lo r)) → ((r : Taken ℕ) → Took s at r → Cost r → 96 ≤ r.value → Done P (upper r)) → Done P (by_kind kept s at hi lo upper)
  unfolding by_kind
  by-kind P f g h =
      by_then (Done P) (byte_at kept s at) _
      (λ r e.
      let t = took kept s at e in
      let c = took_least kept s at e in
      by_pick (Done P) (ltb r.value 64) _ _
      (λ u. f r t c (ltb-true r.value 64 u))
      (λ u. by_pick (Done P) (ltb r.value 96) _ _
      (λ v. g r t c (ltb-false r.value 64 u) (ltb-true r.value 96 v))
      (λ v. h r t c (ltb-false r.value 96 v))))
      (λ x p e. not_done P x p)
