-- The bytes of a stream without its DELs, and where they stand: every byte that is read where 127 is filler is read there, in either mode.
use Prim.Native.Nat.{ℕ, zero, suc, ◌+◌, ◌≤◌, ◌<◌}
use mathlib.Core.Path.{◌≡◌, refl, sym, ◌∙◌, ap}
use mathlib.Core.Bool.{Bool, true, false}
use mathlib.Core.List.{List, [], ◌∷◌}
use native.Mathlib.Omega.{arith}
use native.Mathlib.Numerals.{add-one}
use borrow.Author.Tests.{lt-ltb, le-ltb, ltb-true, ltb-false, eqb-false}
use lib.Dec.{ltb, eqb}
use lib.ListN.{length, get_or}
use Rattle.memory.specs.declared.DelMode.{DelMode}
use Rattle.memory.specs.declared.DelMode.TheVariants.{Data, Filler}
use Rattle.memory.specs.declared.Remembered.{Remembered}
use Rattle.memory.specs.Memory.{in_mode}
use Rattle.refusals.specs.declared.Taken.{Taken}
use Rattle.refusals.specs.Answers.{Answer, done, refused, pick, past_front}
use Rattle.refusals.proofs.Cases.{by_pick}
use Rattle.refusals.proofs.Passing.{past_one, past_here, past_none, past_stops}
use Rattle.wire.specs.Taking.{is_del, past_dels, pair_at, found_at, byte_at}
use Rattle.wire.proofs.Feeds.{past_no_del, dels_within}
use Rattle.del_laws.specs.Padding.{without_dels, place_without}
use Rattle.del_laws.proofs.Moving.{moved, moved-pick, read_moved, Reads}

-- ---- where a byte stands

pub place-front : (s : List ℕ) → place_without s 0 ≡ 0
unfolding place_without
place-front [] = refl
place-front (b ∷ s) = refl

pub place_end : (s : List ℕ) → place_without s (length s) ≡ length (without_dels s)
unfolding place_without without_dels
place_end [] = refl
place_end (b ∷ s) = by (is_del b) (place_end s)
  where
    by : (t : Bool) → place_without s (length s) ≡ length (without_dels s) → pick t (place_without s (length s)) (suc (place_without s (length s))) ≡ length (pick t (without_dels s) (b ∷ without_dels s))
    by true e = e
    by false e = ap suc e

del-here : (s : List ℕ) (at : ℕ) → at < length s → is_del (get_or s at 0) ≡ true → place_without s (suc at) ≡ place_without s at
unfolding place_without
del-here [] at h e = absurd (omega arith)
del-here (b ∷ s) zero h e = rw e (place-front s)
del-here (b ∷ s) (suc at) h e = ap (λ (k : ℕ). pick (is_del b) k (suc k)) (del-here s at (omega arith) e)

byte_here : (s : List ℕ) (at : ℕ) → at < length s → is_del (get_or s at 0) ≡ false → place_without s (suc at) ≡ suc (place_without s at)
unfolding place_without
byte_here [] at h e = absurd (omega arith)
byte_here (b ∷ s) zero h e = rw e (ap suc (place-front s))
byte_here (b ∷ s) (suc at) h e = by (is_del b) (byte_here s at (omega arith) e)
  where
    by : (t : Bool) → place_without s (suc at) ≡ suc (place_without s at) → pick t (place_without s (suc at)) (suc (place_without s (suc at))) ≡ suc (pick t (place_without s at) (suc (place_without s at)))
    by true q = q
    by false q = ap suc q

record There (s : List ℕ) (at : ℕ) : Type 0 where
  within : place_without s at < length (without_dels s)
  same : get_or (without_dels s) (place_without s at) 0 ≡ get_or s at 0

there : (s : List ℕ) (at : ℕ) → at < length s → is_del (get_or s at 0) ≡ false → There s at
unfolding place_without without_dels
there [] at h e = absurd (omega arith)
there (b ∷ s) zero h e = record { within = rw e (omega arith); same = rw e }
there (b ∷ s) (suc at) h e = by (is_del b) refl (there s at (omega arith) e)
  where
    by : (t : Bool) → is_del b ≡ t → There s at → There (b ∷ s) (suc at)
    by true q w = record { within = rw q w.within; same = rw q w.same }
    by false q w = record { within = rw q (omega (arith, w.within)); same = rw q w.same }

module _ (s : List ℕ) where
  abbrev f : ℕ → ℕ
  f at = place_without s at

  abbrev r : List ℕ
  r = without_dels s

  -- no DEL stands there, or the bytes end
  abbrev pub NoDel : ℕ → Type 0
  NoDel at = at < length s → is_del (get_or s at 0) ≡ false

  pub next_place : (at : ℕ) → at < length s → is_del (get_or s at 0) ≡ false → f (at + 1) ≡ f at + 1
  next_place at h e = ap f (add-one at) ∙ byte_here s at h e ∙ sym (add-one (f at))

  pub del-place : (at : ℕ) → at < length s → is_del (get_or s at 0) ≡ true → f (at + 1) ≡ f at
  del-place at h e = ap f (add-one at) ∙ del-here s at h e

  -- passing over DELs does not move the place
  past_by : (k at : ℕ) → at < length s → f (past_front is_del s (at + 1)) ≡ f (at + 1) → (t : Bool) → is_del (get_or s at 0) ≡ t → f (past_front is_del s at) ≡ f at
  past_by k at h rest true e = ap f (past_one is_del s at h e) ∙ rest ∙ del-place at h e
  past_by k at h rest false e = ap f (past_here is_del s at h e)

  past_fuel : (k at : ℕ) → length s ≤ at + k → f (past_front is_del s at) ≡ f at
  past_fuel zero at h = ap f (past_none is_del s at (omega arith))
  past_fuel (suc k) at h =
      by_pick (λ (b : Bool). f (past_front is_del s at) ≡ f at) (ltb at (length s)) true false
      (λ t. past_by k at (ltb-true at (length s) t) (past_fuel k (at + 1) (omega arith)) (is_del (get_or s at 0)) refl)
      (λ t. ap f (past_none is_del s at (ltb-false at (length s) t)))

  pub past_place : (at : ℕ) → f (past_dels Filler s at) ≡ f at
  unfolding past_dels
  past_place at = past_fuel (length s) at (omega arith)

  pub past_clear : (at : ℕ) → NoDel (past_dels Filler s at)
  unfolding past_dels
  past_clear at h = past_stops is_del s at h

  -- ---- at such a place

  module _ (q : ℕ) (within : q ≤ length s) (clear : NoDel q) where
    at-end : length s ≤ q → f q ≡ length r
    at-end h = let z : q ≡ length s = omega arith in ap f z ∙ place_end s

    pub end_same : ltb (f q) (length r) ≡ ltb q (length s)
    end_same =
        by_pick (λ (b : Bool). ltb (f q) (length r) ≡ ltb q (length s)) (ltb q (length s)) true false
        (λ t. let h = ltb-true q (length s) t in lt-ltb (f q) (length r) (there s q h (clear h)).within ∙ sym t)
        (λ t. le-ltb (f q) (length r) (omega (arith, at-end (ltb-false q (length s) t))) ∙ sym t)

    pub byte_same : q < length s → get_or r (f q) 0 ≡ get_or s q 0
    byte_same h = (there s q h (clear h)).same

    -- nothing is passed over there, in either mode
    still_by : (m : DelMode) → length s ≤ q → past_dels m r (f q) ≡ f q
    unfolding past_dels
    still_by Data h = refl
    still_by Filler h = past_none is_del r (f q) (omega (arith, at-end h))

    pub still : (m : DelMode) → past_dels m r (f q) ≡ f q
    still m =
        by_pick (λ (b : Bool). past_dels m r (f q) ≡ f q) (ltb q (length s)) true false
        (λ t. let h = ltb-true q (length s) t in
        past_no_del m r (f q) (there s q h (clear h)).within (λ e. eqb-false (get_or s q 0) 127 (clear h) (sym (byte_same h) ∙ e)))
        (λ t. still_by m (ltb-false q (length s) t))

  -- ---- a byte

  abbrev Same : Answer (Taken ℕ) → Answer (Taken ℕ) → Type 0
  Same b a = b ≡ moved f (read_moved f) a

  -- the byte behind an ESC
  pair_same : (q p : ℕ) → p ≤ length s → NoDel p → Same (pair_at r (f q) (f p)) (pair_at s q p)
  unfolding pair_at moved
  pair_same q p h clear =
      rw (end_same p h clear)
      (moved-pick f (read_moved f) (ltb p (length s)) _ _ _ _
      (λ t. let l = ltb-true p (length s) t in
      rw (byte_same p h clear l)
      (moved-pick f (read_moved f) (eqb (get_or s p 0) 63) _ _ _ _
      (λ u. ap (λ (k : ℕ). done (record { value = 127; place = f p; next = k })) (sym (next_place p l (clear l))))
      (λ u. refl)))
      (λ t. ap (refused 1) (sym (place_end s))))

  found_same : (m : DelMode) (q : ℕ) → q ≤ length s → NoDel q → Same (found_at m r (f q)) (found_at Filler s q)
  unfolding found_at moved
  found_same m q h clear =
      rw (end_same q h clear)
      (moved-pick f (read_moved f) (ltb q (length s)) _ _ _ _
      (λ t.
      let l = ltb-true q (length s) t in
      let next = next_place q l (clear l) in
      let p = past_dels Filler s (q + 1) in
      let w : p ≤ length s = dels_within Filler s (q + 1) (omega (arith, l)) in
      let z : f q + 1 ≡ f p = sym next ∙ sym (past_place (q + 1)) in
      let y : past_dels m r (f q + 1) ≡ f p = ap (past_dels m r) z ∙ still p w (past_clear (q + 1)) m in
      rw (byte_same q h clear l)
      (moved-pick f (read_moved f) (eqb (get_or s q 0) 27) _ _ _ _
      (λ u. ap (pair_at r (f q)) y ∙ pair_same q p w (past_clear (q + 1)))
      (λ u. moved-pick f (read_moved f) (ltb (get_or s q 0) 32) _ _ _ _
      (λ v. refl)
      (λ v. moved-pick f (read_moved f) (ltb 127 (get_or s q 0)) _ _ _ _
      (λ x. refl)
      (λ x. ap (λ (k : ℕ). done (record { value = get_or s q 0; place = f q; next = k })) (sym next))))))
      (λ t. ap (refused 1) (sym (place_end s))))

  byte_moved : (m : DelMode) (kept : Remembered) (at : ℕ) → kept.mode ≡ Filler → at ≤ length s → Same (byte_at (in_mode kept m) r (f at)) (byte_at kept s at)
  unfolding byte_at
  byte_moved m kept at e h =
      let q = past_dels Filler s at in
      let w = dels_within Filler s at h in
      let z : past_dels m r (f at) ≡ f q = ap (past_dels m r) (sym (past_place at)) ∙ still q w (past_clear at) m in
      rw (e, z) (found_same m q w (past_clear at))

  pub without_reads : (m : DelMode) → Reads f m s r
  without_reads m = record { front = place-front s; bytes = byte_moved m }
