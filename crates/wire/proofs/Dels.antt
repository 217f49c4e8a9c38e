-- Passing over DELs: each way out of the loop, and the two modes.
use Prim.Native.Nat.{ℕ, ◌+◌, ◌≤◌, ◌<◌}
use mathlib.Core.Path.{◌≡◌}
use mathlib.Core.List.{List}
use borrow.Author.Tests.{eq-eqb, ne_eqb}
use lib.ListN.{length, get_or}
use Rattle.memory.specs.declared.DelMode.{DelMode}
use Rattle.memory.specs.declared.DelMode.TheVariants.{Data, Filler}
use Rattle.memory.specs.declared.Remembered.{Remembered}
use Rattle.refusals.specs.declared.Taken.{Taken}
use Rattle.refusals.specs.Answers.{Answer, past_front}
use Rattle.refusals.proofs.Passing.{Passing, passing_none, passing_more, passing_stop, passing_end}
use Rattle.wire.specs.Taking.{is_del, past_dels, found_at, byte_at}

module _ (s : List ℕ) (at i : ℕ) (f : Passing is_del s at i) where
  pub passes_del : i < length s → get_or s i 0 ≡ 127 → Passing is_del s at (i + 1)
  passes_del h e = passing_more is_del s at i f h (eq-eqb (get_or s i 0) 127 e)

  pub stops-there : i < length s → (get_or s i 0 ≡ 127 → ⊥) → i ≡ past_front is_del s at
  stops-there h e = passing_stop is_del s at i f h (ne_eqb (get_or s i 0) 127 e)

  pub stops-at_end : length s ≤ i → i ≡ past_front is_del s at
  stops-at_end h = passing_end is_del s at i f h

pub starts : (s : List ℕ) (at : ℕ) → Passing is_del s at at
starts s at = passing_none is_del s at

pub ruleset passing = (starts, passes_del, stops-there, stops-at_end)

-- ---- by the mode

module _ (m : DelMode) (s : List ℕ) (at : ℕ) where
  pub dels_data : m ≡ Data → at ≡ past_dels m s at
  unfolding past_dels
  dels_data e = rw e

  pub dels_filler : {n : ℕ} → m ≡ Filler → n ≡ past_front is_del s at → n ≡ past_dels m s at
  unfolding past_dels
  dels_filler e j = rw e j

-- ---- the byte behind them

pub found_behind : (kept : Remembered) (s : List ℕ) (at : ℕ) {m : DelMode} {p : ℕ} {q : Answer (Taken ℕ)} → m ≡ kept.mode → p ≡ past_dels m s at → q ≡ found_at m s p → q ≡ byte_at kept s at
unfolding byte_at
found_behind kept s at e f j = rw (← e, ← f) j
