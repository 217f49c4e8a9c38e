-- Bytes into entries, one a turn: what is left ends where the whole ends.
use Prim.Native.Nat.{ℕ, suc, ◌+◌, ◌-◌, ◌≤◌, ◌<◌}
use mathlib.Core.Path.{◌≡◌, refl, ◌∙◌, ap}
use mathlib.Core.List.{List, ◌∷◌}
use native.Mathlib.Omega.{arith}
use native.Mathlib.Numerals.{add-one}
use lib.ListN.{length, get_or, set, length-set}
use lib.Seq.{sets, drop-cons}
use lib.IntN.{ℤ, pos}
use Rattle.reports.specs.Reading.{entries_at}

pub record Filling (s : List ℕ) (at count : ℕ) (l₀ l : List ℤ) (i : ℕ) : Type 0 where
  pub upto : i ≤ count
  pub stand : at + count ≤ length s
  pub room : count ≤ length l₀
  pub long : length l ≡ length l₀
  pub whole : sets l i (entries_at (count - i) s (at + i)) ≡ sets l₀ 0 (entries_at count s at)

pub filling_none : (s : List ℕ) (at count : ℕ) (l : List ℤ) → at + count ≤ length s → count ≤ length l → Filling s at count l l 0
filling_none s at count l h r =
    let z : count - 0 ≡ count = omega arith in
    let y : at + 0 ≡ at = omega arith in
    record { upto = omega arith; stand = h; room = r; long = refl; whole = rw (z, y) }

pub next-entry : (k : ℕ) (s : List ℕ) (at : ℕ) → at < length s → entries_at (suc k) s at ≡ pos (get_or s at 0) ∷ entries_at k s (at + 1)
next-entry k s at h = rw (drop-cons s at 0 h, add-one at)

pub filling_more : (s : List ℕ) (at count : ℕ) (l₀ l : List ℤ) (i : ℕ) (x : ℤ) → Filling s at count l₀ l i → i < count → x ≡ pos (get_or s (at + i) 0) → Filling s at count l₀ (set l i x) (i + 1)
filling_more s at count l₀ l i x f h e =
    let z : count - i ≡ suc (count - (i + 1)) = omega arith in
    let y : at + (i + 1) ≡ at + i + 1 = omega arith in
    let d = next-entry (count - (i + 1)) s (at + i) (omega (arith, f.stand)) in
    record {
      upto = omega arith;
      stand = f.stand;
      room = f.room;
      long = length-set l i x ∙ f.long;
      whole =
          ap (λ (k : ℕ). sets (set l i x) k (entries_at (count - (i + 1)) s (at + (i + 1)))) (add-one i)
          ∙ rw (e, y) (rw (z, d) at f.whole);
    }

pub filling_end : (s : List ℕ) (at count : ℕ) (l₀ l : List ℤ) (i : ℕ) → Filling s at count l₀ l i → count ≤ i → l ≡ sets l₀ 0 (entries_at count s at)
filling_end s at count l₀ l i f h = let z : count - i ≡ 0 = omega arith in rw z at f.whole

pub ruleset filling = (filling_none, filling_more, filling_end)
