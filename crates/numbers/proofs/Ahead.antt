-- An integer that ends among three bytes: none, one or two high bytes, then the low byte, each taken as it stands.
use Prim.Native.Nat.{ℕ, zero, suc, ◌+◌, ◌-◌, ◌*◌, ◌/◌, ◌%◌, ◌≤◌, ◌<◌}
use mathlib.Core.Path.{◌≡◌, refl, sym, ◌∙◌, ap, subst}
use mathlib.Core.Bool.{Bool, true, false, ◌&&◌}
use mathlib.Core.List.{List}
use native.Mathlib.Nat.{add-zero}
use native.Mathlib.Omega.{arith}
use borrow.Author.Tests.{lt-ltb, le-ltb, lt-leb, le-leb, ltb-true, ltb-false, leb-true}
use lib.Dec.{leb, ltb}
use lib.IntN.{ℤ}
use lib.ListN.{length, get_or}
use Rattle.memory.specs.declared.Remembered.{Remembered}
use Rattle.refusals.specs.declared.Taken.{Taken}
use Rattle.refusals.specs.Answers.{Answer, done}
use Rattle.refusals.proofs.Cases.{and_left, and_right}
use Rattle.wire.specs.Taking.{byte_at}
use Rattle.wire.proofs.Feeds.{itself_any, itself_taken}
use Rattle.numbers.specs.Integers.{integer_from, integer_at, low_byte}
use Rattle.numbers.specs.Three.{highs_before, high_value, ends_ahead}
use Rattle.numbers.proofs.Reading.{low-byte, high_byte}

-- ---- the sums, by what they stand for

-- a number kept or dropped by a flag
pub flag_under : (flag v : ℕ) → flag ≤ 1 → flag * v ≤ v
flag_under zero v h = omega arith
flag_under (suc zero) v h = omega arith
flag_under (suc (suc n)) v h = absurd (omega arith)

module _ (a b : ℕ) where
  no_highs : a < 64 → highs_before a b ≡ 0
  unfolding highs_before
  no_highs l = rw (lt-ltb a 64 l)

  one-before : 64 ≤ a → b < 64 → highs_before a b ≡ 1
  unfolding highs_before
  one-before l m = rw (le-ltb a 64 l, lt-ltb b 64 m)

  two-before : 64 ≤ a → 64 ≤ b → highs_before a b ≡ 2
  unfolding highs_before
  two-before l m = rw (le-ltb a 64 l, le-ltb b 64 m)

  no_value : a < 64 → high_value a b ≡ 0
  unfolding high_value
  no_value l = rw (lt-ltb a 64 l)

  one_value : 64 ≤ a → b < 64 → high_value a b ≡ a % 64
  unfolding high_value
  one_value l m = rw (le-ltb a 64 l, lt-ltb b 64 m)

  two-value : 64 ≤ a → 64 ≤ b → high_value a b ≡ a % 64 * 64 + b % 64
  unfolding high_value
  two-value l m = rw (le-ltb a 64 l, le-ltb b 64 m)

  cases : {P : Type 0} (t u : Bool) → ltb a 64 ≡ t → ltb b 64 ≡ u → (a < 64 → P) → (64 ≤ a → b < 64 → P) → (64 ≤ a → 64 ≤ b → P) → P
  cases true u e f none one two = none (ltb-true a 64 e)
  cases false true e f none one two = one (ltb-false a 64 e) (ltb-true b 64 f)
  cases false false e f none one two = two (ltb-false a 64 e) (ltb-false b 64 f)

  -- what holds with none, one and two high bytes
  by_highs : {P : Type 0} → (a < 64 → P) → (64 ≤ a → b < 64 → P) → (64 ≤ a → 64 ≤ b → P) → P
  by_highs = cases (ltb a 64) (ltb b 64) refl refl

  module _ (ha : a < 128) (hb : b < 128) where
    pub highs_sum : a / 64 + (a / 64 + b / 64) / 2 ≡ highs_before a b
    highs_sum =
        by_highs
        (λ l. rw (no_highs l) (omega arith))
        (λ l m. rw (one-before l m) (omega arith))
        (λ l m. rw (two-before l m) (omega arith))

    pub value-sum : (x y : ℕ) → x ≡ a / 64 * (a % 64) → y ≡ (a / 64 + b / 64) / 2 * (63 * x + b % 64) → x + y ≡ high_value a b
    value-sum x y ex ey =
        by_highs
        (λ l.
        let f : a / 64 ≡ 0 = omega arith in
        let g : (a / 64 + b / 64) / 2 ≡ 0 = omega arith in
        rw (no_value l) (omega (arith, (rw f at ex), (rw g at ey))))
        (λ l m.
        let f : a / 64 ≡ 1 = omega arith in
        let g : (a / 64 + b / 64) / 2 ≡ 0 = omega arith in
        rw (one_value l m) (omega (arith, (rw f at ex), (rw g at ey))))
        (λ l m.
        let f : a / 64 ≡ 1 = omega arith in
        let g : (a / 64 + b / 64) / 2 ≡ 1 = omega arith in
        rw (two-value l m) (omega (arith, (rw f at ex), (rw g at ey))))

  pub few-highs : {n : ℕ} → n ≡ highs_before a b → n ≤ 2
  few-highs en =
      by_highs
      (λ l. omega (arith, en, no_highs l))
      (λ l m. omega (arith, en, one-before l m))
      (λ l m. omega (arith, en, two-before l m))

  pub value-small : {h : ℕ} → h ≡ high_value a b → h < 4096
  value-small eh =
      by_highs
      (λ l. omega (arith, eh, no_value l))
      (λ l m. omega (arith, eh, one_value l m))
      (λ l m. omega (arith, eh, two-value l m))

-- ---- whether it ends among the three

module _ (s : List ℕ) (at : ℕ) where
  abbrev one : ℕ
  one = get_or s at 0

  abbrev two : ℕ
  two = get_or s (at + 1) 0

  abbrev low : ℕ
  low = get_or s (at + highs_before one two) 0

  pub ends-few : length s - at < 3 → false ≡ ends_ahead s at
  unfolding ends_ahead
  ends-few h = rw (lt-leb (at + 3) (length s) (omega arith))

  pub ends-none : length s ≤ at → false ≡ ends_ahead s at
  ends-none h = ends-few (omega arith)

  module _ (h : 3 ≤ length s - at) where
    room : leb (at + 3) (length s) ≡ true
    room = le-leb (at + 3) (length s) (omega arith)

    pub ends-first : 127 ≤ one → false ≡ ends_ahead s at
    unfolding ends_ahead
    ends-first l = rw (room, le-ltb one 127 l)

    module _ (l : one < 127) where
      pub ends-second : 127 ≤ two → false ≡ ends_ahead s at
      unfolding ends_ahead
      ends-second m = rw (room, lt-ltb one 127 l, le-ltb two 127 m)

      module _ (m : two < 127) {n : ℕ} (en : n ≡ highs_before one two) where
        pub ends-control : get_or s (at + n) 0 < 32 → false ≡ ends_ahead s at
        unfolding ends_ahead
        ends-control c = rw (room, lt-ltb one 127 l, lt-ltb two 127 m, lt-leb 32 low (rw en at c))

        pub ends_so : 32 ≤ get_or s (at + n) 0 → ltb (get_or s (at + n) 0) 64 ≡ ends_ahead s at
        unfolding ends_ahead
        ends_so c = rw (room, lt-ltb one 127 l, lt-ltb two 127 m, le-leb 32 low (rw en at c), en)

  -- what it says
  module _ (e : ends_ahead s at ≡ true) where
    abbrev lows : Bool
    lows = leb 32 low && ltb low 64

    pub room-ahead : at + 3 ≤ length s
    unfolding ends_ahead
    room-ahead = leb-true (at + 3) (length s) (and_left (leb (at + 3) (length s)) (ltb one 127 && (ltb two 127 && lows)) e)

    bytes : ltb one 127 && (ltb two 127 && lows) ≡ true
    unfolding ends_ahead
    bytes = and_right (leb (at + 3) (length s)) (ltb one 127 && (ltb two 127 && lows)) e

    behind-first : ltb two 127 && lows ≡ true
    behind-first = and_right (ltb one 127) (ltb two 127 && lows) bytes

    first_under : one < 127
    first_under = ltb-true one 127 (and_left (ltb one 127) (ltb two 127 && lows) bytes)

    second-under : two < 127
    second-under = ltb-true two 127 (and_left (ltb two 127) lows behind-first)

    low_range : (32 ≤ low) × (low < 64)
    low_range =
        let r = and_right (ltb two 127) lows behind-first in
        (leb-true 32 low (and_left (leb 32 low) (ltb low 64) r), ltb-true low 64 (and_right (leb 32 low) (ltb low 64) r))

-- ---- the integer

module _ (kept : Remembered) (s : List ℕ) (at : ℕ) (e : ends_ahead s at ≡ true) where
  abbrev a : ℕ
  a = get_or s at 0

  abbrev b : ℕ
  b = get_or s (at + 1) 0

  -- the bytes up to the low byte are taken as they stand
  at-highs : {n : ℕ} → highs_before a b ≡ n → (32 ≤ get_or s (at + n) 0) × (get_or s (at + n) 0 < 64)
  at-highs q = subst (λ (n : ℕ). (32 ≤ get_or s (at + n) 0) × (get_or s (at + n) 0 < 64)) q (low_range s at e)

  first : byte_at kept s at ≡ done (record { value = a; place = at; next = at + 1 })
  first =
      itself_taken kept s at (omega (arith, room-ahead s at e))
      (by_highs a b
      (λ l. itself_any kept.mode a (subst (λ (k : ℕ). 32 ≤ get_or s k 0) (add-zero at) (at-highs {n = 0} (no_highs a b l)).0) (first_under s at e))
      (λ l m. itself_any kept.mode a (omega arith) (first_under s at e))
      (λ l m. itself_any kept.mode a (omega arith) (first_under s at e)))

  second : 64 ≤ a → byte_at kept s (at + 1) ≡ done (record { value = b; place = at + 1; next = at + 1 + 1 })
  second l =
      itself_taken kept s (at + 1) (omega (arith, room-ahead s at e))
      (by_highs a b
      (λ k. absurd (omega arith))
      (λ k m. itself_any kept.mode b (at-highs (one-before a b k m)).0 (second-under s at e))
      (λ k m. itself_any kept.mode b (omega arith) (second-under s at e)))

  third : 64 ≤ a → 64 ≤ b → byte_at kept s (at + 2) ≡ done (record { value = get_or s (at + 2) 0; place = at + 2; next = at + 2 + 1 })
  third l m =
      let r = at-highs (two-before a b l m) in
      itself_taken kept s (at + 2) (omega (arith, room-ahead s at e)) (itself_any kept.mode (get_or s (at + 2) 0) r.0 (omega (arith, r.1)))

  first-high : 64 ≤ a → integer_at kept s at ≡ integer_from kept 1 (a % 64) s (at + 1)
  first-high l = high_byte kept s at first 1 0 l ∙ ap (λ (h : ℕ). integer_from kept 1 h s (at + 1)) (omega arith)

  second-high : 64 ≤ a → 64 ≤ b → integer_at kept s at ≡ integer_from kept 0 (a % 64 * 64 + b % 64) s (at + 2)
  second-high l m =
      first-high l
      ∙ high_byte kept s (at + 1) (second l) 0 (a % 64) m
      ∙ ap (λ (k : ℕ). integer_from kept 0 (a % 64 * 64 + b % 64) s k) (omega arith)

  abbrev highs : ℕ
  highs = highs_before a b

  pub three-low : integer_at kept s at ≡ low_byte (high_value a b) (get_or s (at + highs) 0) (at + highs) (at + highs + 1)
  three-low =
      by_highs a b
      (λ l. rw (no_highs a b l, no_value a b l, add-zero at) (low-byte kept s at first 2 0 l))
      (λ l m. rw (one-before a b l m, one_value a b l m) (first-high l ∙ low-byte kept s (at + 1) (second l) 1 (a % 64) m))
      (λ l m.
      let n = two-before a b l m in
      rw (n, two-value a b l m) (second-high l m ∙ low-byte kept s (at + 2) (third l m) 0 (a % 64 * 64 + b % 64) (at-highs n).1))

  -- as the code has it: what its parts gave, and what stands for the rest
  module _ {n : ℕ} (en : n ≡ highs) where
    pub place-ahead : at + n < length s
    place-ahead = omega (arith, room-ahead s at e, few-highs a b en)

    pub low_ahead : {h : ℕ} {q : Answer (Taken ℤ)} → h ≡ high_value a b → q ≡ low_byte h (get_or s (at + n) 0) (at + n) (at + n + 1) → q ≡ integer_at kept s at
    low_ahead eh j = (rw (eh, en) at j) ∙ sym three-low

module _ (s : List ℕ) (at : ℕ) (e : ends_ahead s at ≡ true) where
  pub first-place : at < length s
  first-place = omega (arith, room-ahead s at e)

  pub second-place : at + 1 < length s
  second-place = omega (arith, room-ahead s at e)

  pub bytes-ahead : (get_or s at 0 < 128) × (get_or s (at + 1) 0 < 128)
  bytes-ahead = (omega (arith, first_under s at e), omega (arith, second-under s at e))

pub ahead_told : (s : List ℕ) (at : ℕ) {b : Bool} → b ≡ ends_ahead s at → b ≡ true → ends_ahead s at ≡ true
ahead_told s at e t = sym e ∙ t

pub ruleset endings = (ends-few, ends-none, ends-first, ends-second, ends-control, ends_so)

pub ruleset aheads = (first-place, second-place, place-ahead, bytes-ahead, value-small, low_ahead)
