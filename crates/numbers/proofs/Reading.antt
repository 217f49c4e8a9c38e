-- One step of reading an integer or a count, as the code takes it: what the callee gave, and what stands for the rest.
use Prim.Native.Nat.{ℕ, zero, suc, ◌+◌, ◌*◌, ◌%◌, ◌≤◌, ◌<◌}
use mathlib.Core.Path.{◌≡◌, sym, ◌∙◌, ap}
use mathlib.Core.Bool.{Bool, true, false}
use mathlib.Core.List.{List}
use native.Mathlib.Omega.{arith}
use borrow.Author.Tests.{lt-ltb, le-ltb, le-leb, lt-leb}
use lib.Dec.{ltb}
use lib.IntN.{ℤ, nat_abs}
use mir.Syntax.{w32}
use mir.Val.{SFits, to_z, of_z}
use mir.Facts.{to_z-of_z}
use Rattle.memory.specs.declared.Remembered.{Remembered}
use Rattle.std.specs.Prelude.{Result, Ok, Err}
use Rattle.refusals.specs.declared.RefusedAt.{RefusedAt}
use Rattle.refusals.specs.declared.Refusal.TheVariants.{IntegerOutside, CountOutside}
use Rattle.refusals.specs.declared.Taken.{Taken}
use Rattle.refusals.specs.Answers.{Answer, done, refused, answer_at}
use Rattle.wire.specs.Taking.{byte_at}
use Rattle.wire.proofs.Feeds.{byte_given, none_given}
use Rattle.signs.specs.Signs.{signed_of, is_negative, most_magnitude}
use Rattle.numbers.specs.Integers.{integer_from, integer_at, low_byte}
use Rattle.numbers.specs.Counts.{count_in, count_at}

-- ---- the low byte

module _ (h b p n : ℕ) {l : ℕ} (el : l ≡ most_magnitude (ltb b 48)) where
  pub low_in : {x : ℤ} → h * 16 + b % 16 ≤ l → x ≡ signed_of (h * 16 + b % 16) (ltb b 48) → answer_at (Ok (record { value = x; place = p; next = n })) ≡ low_byte h b p n
  unfolding answer_at
  low_in r e = rw (e, ← el, le-leb (h * 16 + b % 16) l r)

  pub low_out : {x : RefusedAt} → l < h * 16 + b % 16 → x ≡ record { refusal = IntegerOutside; place = p } → answer_at {A = Taken ℤ} (Err x) ≡ low_byte h b p n
  unfolding answer_at
  low_out r e = rw (e, ← el, lt-leb (h * 16 + b % 16) l r)

-- ---- one byte of an integer

module _ (kept : Remembered) (s : List ℕ) (at : ℕ) {r : Taken ℕ} (e : byte_at kept s at ≡ done r) where
  pub low-byte : (k h : ℕ) → r.value < 64 → integer_from kept k h s at ≡ low_byte h r.value r.place r.next
  unfolding integer_from
  low-byte zero h l = rw (e, lt-ltb r.value 64 l)
  low-byte (suc k) h l = rw (e, lt-ltb r.value 64 l)

  pub high_byte : (k h : ℕ) → 64 ≤ r.value → integer_from kept (suc k) h s at ≡ integer_from kept k (h * 64 + r.value % 64) s r.next
  unfolding integer_from
  high_byte k h l = rw (e, le-ltb r.value 64 l)

  pub third_high : (h : ℕ) → 64 ≤ r.value → integer_from kept 0 h s at ≡ refused 4 r.place
  unfolding integer_from
  third_high h l = rw (e, le-ltb r.value 64 l)

pub no_byte : (kept : Remembered) (s : List ℕ) (at : ℕ) (k h : ℕ) {x p : ℕ} → byte_at kept s at ≡ refused x p → integer_from kept k h s at ≡ refused x p
unfolding integer_from
no_byte kept s at zero h e = rw e
no_byte kept s at (suc k) h e = rw e

-- the same, as the code has it: what `take` gave, and what stands for the rest
module _ (kept : Remembered) (s : List ℕ) (at : ℕ) {r : Result (Taken ℕ) RefusedAt} (e : answer_at r ≡ byte_at kept s at) where
  pub low_step : (k h : ℕ) {b : Taken ℕ} {q : Answer (Taken ℤ)} → r ≡ Ok b → b.value < 64 → q ≡ low_byte h b.value b.place b.next → q ≡ integer_from kept k h s at
  low_step k h g l j = j ∙ sym (low-byte kept s at (byte_given kept s at e g) k h l)

  -- at the numerals that the contracts name
  pub second_step : (h : ℕ) {b : Taken ℕ} {q : Answer (Taken ℤ)} → r ≡ Ok b → 64 ≤ b.value → q ≡ integer_from kept 0 (h * 64 + b.value % 64) s b.next → q ≡ integer_from kept 1 h s at
  second_step h g l j = j ∙ sym (high_byte kept s at (byte_given kept s at e g) 0 h l)

  pub first_step : {b : Taken ℕ} {q : Answer (Taken ℤ)} → r ≡ Ok b → 64 ≤ b.value → q ≡ integer_from kept 1 (b.value % 64) s b.next → q ≡ integer_from kept 2 0 s at
  first_step {b = b} g l j =
      j ∙ ap (λ (h : ℕ). integer_from kept 1 h s b.next) (omega arith) ∙ sym (high_byte kept s at (byte_given kept s at e g) 1 0 l)

  pub third_step : (h : ℕ) {b : Taken ℕ} → r ≡ Ok b → 64 ≤ b.value → answer_at {A = Taken ℤ} (Err (record { refusal = IntegerOutside; place = b.place })) ≡ integer_from kept 0 h s at
  unfolding answer_at
  third_step h g l = sym (third_high kept s at (byte_given kept s at e g) h l)

  pub no_step : (k h : ℕ) {x : RefusedAt} → r ≡ Err x → answer_at {A = Taken ℤ} (Err x) ≡ integer_from kept k h s at
  unfolding answer_at
  no_step k h g = sym (no_byte kept s at k h (none_given kept s at e g))

-- ---- a count

module _ (most : ℕ) {r : Result (Taken ℤ) RefusedAt} where
  pub count_no : {x : RefusedAt} → r ≡ Err x → answer_at {A = Taken ℕ} (Err x) ≡ count_in most (answer_at r)
  unfolding count_in answer_at
  count_no g = rw g

  module _ {i : Taken ℤ} {b : Bool} (g : r ≡ Ok i) (f : SFits w32 i.value) (eb : b ≡ is_negative (to_z w32 (of_z w32 i.value))) where
    sign : {t : Bool} → b ≡ t → is_negative i.value ≡ t
    sign q = sym (rw (to_z-of_z f) at eb) ∙ q

    pub count_minus : b ≡ true → answer_at {A = Taken ℕ} (Err (record { refusal = CountOutside; place = i.place })) ≡ count_in most (answer_at r)
    unfolding count_in answer_at
    count_minus t = rw (g, sign t)

    module _ {m : ℕ} (t : b ≡ false) (em : m ≡ nat_abs (to_z w32 (of_z w32 i.value))) where
      size : m ≡ nat_abs i.value
      size = rw (to_z-of_z f) at em

      pub count_is : m ≤ most → answer_at (Ok (record { value = m; place = i.place; next = i.next })) ≡ count_in most (answer_at r)
      unfolding count_in answer_at
      count_is h = rw (g, sign t, ← size, le-leb m most h)

      pub count_over : most < m → answer_at {A = Taken ℕ} (Err (record { refusal = CountOutside; place = i.place })) ≡ count_in most (answer_at r)
      unfolding count_in answer_at
      count_over h = rw (g, sign t, ← size, lt-leb m most h)

pub counted : (kept : Remembered) (s : List ℕ) (at : ℕ) {i : Answer (Taken ℤ)} {q : Answer (Taken ℕ)} → i ≡ integer_at kept s at → q ≡ count_in 256 i → q ≡ count_at kept s at
counted kept s at e j = rw (← e) j

pub ruleset counts = (count_no, count_minus, count_is, count_over)
