-- An integer's spelling, and its writing, by what the parts gave.
use Prim.Native.Nat.{ℕ, ◌≤◌}
use mathlib.Core.Path.{◌≡◌, sym, ◌∙◌}
use mathlib.Core.Bool.{Bool, true, false, not}
use mathlib.Core.List.{List}
use native.Mathlib.Omega.{arith}
use borrow.Author.Tests.{le-leb, not-true, not-false}
use lib.IntN.{ℤ, pos, nat_abs}
use lib.ListN.{length}
use lib.Seq.{sets}
use mir.Syntax.{w32}
use mir.Val.{SFits, to_z, of_z}
use mir.Facts.{to_z-of_z, to_z_pos}
use Rattle.memory.specs.declared.Remembered.{Remembered}
use Rattle.std.specs.Prelude.{Result, Ok}
use Rattle.refusals.specs.declared.Refusal.{Refusal}
use Rattle.refusals.specs.Answers.{Answer, answer_of}
use Rattle.signs.specs.Signs.{is_negative, is_integer}
use Rattle.signs.proofs.Integers.{sign_given, size-given, not_integer, an_integer, under_limit}
use Rattle.wire.specs.Sending.{sent, room_for, after_write, poured}
use Rattle.wire.proofs.Sendings.{sent_same}
use Rattle.wire.proofs.Writings.{poured-so, poured-stands, outside, none_changed, ranged}
use Rattle.spelling.proofs.Pouring.{plain_spelled}
use Rattle.numbers.specs.Integers.{spell_of, spell, write_integer}
use Rattle.numbers.specs.Counts.{write_count}

-- a signed argument comes back from a callee's contract as the machine reads it, `to_z w (of_z w v)`
pub integer_spelled : (v : ℤ) → SFits w32 v → {m : ℕ} {t : Bool} → t ≡ is_negative (to_z w32 (of_z w32 v)) → m ≡ nat_abs (to_z w32 (of_z w32 v)) → {w : List ℕ} → w ≡ spell_of m t → w ≡ spell v
integer_spelled v f et em e = e ∙ rw (size-given v f et em, sign_given v f et em)

-- ---- written by pouring

module _ (kept : Remembered) (v : ℤ) (f : SFits w32 v) {b : Bool} (eb : b ≡ is_integer (to_z w32 (of_z w32 v))) where
  tested : {t : Bool} → b ≡ t → is_integer v ≡ t
  tested e = sym (rw (to_z-of_z f) at eb) ∙ e

  pub no_integer : not b ≡ true → is_integer v ≡ false
  no_integer t = tested (not-true b t)

  module _ (l : List ℕ) (at : ℕ) (t : not b ≡ false) where
    pub integer_so : (size : ℕ) {r q : Result ℕ Refusal} → size ≡ length (poured (is_integer (to_z w32 (of_z w32 v))) (sent kept (spell (to_z w32 (of_z w32 v))))) → answer_of r ≡ room_for size (length l) at → r ≡ q → answer_of q ≡ write_integer kept v (length l) at
    integer_so size e j g = poured-so (sent kept (spell v)) l at (tested (not-false b t)) size (rw (to_z-of_z f) at e) j g

    pub integer_stands : (n : ℕ) {o : List ℕ} → o ≡ sets l at (poured (is_integer (to_z w32 (of_z w32 v))) (sent kept (spell (to_z w32 (of_z w32 v))))) → o ≡ after_write (answer_of (Ok n)) (sent kept (spell v)) l at
    integer_stands n j = poured-stands (sent kept (spell v)) l at (tested (not-false b t)) n (rw (to_z-of_z f) at j)

-- ---- a count is written as an integer

module _ (kept : Remembered) (n : ℕ) (h : n ≤ 256) where
  as_integer : to_z w32 n ≡ pos n
  as_integer = to_z_pos w32 (omega arith)

  pub count_written : (room at : ℕ) {q : Answer ℕ} → q ≡ write_integer kept (to_z w32 n) room at → q ≡ write_count kept n room at
  count_written room at j = j ∙ rw (as_integer, le-leb n 32767 (omega arith), le-leb n 256 h)

  pub count_spelled : (r : Result ℕ Refusal) (l : List ℕ) (at : ℕ) {o : List ℕ} → o ≡ after_write (answer_of r) (sent kept (spell (to_z w32 n))) l at → o ≡ after_write (answer_of r) (sent kept (spell (pos n))) l at
  count_spelled r l at j = rw as_integer at j

pub ruleset poured_numbers = (ranged, plain_spelled)

pub ruleset poured_integers = (poured_numbers, not_integer, an_integer, under_limit, integer_spelled, sent_same)

pub ruleset written_integers = (outside, none_changed, no_integer, integer_so, integer_stands)

pub ruleset written_counts = (outside, none_changed, count_written, count_spelled)
