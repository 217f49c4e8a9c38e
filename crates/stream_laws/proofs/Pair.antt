-- What ardh_write_command writes, ardh_next_item reads back, anywhere among other bytes.
use Prim.Native.Nat.{ℕ, ◌+◌, ◌≤◌}
use mathlib.Core.Path.{◌≡◌, refl, sym, ◌∙◌, ap}
use mathlib.Core.Bool.{Bool, true}
use mathlib.Core.List.{List, [], ◌∷◌, ◌++◌}
use native.Mathlib.Omega.{arith}
use lib.Dec.{leb}
use lib.ListN.{length, get_or, take}
use lib.IntN.{ℤ, pos, negsuc}
use Rattle.memory.specs.declared.Remembered.{Remembered}
use Rattle.memory.specs.Memory.{inside}
use Rattle.refusals.specs.Answers.{Answer, done, number, value_or}
use Rattle.refusals.proofs.Cases.{by_pick, and_left, and_right, bool_apart}
use Rattle.refusals.proofs.Many.{every-split}
use Rattle.wire.specs.Sending.{room_for, write_at, write_if, after_write}
use Rattle.coordinates.specs.Coordinates.{coordinate_of, point_given}
use Rattle.table.specs.Table as K
use Rattle.table.specs.Table.{ParameterKind, Tabled, in_table, not_in_table, kind_of}
use Rattle.parameters.specs.Shapes.{place, values_of, tail_of}
use Rattle.parameters.specs.Numbers.{numbers_of, four_of}
use Rattle.commands.specs.declared.Command.{Command}
use Rattle.writable.specs.Writable.{is_kind, is_value, are_values, is_tail, fits, is_command}
use Rattle.writing.specs.Writing.{spell_command, write_command}
use Rattle.stream.specs.Items.{command, item_at, told_item, after_item}
use Rattle.coordinates.specs.Remembering.{slots_of, kept_in}
use Rattle.stream_calls.specs.Slots.{item_number, item_fields, item_values, remembered_after, NextItem}
use Rattle.stream_calls.specs.Given.{of_kind, of_tabled, command_given, kept_behind, slots_after, WrittenCommand}
use Rattle.laws.specs.Laws.{carried, Back, given}
use Rattle.laws.proofs.Items.{wrote, item_back}
use Rattle.stream_laws.specs.Pair.{taken, ReadBack}

-- ---- the values

-- a coordinate in its range is the number given
coordinate_given : (x : ℤ) → leb (coordinate_of x) 4095 ≡ true → pos (coordinate_of x) ≡ x
unfolding coordinate_of
coordinate_given (pos n) =
    by_pick (λ (k : ℕ). leb k 4095 ≡ true → pos k ≡ pos n) (leb n 4095) n 4096 (λ t h. refl) (λ t h. absurd (bool_apart h))
coordinate_given (negsuc n) = λ h. absurd (bool_apart h)

-- both coordinates of a point that may be written
module _ (x y : ℤ) (h : inside (point_given x y) ≡ true) where
  x-given : pos (coordinate_of x) ≡ x
  x-given = coordinate_given x (and_left (leb (coordinate_of x) 4095) (leb (coordinate_of y) 4095) h)

  y-given : pos (coordinate_of y) ≡ y
  y-given = coordinate_given y (and_right (leb (coordinate_of x) 4095) (leb (coordinate_of y) 4095) h)

kind-values : (k : ParameterKind) (vs : List ℤ) → are_values (values_of (of_kind k vs)) ≡ true → four_of (values_of (of_kind k vs)) ≡ taken (length (numbers_of (values_of (of_kind k vs)))) vs
unfolding of_kind four_of taken
kind-values K.one_integer vs ok = refl
kind-values K.two_integers vs ok = refl
kind-values K.three_integers vs ok = refl
kind-values K.one_point vs ok =
    let a = get_or vs 0 (pos 0) in
    let b = get_or vs 1 (pos 0) in
    let h = (every-split is_value (place (point_given a b)) [] ok).0 in
    rw (x-given a b h, y-given a b h)
kind-values K.two_points vs ok =
    let a = get_or vs 0 (pos 0) in
    let b = get_or vs 1 (pos 0) in
    let d = get_or vs 2 (pos 0) in
    let e = get_or vs 3 (pos 0) in
    let q = every-split is_value (place (point_given a b)) (place (point_given d e) ∷ []) ok in
    let g = (every-split is_value (place (point_given d e)) [] q.1).0 in
    rw (x-given a b q.0, y-given a b q.0, x-given d e g, y-given d e g)
kind-values K.a_real vs ok = refl
kind-values K.a_string vs ok = refl
kind-values K.an_array vs ok = refl
kind-values K.integer_then_array vs ok = refl
kind-values K.integer_then_string vs ok = refl
kind-values K.two_characters vs ok = refl

tabled-values : (f : Tabled) (vs : List ℤ) → are_values (values_of (of_tabled f vs)) ≡ true → four_of (values_of (of_tabled f vs)) ≡ taken (length (numbers_of (values_of (of_tabled f vs)))) vs
unfolding of_tabled four_of taken
tabled-values (in_table k) vs ok = kind-values k vs ok
tabled-values not_in_table vs ok = refl

-- ---- the answer 0 of a writing

accepted : (ok : Bool) (w : List ℕ) (room : ℕ) → 0 ≡ number (write_if ok w room 0) → write_if ok w room 0 ≡ done (value_or 0 (λ (n : ℕ). n) (write_if ok w room 0))
unfolding write_if write_at room_for number value_or
accepted ok w room =
    by_pick P ok _ _
    (λ t. by_pick P (leb (0 + length w) room) _ _ (λ u e. refl) (λ u e. absurd (omega (arith, e))))
    (λ t e. absurd (omega (arith, e)))
  where
    P : Answer ℕ → Type 0
    P a = 0 ≡ number a → a ≡ done (value_or 0 (λ (n : ℕ). n) a)

-- ---- the two calls

module _ (remembered : List ℕ) (first second : ℕ) (vs es : List ℤ) (out : List ℕ) where
  abbrev c : Command
  c = command_given first second vs

  abbrev kept : Remembered
  kept = kept_in remembered

  module _ {n : ℕ} {last left : List ℕ} (w : WrittenCommand remembered c es out 0 n last left) where
    was_done : write_command kept c es (length out) ≡ done n
    was_done = accepted (is_command kept c es) (spell_command kept c es) (length out) w.answered ∙ ap done (sym w.counted)

    stood : take n left ≡ given kept c es out n
    stood = ap (λ (l : List ℕ). take n l) (w.stands ∙ ap (λ (a : Answer ℕ). after_write a (spell_command kept c es) out 0) was_done)

    slots-left : last ≡ slots_of (kept_behind kept c)
    unfolding slots_after value_or
    slots-left = w.remembered ∙ ap (λ (a : Answer ℕ). slots_after remembered c a) was_done

    values-good : are_values (values_of c.parameters) ≡ true
    unfolding is_command fits
    values-good =
        let ok = (wrote kept c es (length out) was_done).writable in
        and_left (are_values (values_of c.parameters)) (is_tail (tail_of c.parameters) es)
        (and_right (inside kept.point) _ (and_right (is_kind c.first c.second c.parameters) _ ok))

    values-so : four_of (values_of c.parameters) ≡ taken (length (numbers_of (values_of c.parameters))) vs
    unfolding command_given
    values-so = tabled-values (kind_of first second) vs values-good

    module _ (before after : List ℕ) (list : List ℤ) (room : length (carried (tail_of c.parameters) es) ≤ length list) where
      abbrev bytes : List ℕ
      bytes = before ++ (take n left ++ after)

      back : Back kept c es n bytes (length before) (length list)
      back = rw stood (item_back kept c es out before after (length list) was_done room)

      item-is : item_at kept bytes (length before) (length list) ≡ command back.read
      item-is = back.whole

      -- "comes back": with its letters, values and list, and "the same remembered point after it", and mode
      pub reads_back : {answer : ℕ} {item : List ℕ} {values : List ℤ} {behind : List ℕ} {entries : List ℤ} → NextItem remembered bytes (length before) list answer item values behind entries → ReadBack first second vs es (length before) n last list answer item values behind entries
      unfolding command_given told_item item_number item_fields item_values remembered_after after_item
      reads_back r = record {
        answered = r.answered ∙ rw item-is;
        slots = r.slots ∙ rw (item-is, back.first-is, back.second_is, back.values-are, back.tail-is, back.count-is, back.next-is);
        same-values = r.numbers ∙ rw (item-is, back.values-are) values-so;
        same_entries = r.filled ∙ rw (item-is, back.entries-are);
        same_memory = r.remembered ∙ rw (item-is, back.kept-is) (sym slots-left);
      }
