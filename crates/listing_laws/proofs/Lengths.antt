-- How long a listing is: no item has more than 14 bytes of line for each of its own bytes, and the last line has no more than 7. An R line for an item
-- of one byte has 14: two ESCs, from place 1000 on.
use Prim.Native.Nat.{ℕ, zero, suc, ◌+◌, ◌*◌, ◌/◌, ◌%◌, ◌≤◌, ◌<◌}
use mathlib.Core.Path.{◌≡◌, refl, ap, subst}
use mathlib.Core.Bool.{Bool, true, false}
use mathlib.Core.List.{List, [], ◌∷◌, ◌++◌, map}
use native.Mathlib.Omega.{arith}
use borrow.Author.Tests.{lt-ltb, ltb-false, le-leb, leb-true}
use lib.Dec.{ltb, leb, eqb}
use lib.ListN.{length, get_or, take, length-append, length-take}
use lib.Seq.{take_all}
use lib.IntN.{ℤ, pos, negsuc, nat_abs}
use Rattle.memory.specs.declared.DelMode.{DelMode}
use Rattle.memory.specs.declared.DelMode.TheVariants.{Data, Filler}
use Rattle.memory.specs.declared.Remembered.{Remembered}
use Rattle.memory.specs.Memory.{inside, fresh_memory}
use Rattle.refusals.specs.Answers.{Answer, done, refused}
use Rattle.refusals.proofs.Cases.{by_pick, and_left, and_right, bool_apart}
use Rattle.refusals.proofs.Many.{every-split}
use Rattle.signs.specs.Signs.{is_negative, most_magnitude}
use Rattle.wire.specs.Sending.{paired, sent_in, sent, room_for, write_at}
use Rattle.numbers.specs.Integers.{highs_of, low_of, spell_of, spell}
use Rattle.table.specs.Table.{ParameterKind}
use Rattle.table.specs.Table as K
use Rattle.parameters.specs.declared.Entry.{Entry}
use Rattle.parameters.specs.declared.Entry.TheVariants.{AnInteger, ACharacter}
use Rattle.parameters.specs.Shapes.{Tailed, no_list, list_of, Part, single, real, point, Shape, shape_of, Value, number, scaled, place}
use Rattle.parameters.specs.Numbers.{numbers_of}
use Rattle.parameters.specs.Behind.{after_values}
use Rattle.commands.specs.Reading.{Meaning, tell, command_at}
use Rattle.writable.specs.Writable.{is_entry, are_entries, is_value, are_values, is_tail}
use Rattle.writing.specs.Writing.{spell_entry, spell_entries, spell_values, spell_tail, spell_parameters}
use Rattle.stream.specs.Items.{Itemed, nothing, text, del, command, refused_command, refused_call, as_item, command_item, is_filler, item_at, told_item, next_start, next_kept}
use Rattle.laws.specs.Laws.{Onward, Parted, ByNothing}
use Rattle.laws.proofs.RoundTrip.{part_of}
use Rattle.laws.proofs.Shortest.{Shown, command-shown}
use Rattle.laws.proofs.Partition.{every-stream_read}
use Rattle.lines.specs.Decimals.{digits_of, decimal, field, fields}
use Rattle.lines.specs.Lines.{listed, opening, text_line, del_line, letters, command_head, parameters_words, command_line, pair, refused_line, line_of, last_line}
use Rattle.listing.specs.Listing.{entries_of, line_then, lines_from, lines_of, listing_with, listing_of}
use Rattle.listing_laws.specs.Listings.{most_listed}
use Rattle.listing_laws.proofs.Whole.{NoItem, no_lines}

-- ---- digits

one-digit : (f n : ℕ) → n < 10 → length (digits_of f n) ≤ 1
unfolding digits_of
one-digit zero n h = omega arith
one-digit (suc f) n h = rw (lt-ltb n 10 h) (omega arith)

digit_more : (b k : ℕ) → ((f n : ℕ) → n < b → length (digits_of f n) ≤ k) → (f n : ℕ) → n < b * 10 → length (digits_of f n) ≤ k + 1
unfolding digits_of
digit_more b k few zero n h = omega arith
digit_more b k few (suc f) n h =
    by_pick (λ (w : List ℕ). length w ≤ k + 1) (ltb n 10) _ _
    (λ t. omega arith)
    (λ t. let q : n / 10 < b = omega arith in omega (arith, few f (n / 10) q, length-append (digits_of f (n / 10)) ((48 + n % 10) ∷ [])))

abbrev Few : (b k : ℕ) → Type 0
Few b k = (f n : ℕ) → n < b → length (digits_of f n) ≤ k

three : Few 1000 3
three = digit_more 100 2 (digit_more 10 1 one-digit)

four : Few 10000 4
four = digit_more 1000 3 three

five : Few 100000 5
five = digit_more 10000 4 four

-- a number with its blank
natural_few : (b k n : ℕ) → Few b k → n < b → length (field (pos n)) ≤ k + 1
unfolding field decimal
natural_few b k n few h = omega (arith, few (suc n) n h)

number-few : (v : ℤ) → nat_abs v < 100000 → length (field v) ≤ 7
unfolding field decimal
number-few (pos n) h = omega (arith, five (suc n) n h)
number-few (negsuc n) h = omega (arith, five (suc (suc n)) (suc n) h)

-- ---- the numbers of a command

integer-few : (v : ℤ) → leb (nat_abs v) (most_magnitude (is_negative v)) ≡ true → nat_abs v < 100000
integer-few (pos n) h = omega (arith, leb-true n 32767 h)
integer-few (negsuc n) h = omega (arith, leb-true (suc n) 32768 h)

character_few : (v : ℤ) → is_entry ACharacter v ≡ true → nat_abs v < 100000
character_few (pos n) h = omega (arith, leb-true n 127 (and_right (leb 32 n) (leb n 127) h))
character_few (negsuc n) h = absurd (bool_apart h)

entry_few : (e : Entry) (v : ℤ) → is_entry e v ≡ true → length (field v) ≤ 7
entry_few AnInteger v h = number-few v (integer-few v h)
entry_few ACharacter v h = number-few v (character_few v h)

entries-few : (e : Entry) (es : List ℤ) → are_entries e es ≡ true → length (fields es) ≤ 7 * length es
unfolding fields
entries-few e [] h = omega arith
entries-few e (v ∷ vs) h =
    let q = every-split (is_entry e) v vs h in
    omega (arith, entry_few e v q.0, entries-few e vs q.1, length-append (field v) (fields vs))

-- how many numbers the values of such parts have
size : Part → ℕ
size (single e) = 1
size real = 2
size point = 2

sizes : List Part → ℕ
sizes [] = 0
sizes (p ∷ ps) = size p + sizes ps

kind-few : (k : ParameterKind) → sizes (shape_of k).fixed ≤ 4
unfolding sizes size
kind-few K.one_integer = omega arith
kind-few K.two_integers = omega arith
kind-few K.three_integers = omega arith
kind-few K.one_point = omega arith
kind-few K.two_points = omega arith
kind-few K.a_real = omega arith
kind-few K.a_string = omega arith
kind-few K.an_array = omega arith
kind-few K.integer_then_array = omega arith
kind-few K.integer_then_string = omega arith
kind-few K.two_characters = omega arith

two-few : (a b : ℤ) (w : List ℕ) → length (field a) ≤ 7 → length (field b) ≤ 7 → length (field a ++ (field b ++ w)) ≤ 14 + length w
two-few a b w h g = omega (arith, h, g, length-append (field a) (field b ++ w), length-append (field b) w)

values-few : (vs : List Value) → are_values vs ≡ true → length (fields (numbers_of vs)) ≤ 7 * sizes (map part_of vs)
unfolding fields sizes size
values-few [] h = omega arith
values-few (number e v ∷ vs) h =
    let q = every-split is_value (number e v) vs h in
    omega (arith, entry_few e v q.0, values-few vs q.1, length-append (field v) (fields (numbers_of vs)))
values-few (scaled m x ∷ vs) h =
    let q = every-split is_value (scaled m x) vs h in
    let a = entry_few AnInteger m (and_left (is_entry AnInteger m) (is_entry AnInteger x) q.0) in
    let b = entry_few AnInteger x (and_right (is_entry AnInteger m) (is_entry AnInteger x) q.0) in
    omega (arith, two-few m x (fields (numbers_of vs)) a b, values-few vs q.1)
values-few (place p ∷ vs) h =
    let q = every-split is_value (place p) vs h in
    let a : length (field (pos p.x)) ≤ 7 = number-few (pos p.x) (omega (arith, leb-true p.x 4095 (and_left (leb p.x 4095) (leb p.y 4095) q.0))) in
    let b : length (field (pos p.y)) ≤ 7 = number-few (pos p.y) (omega (arith, leb-true p.y 4095 (and_right (leb p.x 4095) (leb p.y 4095) q.0))) in
    omega (arith, two-few (pos p.x) (pos p.y) (fields (numbers_of vs)) a b, values-few vs q.1)

-- ---- a list has a byte for each entry

-- no byte is sent as none, in either mode
pair-some : (b : ℕ) → 1 ≤ length (paired b)
pair-some b = by_pick (λ (w : List ℕ). 1 ≤ length w) (eqb b 127) _ _ (λ t. omega arith) (λ t. omega arith)

sent-least_in : (m : DelMode) (w : List ℕ) → length w ≤ length (sent_in m w)
unfolding sent_in
sent-least_in Data w = omega arith
sent-least_in Filler [] = omega arith
sent-least_in Filler (b ∷ w) = omega (arith, pair-some b, sent-least_in Filler w, length-append (paired b) (sent_in Filler w))

sent-least : (kept : Remembered) (w : List ℕ) → length w ≤ length (sent kept w)
unfolding sent
sent-least kept w = sent-least_in kept.mode w

entry_some : (e : Entry) (kept : Remembered) (v : ℤ) → 1 ≤ length (spell_entry e kept v)
unfolding spell_entry spell_of
entry_some AnInteger kept v =
    let m = nat_abs v in
    omega (arith, sent-least kept (spell v), length-append (highs_of (m / 16)) (low_of m (is_negative v) ∷ []))
entry_some ACharacter kept v = omega (arith, sent-least kept (nat_abs v ∷ []))

entries-some : (e : Entry) (kept : Remembered) (es : List ℤ) → length es ≤ length (spell_entries e kept es)
unfolding spell_entries
entries-some e kept [] = omega arith
entries-some e kept (v ∷ vs) =
    omega (arith, entry_some e kept v, entries-some e kept vs, length-append (spell_entry e kept v) (spell_entries e kept vs))

list_few : (t : Tailed) (k : ℕ) (es : List ℤ) (kept : Remembered) → k ≡ length es → is_tail t es ≡ true → length (listed t k es) ≤ 4 + 7 * length (spell_tail kept t es)
unfolding listed spell_tail is_tail
list_few no_list k es kept e h = omega arith
list_few (list_of x) k es kept e h =
    let most : length es ≤ 256 = leb-true (length es) 256 (and_left (leb (length es) 256) (are_entries x es) h) in
    let count = natural_few 1000 3 k three (omega (arith, e, most)) in
    let all : take k es ≡ es = take_all k es (omega (arith, e)) in
    let bytes = length-append (sent kept (spell_of (length es) false)) (spell_entries x kept es) in
    rw all
    (omega (arith, count, entries-few x es (and_right (leb (length es) 256) (are_entries x es) h), entries-some x kept es, bytes, length-append (field (pos k)) (fields es)))

-- ---- the lines

opening-few : (letter start : ℕ) → start < 10000 → length (opening letter start) ≤ 6
unfolding opening
opening-few letter start h = omega (arith, natural_few 10000 4 start four h)

text-few : (start b : ℕ) → start < 10000 → b < 1000 → length (text_line start b) ≤ 11
unfolding text_line
text-few start b h g =
    omega (arith, opening-few 84 start h, natural_few 1000 3 b three g, length-append (opening 84 start ++ field (pos b)) (10 ∷ []), length-append (opening 84 start) (field (pos b)))

del-few : (start : ℕ) → start < 10000 → length (del_line start) ≤ 7
unfolding del_line
del-few start h = omega (arith, opening-few 68 start h, length-append (opening 68 start) (10 ∷ []))

refused-few : (start e p : ℕ) → start < 10000 → e < 10 → p < 10000 → length (refused_line start e p) ≤ 14
unfolding refused_line pair
refused-few start e p h g q =
    let numbers = length-append (field (pos e)) (field (pos p)) in
    omega (arith, opening-few 82 start h, natural_few 10 1 e one-digit g, natural_few 10000 4 p four q, numbers, length-append (opening 82 start ++ (field (pos e) ++ field (pos p))) (10 ∷ []), length-append (opening 82 start) (field (pos e) ++ field (pos p)))

pub last-few : (more : Bool) (n : ℕ) → n < 10000 → length (last_line more n) ≤ 7
unfolding last_line
last-few true n h = omega (arith, opening-few 77 n h, length-append (opening 77 n) (10 ∷ []))
last-few false n h = omega (arith, opening-few 69 n h, length-append (opening 69 n) (10 ∷ []))

module _ (kept : Remembered) (s : List ℕ) (start : ℕ) (m : Meaning) (f : Shown kept s start m) (h : start < 10000) where
  words_few : length (parameters_words m.values m.tail m.count m.entries) ≤ 32 + 7 * length (spell_tail (after_values kept m.values) m.tail m.entries)
  unfolding parameters_words
  words_few =
      let parts : sizes (map part_of m.values) ≤ 4 = subst (λ (x : Shape). sizes x.fixed ≤ 4) f.shape_is (kind-few f.kind) in
      omega (arith, parts, values-few m.values f.values-ok, list_few m.tail m.count m.entries (after_values kept m.values) f.count-is f.tail-ok, length-append (fields (numbers_of m.values)) (listed m.tail m.count m.entries))

  head_few : length (command_head start m.first m.second) ≤ 9
  unfolding command_head letters
  head_few = omega (arith, opening-few 67 start h, length-append (opening 67 start) (32 ∷ m.first ∷ m.second ∷ []))

  command-few : length (command_line (tell m) start m.entries) + 14 * start ≤ 14 * m.next
  unfolding command_line spell_parameters
  command-few =
      let head = command_head start m.first m.second in
      let words = parameters_words m.values m.tail m.count m.entries in
      let tail = spell_tail (after_values kept m.values) m.tail m.entries in
      omega (arith, f.shortest, head_few, words_few, length-append (head ++ words) (10 ∷ []), length-append head words, length-append (spell_values kept m.values) tail)

-- ---- an item's line

-- what the item at start is, as far as its line goes
unfoldable Told : Remembered → List ℕ → ℕ → Itemed Meaning → Type 0
Told kept s start nothing = Unit {0}
Told kept s start (text b n) = b < 256
Told kept s start (del n) = Unit {0}
Told kept s start (command m) = Shown kept s start m
Told kept s start (refused_command e p n k) = Unit {0}
Told kept s start (refused_call e p) = Unit {0}

module _ (kept : Remembered) (s : List ℕ) (start : ℕ) (bytes : (i : ℕ) → get_or s i 0 < 256) where
  abbrev P : Itemed Meaning → Type 0
  P = Told kept s start

  answer_told : (a : Answer Meaning) → command_at kept s start 256 ≡ a → P (as_item kept s a)
  unfolding Told
  answer_told (done m) e = command-shown kept s start 256 e
  answer_told (refused e p) q = by_pick P (eqb e 7) _ _ (λ t. tt) (λ t. tt)

  item-told : P (item_at kept s start 256)
  unfolding item_at command_item Told
  item-told =
      by_pick P (ltb (length s) start) _ _
      (λ t. tt)
      (λ t. by_pick P (inside kept.point) _ _
      (λ u. by_pick P (ltb start (length s)) _ _
      (λ v. by_pick P (eqb (get_or s start 0) 27) _ _
      (λ w. answer_told (command_at kept s start 256) refl)
      (λ w. by_pick P (is_filler kept.mode (get_or s start 0)) _ _ (λ x. tt) (λ x. bytes start)))
      (λ v. tt))
      (λ u. tt))

-- ---- all lines

module _ (s : List ℕ) (bytes : (i : ℕ) → get_or s i 0 < 256) (most : length s ≤ 4096) where
  abbrev Short : ℕ → Remembered → ℕ → Type 0
  Short k kept start = length (lines_from k s kept start) + 14 * start ≤ 14 * length s

  -- an item's line and those behind it
  then-few : (k : ℕ) (kept : Remembered) (start : ℕ) → ((m : Remembered) (n : ℕ) → Parted ByNothing s 256 k m n → Short k m n) → (i : Itemed Meaning) → item_at kept s start 256 ≡ i → Told kept s start i → Onward ByNothing (Parted ByNothing s 256 k) s kept start i → length (line_then (lines_from k s) kept start i) + 14 * start ≤ 14 * length s
  unfolding Told Onward line_then line_of told_item entries_of next_kept next_start NoItem
  then-few k kept start rest nothing e t h =
      let none : NoItem (item_at kept s start 256) = rw e tt in omega (arith, h, ap length (no_lines k s kept start none))
  then-few k kept start rest (text b n) e t h =
      omega (arith, h.0.0, h.0.1, text-few start b (omega (arith, h.0, most)) (omega (arith, t)), rest kept n h.1, length-append (text_line start b) (lines_from k s kept n))
  then-few k kept start rest (del n) e t h =
      omega (arith, h.0.0, h.0.1, del-few start (omega (arith, h.0, most)), rest kept n h.1, length-append (del_line start) (lines_from k s kept n))
  then-few k kept start rest (command m) e t h =
      omega (arith, command-few kept s start m t (omega (arith, h.0, most)), rest m.kept m.next h.1, length-append (command_line (tell m) start m.entries) (lines_from k s m.kept m.next))
  then-few k kept start rest (refused_command x p n before) e t h =
      let around = h.0.1 in
      omega (arith, around, refused-few start x p (omega (arith, around, most)) (omega (arith, h.0.0)) (omega (arith, around, most)), rest before n h.1.1, length-append (refused_line start x p) (lines_from k s before n))
  then-few k kept start rest (refused_call x p) e t h = absurd h

  lines_few : (k : ℕ) (kept : Remembered) (start : ℕ) → Parted ByNothing s 256 k kept start → Short k kept start
  unfolding Parted lines_from
  lines_few zero kept start h = omega (arith, h)
  lines_few (suc k) kept start h =
      then-few k kept start (lines_few k) (item_at kept s start 256) refl (item-told kept s start bytes) h

  pub with-few : (more : Bool) → length (listing_with more s) ≤ most_listed
  unfolding listing_with lines_of
  with-few more =
      let lines = lines_few (length s) fresh_memory 0 (every-stream_read fresh_memory s 256 refl (omega arith)) in
      omega (arith, lines, last-few more (length s) (omega (arith, most)), length-append (lines_from (length s) s fresh_memory 0) (last_line more (length s)))

front_bytes : (n : ℕ) (s : List ℕ) → ((i : ℕ) → get_or s i 0 < 256) → (i : ℕ) → get_or (take n s) i 0 < 256
front_bytes zero s h i = omega arith
front_bytes (suc n) [] h i = omega arith
front_bytes (suc n) (x ∷ s) h zero = h 0
front_bytes (suc n) (x ∷ s) h (suc i) = front_bytes n s (λ j. h (suc j)) i

-- 14 times 4,096, and 7
pub listing_few : (input : List ℕ) → ((i : ℕ) → get_or input i 0 < 256) → length (listing_of input) ≤ most_listed
unfolding listing_of
listing_few input bytes =
    by_pick (λ (w : List ℕ). length w ≤ most_listed) (ltb 4096 (length input)) _ _
    (λ t. with-few (take 4096 input) (front_bytes 4096 input bytes) (omega (arith, length-take 4096 input)) true)
    (λ t. with-few input bytes (ltb-false 4096 (length input) t) false)

-- in such room it is always written
pub always_fits : (input : List ℕ) (room : ℕ) → ((i : ℕ) → get_or input i 0 < 256) → most_listed ≤ room → write_at (listing_of input) room 0 ≡ done (0 + length (listing_of input))
unfolding write_at room_for
always_fits input room bytes h = rw (le-leb (0 + length (listing_of input)) room (omega (arith, listing_few input bytes)))
