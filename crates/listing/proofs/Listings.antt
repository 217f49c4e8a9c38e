-- The listing, by what its lines poured.
use Prim.Native.Nat.{ℕ, zero, suc, ◌+◌, ◌-◌, ◌*◌, ◌^◌, ◌≤◌, ◌<◌, min}
use mathlib.Core.Path.{◌≡◌, refl, sym, ◌∙◌, ap, subst}
use mathlib.Core.Bool.{Bool, true, false}
use mathlib.Core.List.{List, [], ◌++◌, append_assoc, append-nil}
use native.Mathlib.Omega.{arith}
use borrow.Author.Tests.{lt-ltb, le-ltb, le-leb, lt-leb}
use lib.ListN.{length, take}
use lib.Seq.{length-take-le}
use lib.IntN.{ℤ}
use Rattle.memory.specs.declared.Remembered.{Remembered}
use Rattle.memory.specs.Memory.{fresh_memory}
use Rattle.refusals.specs.declared.Refusal.{Refusal}
use Rattle.refusals.specs.declared.Refusal.TheVariants.{TooShort}
use Rattle.std.specs.Prelude.{Result, Ok, Err}
use Rattle.refusals.specs.Answers.{Answer, answer_of}
use Rattle.refusals.proofs.Many.{past_end}
use Rattle.wire.specs.Sending.{room_for, write_at, after_write}
use Rattle.commands.specs.Reading.{ToldCommand}
use Rattle.stream.specs.declared.Item.{Item}
use Rattle.stream.specs.Items.{Itemed, item_at, told_item, item_of, after_item, next_start, next_kept}
use Rattle.lines.specs.Pouring.{far, behind, Put}
use Rattle.lines.specs.Lines.{line_of, last_line}
use Rattle.lines.proofs.Pours.{poured_none, poured_both, poured_long}
use Rattle.listing.specs.Listing.{entries_of, line_then, lines_from, lines_of, listing_with, listing_of}
use Rattle.listing.proofs.Reading.{item-held, line_read}

-- ---- the items' lines: those passed have been poured, and the rest is what k turns give

pub record Going (s l : List ℕ) (k : ℕ) (kept : Remembered) (start at : ℕ) (list : List ℤ) (o : List ℕ) : Type 0 where
  pub room : length list ≡ 256
  pub passed : List ℕ
  pub stand : Put l 0 passed at o
  pub whole : passed ++ lines_from k s kept start ≡ lines_of s

pub going_none : (s l : List ℕ) {kept : Remembered} (list : List ℤ) → kept ≡ fresh_memory → length list ≡ 256 → length l * 1 < 2 ^ 63 → Going s l (length s - 0) kept 0 0 list l
unfolding lines_of
going_none s l list e r h =
    let z : length s - 0 ≡ length s = omega arith in
    record { room = r; passed = []; stand = poured_none l 0 h; whole = rw (z, e) }

one_line : (k : ℕ) (s : List ℕ) (kept : Remembered) (start : ℕ) {r : Itemed ToldCommand} → 0 < k → r ≡ told_item (item_at kept s start 256) → lines_from k s kept start ≡ line_of r start (entries_of (item_at kept s start 256)) ++ lines_from (k - 1) s (next_kept kept r) (next_start start r)
unfolding lines_from line_then
one_line zero s kept start h e = absurd (omega arith)
one_line (suc k) s kept start h e = let z : suc k - 1 ≡ k = omega arith in rw (e, z) refl

-- the line of the entries that were read, whatever the list held
read-line : (kept : Remembered) (s : List ℕ) (start : ℕ) (list : List ℤ) (r : Item) {list₁ : List ℤ} → length list ≡ 256 → item_of r ≡ told_item (item_at kept s start (length list)) → list₁ ≡ after_item (item_at kept s start (length list)) list → line_of (item_of r) start list₁ ≡ line_of (item_of r) start (entries_of (item_at kept s start 256))
read-line kept s start list r {list₁} e er el =
    let i = item_at kept s start (length list) in
    let j : line_of (item_of r) start list₁ ≡ line_of (item_of r) start (entries_of i) = rw (el, er) (line_read list start i (item-held kept s start (length list))) in
    j ∙ ap (λ (n : ℕ). line_of (item_of r) start (entries_of (item_at kept s start n))) e

pub going_more : (s l : List ℕ) (k : ℕ) (kept : Remembered) (start at : ℕ) (list : List ℤ) (r : Item) {o o₁ : List ℕ} {list₁ : List ℤ} {n start₁ : ℕ} {kept₁ : Remembered} → Going s l k kept start at list o → 0 < k → item_of r ≡ told_item (item_at kept s start (length list)) → list₁ ≡ after_item (item_at kept s start (length list)) list → length list₁ ≡ length list → Put o at (line_of (item_of r) start list₁) n o₁ → start₁ ≡ next_start start (item_of r) → kept₁ ≡ next_kept kept (item_of r) → Going s l (k - 1) kept₁ start₁ n list₁ o₁
going_more s l k kept start at list r g h er el long p es ek =
    let line = read-line kept s start list r g.room er el in
    let told : item_of r ≡ told_item (item_at kept s start 256) = er ∙ ap (λ (n : ℕ). told_item (item_at kept s start n)) g.room in
    let w = line_of (item_of r) start (entries_of (item_at kept s start 256)) in
    record {
      room = long ∙ g.room;
      passed = g.passed ++ w;
      stand = poured_both (rw line at p) g.stand;
      whole =
          rw (es, ek) (append_assoc g.passed w (lines_from (k - 1) s (next_kept kept (item_of r)) (next_start start (item_of r))))
          ∙ ap (λ (v : List ℕ). g.passed ++ v) (sym (one_line k s kept start h told))
          ∙ g.whole;
    }

-- the same in a `for` loop, which counts the turns that are done
pub going_next : (s l : List ℕ) (i : ℕ) (kept : Remembered) (start at : ℕ) (list : List ℤ) (r : Item) {o o₁ : List ℕ} {list₁ : List ℤ} {n start₁ : ℕ} {kept₁ : Remembered} → Going s l (length s - i) kept start at list o → i < length s → item_of r ≡ told_item (item_at kept s start (length list)) → list₁ ≡ after_item (item_at kept s start (length list)) list → length list₁ ≡ length list → Put o at (line_of (item_of r) start list₁) n o₁ → start₁ ≡ next_start start (item_of r) → kept₁ ≡ next_kept kept (item_of r) → Going s l (length s - (i + 1)) kept₁ start₁ n list₁ o₁
going_next s l i kept start at list r {o₁ = o₁} {list₁ = list₁} {n = n} {start₁ = start₁} {kept₁ = kept₁} g h er el long p es ek =
    let z : length s - i - 1 ≡ length s - (i + 1) = omega arith in
    subst (λ (k : ℕ). Going s l k kept₁ start₁ n list₁ o₁) z (going_more s l (length s - i) kept start at list r g (omega arith) er el long p es ek)

pub going_end : {s l : List ℕ} {k : ℕ} {kept : Remembered} {start at : ℕ} {list : List ℤ} {o : List ℕ} → Going s l k kept start at list o → k ≤ 0 → Put l 0 (lines_of s) at o
unfolding lines_from
going_end {k = zero} g h = rw (sym (append-nil g.passed) ∙ g.whole) at g.stand
going_end {k = suc k} g h = absurd (omega arith)

pub going_over : {s l : List ℕ} {i : ℕ} {kept : Remembered} {start at : ℕ} {list : List ℤ} {o : List ℕ} → Going s l (length s - i) kept start at list o → length s ≤ i → Put l 0 (lines_of s) at o
going_over g h = going_end g (omega arith)

pub going_long : {s l : List ℕ} {k : ℕ} {kept : Remembered} {start at : ℕ} {list : List ℤ} {o : List ℕ} → Going s l k kept start at list o → length o ≡ length l
going_long g = poured_long g.stand

pub ruleset goings = (going_none, going_next, going_over, going_long)

-- ---- the last line

pub listing_poured : (more : Bool) (s : List ℕ) {l l₁ o : List ℕ} {i n : ℕ} → Put l₁ i (last_line more (length s)) n o → Put l 0 (lines_of s) i l₁ → Put l 0 (listing_with more s) n o
unfolding listing_with
listing_poured more s b a = poured_both b a

-- ---- poured on nothing, to learn the length; and then on the lent bytes

module _ (w l : List ℕ) {q : List ℕ} {m : ℕ} (dry : Put [] 0 w m q) where
  kept : q ++ l ≡ l
  kept = let e : q ≡ [] = dry.stands ∙ past_end [] 0 w (omega arith) in rw e

  size : m ≡ min (length w) far
  unfolding behind
  size = omega (arith, dry.next)

  pub listing_kept : (e : Refusal) → q ++ l ≡ after_write (answer_of (Err e)) w l 0
  unfolding answer_of after_write
  listing_kept e = kept

  pub listing_short : length (q ++ l) < m → answer_of (Err TooShort) ≡ write_at w (length l) 0
  unfolding answer_of write_at room_for
  listing_short h =
      let z = size in
      let i : length l < m = rw kept at h in
      rw (lt-leb (0 + length w) (length l) (omega arith))

  module _ {o : List ℕ} {n : ℕ} (wet : Put (q ++ l) 0 w n o) where
    pub listing_stands : o ≡ after_write (answer_of (Ok n)) w l 0
    unfolding answer_of after_write
    listing_stands = rw kept at wet.stands

    pub listing_fits : m ≤ length (q ++ l) → answer_of (Ok n) ≡ write_at w (length l) 0
    unfolding answer_of write_at room_for behind
    listing_fits h =
        let i : m ≤ length l = rw kept at h in
        let j : length l < far = rw kept at wet.room in
        let z : n ≡ 0 + length w = omega (arith, size, wet.next) in
        rw (le-leb (0 + length w) (length l) (omega (arith, size)), z)

pub ruleset writings = (listing_kept, listing_short, listing_stands, listing_fits, poured_long)

-- ---- the bytes read

module _ (input : List ℕ) where
  module _ (h : 4096 < length input) where
    pub front_long : length (take 4096 input) ≡ 4096
    front_long = length-take-le 4096 input (omega arith)

    more_is : listing_of input ≡ listing_with true (take 4096 input)
    unfolding listing_of
    more_is = rw (lt-ltb 4096 (length input) h)

    pub more_told : (room : ℕ) {q : Answer ℕ} → q ≡ write_at (listing_with true (take 4096 input)) room 0 → q ≡ write_at (listing_of input) room 0
    more_told room j = rw more_is j

    pub more_stands : (r : Result ℕ Refusal) (l : List ℕ) {o : List ℕ} → o ≡ after_write (answer_of r) (listing_with true (take 4096 input)) l 0 → o ≡ after_write (answer_of r) (listing_of input) l 0
    more_stands r l j = rw more_is j

  module _ (h : length input ≤ 4096) where
    all_is : listing_of input ≡ listing_with false input
    unfolding listing_of
    all_is = rw (le-ltb 4096 (length input) h)

    pub all_told : (room : ℕ) {q : Answer ℕ} → q ≡ write_at (listing_with false input) room 0 → q ≡ write_at (listing_of input) room 0
    all_told room j = rw all_is j

    pub all_stands : (r : Result ℕ Refusal) (l : List ℕ) {o : List ℕ} → o ≡ after_write (answer_of r) (listing_with false input) l 0 → o ≡ after_write (answer_of r) (listing_of input) l 0
    all_stands r l j = rw all_is j

pub ruleset inputs = (front_long, more_told, more_stands, all_told, all_stands)
