-- No item is left out: the turns of the definition never run out before the bytes do; and one byte behind those that are listed tells that
-- more input follows.
use Prim.Native.Nat.{ℕ, zero, suc, ◌≤◌, ◌<◌}
use mathlib.Core.Path.{◌≡◌, refl, ◌∙◌, ap}
use mathlib.Core.Bool.{Bool, true, false}
use mathlib.Core.List.{List, []}
use native.Mathlib.Omega.{arith}
use borrow.Author.Tests.{lt-ltb, le-ltb, ltb-true, ltb-false}
use lib.ListN.{length, take, length-take}
use lib.Seq.{take-take, take_all}
use lib.Dec.{ltb}
use Rattle.memory.specs.declared.Remembered.{Remembered}
use Rattle.memory.specs.Memory.{fresh_memory, inside}
use Rattle.refusals.proofs.Cases.{by_pick}
use Rattle.commands.specs.Reading.{Meaning}
use Rattle.stream.specs.Items.{Itemed, nothing, text, del, command, refused_command, refused_call, item_at, told_item, next_start, next_kept}
use Rattle.laws.specs.Laws.{Onward, Parted, ByNothing}
use Rattle.laws.proofs.Partition.{every-stream_read}
use Rattle.lines.specs.Lines.{line_of}
use Rattle.listing.specs.Listing.{line_then, lines_from, lines_of, listing_with, listing_of}
use Rattle.listing_laws.specs.Listings.{start_behind}

-- ---- what is no item has no line, and nothing follows it

unfoldable pub NoItem : Itemed Meaning → Type 0
NoItem nothing = Unit {0}
NoItem (text b n) = ⊥
NoItem (del n) = ⊥
NoItem (command m) = ⊥
NoItem (refused_command e p n kept) = ⊥
NoItem (refused_call e p) = Unit {0}

at-end : (kept : Remembered) (s : List ℕ) (start : ℕ) → start ≡ length s → NoItem (item_at kept s start 256)
unfolding item_at NoItem
at-end kept s start e =
    rw (le-ltb (length s) start (omega (arith, e)), le-ltb start (length s) (omega (arith, e)))
    (by_pick NoItem (inside kept.point) _ _ (λ t. tt) (λ t. tt))

none_then : (rest : Remembered → ℕ → List ℕ) (kept : Remembered) (start : ℕ) (i : Itemed Meaning) → NoItem i → line_then rest kept start i ≡ rest kept start
unfolding line_then line_of told_item next_kept next_start NoItem
none_then rest kept start nothing h = refl
none_then rest kept start (text b n) h = absurd h
none_then rest kept start (del n) h = absurd h
none_then rest kept start (command m) h = absurd h
none_then rest kept start (refused_command e p n k) h = absurd h
none_then rest kept start (refused_call e p) h = refl

pub no_lines : (k : ℕ) (s : List ℕ) (kept : Remembered) (start : ℕ) → NoItem (item_at kept s start 256) → lines_from k s kept start ≡ []
unfolding lines_from
no_lines zero s kept start h = refl
no_lines (suc k) s kept start h = none_then (lines_from k s) kept start (item_at kept s start 256) h ∙ no_lines k s kept start h

-- ---- more turns than items give no more lines

abbrev Same : (j k : ℕ) (s : List ℕ) → Type 0
Same j k s = (kept : Remembered) (start : ℕ) → Parted ByNothing s 256 k kept start → lines_from j s kept start ≡ lines_from k s kept start

same_then : (j k : ℕ) (s : List ℕ) (kept : Remembered) (start : ℕ) → Same j k s → (i : Itemed Meaning) → item_at kept s start 256 ≡ i → Onward ByNothing (Parted ByNothing s 256 k) s kept start i → line_then (lines_from j s) kept start i ≡ line_then (lines_from k s) kept start i
unfolding Onward line_then told_item next_kept next_start NoItem
same_then j k s kept start same (text b n) e h = rw (same kept n h.1)
same_then j k s kept start same (del n) e h = rw (same kept n h.1)
same_then j k s kept start same (command m) e h = rw (same m.kept m.next h.1)
same_then j k s kept start same (refused_command x p n before) e h = rw (same before n h.1.1)
same_then j k s kept start same nothing e h =
    let z : NoItem (item_at kept s start 256) = rw e tt in rw (no_lines j s kept start z, no_lines k s kept start z)
same_then j k s kept start same (refused_call x p) e h = absurd h

same_lines : (j k : ℕ) (s : List ℕ) → k ≤ j → Same j k s
unfolding lines_from Parted
same_lines j zero s h kept start part = no_lines j s kept start (at-end kept s start part)
same_lines zero (suc k) s h kept start part = absurd (omega arith)
same_lines (suc j) (suc k) s h kept start part =
    same_then j k s kept start (same_lines j k s (omega arith)) (item_at kept s start 256) refl part

-- so more turns give no more lines
pub no_more_lines : (s : List ℕ) (k : ℕ) → length s ≤ k → lines_from k s fresh_memory 0 ≡ lines_of s
unfolding lines_of
no_more_lines s k h = same_lines k (length s) s h fresh_memory 0 (every-stream_read fresh_memory s 256 refl (omega arith))

-- ---- and behind as many turns as there are bytes the next item would start at their end: every item has had its turn

still_there : (k : ℕ) (s : List ℕ) (kept : Remembered) (start : ℕ) → item_at kept s start 256 ≡ nothing → start_behind k s kept start ≡ start
unfolding start_behind told_item next_kept next_start
still_there zero s kept start e = refl
still_there (suc k) s kept start e = rw e (still_there k s kept start e)

reached_then : (k : ℕ) (s : List ℕ) (kept : Remembered) (start : ℕ) → ((m : Remembered) (n : ℕ) → Parted ByNothing s 256 k m n → start_behind k s m n ≡ length s)
    → (i : Itemed Meaning) → item_at kept s start 256 ≡ i → Onward ByNothing (Parted ByNothing s 256 k) s kept start i
    → start_behind k s (next_kept kept (told_item i)) (next_start start (told_item i)) ≡ length s
unfolding Onward told_item next_kept next_start
reached_then k s kept start next (text b n) e h = next kept n h.1
reached_then k s kept start next (del n) e h = next kept n h.1
reached_then k s kept start next (command m) e h = next m.kept m.next h.1
reached_then k s kept start next (refused_command x p n before) e h = next before n h.1.1
reached_then k s kept start next nothing e h = still_there k s kept start e ∙ h
reached_then k s kept start next (refused_call x p) e h = absurd h

reached : (k : ℕ) (s : List ℕ) (kept : Remembered) (start : ℕ) → Parted ByNothing s 256 k kept start → start_behind k s kept start ≡ length s
unfolding start_behind Parted
reached zero s kept start part = part
reached (suc k) s kept start part = reached_then k s kept start (reached k s) (item_at kept s start 256) refl part

pub all_listed : (s : List ℕ) → start_behind (length s) s fresh_memory 0 ≡ length s
all_listed s = reached (length s) s fresh_memory 0 (every-stream_read fresh_memory s 256 refl (omega arith))

-- ---- the lister reads one byte more than it lists: that tells whether more input follows

pub byte_more : (input : List ℕ) → listing_of (take 4097 input) ≡ listing_of input
unfolding listing_of
byte_more input =
    by_pick (λ (b : Bool). listing_of (take 4097 input) ≡ listing_of input) (ltb 4096 (length input)) true false
    (λ t. let h = ltb-true 4096 (length input) t in
    let long : 4096 < length (take 4097 input) = omega (arith, length-take 4097 input, h) in
    rw (lt-ltb 4096 (length input) h, lt-ltb 4096 (length (take 4097 input)) long) (ap (listing_with true) (take-take 4096 4097 input (omega arith))))
    (λ t. let h = ltb-false 4096 (length input) t in ap listing_of (take_all 4097 input (omega (arith, h))))
