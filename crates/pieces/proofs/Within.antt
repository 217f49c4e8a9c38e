-- A piece that is copied or called ends behind its start and no farther than the end of the body: a loop over pieces ends.
use Prim.Native.Nat.{ℕ, ◌≤◌, ◌<◌}
use mathlib.Core.Path.{◌≡◌, subst}
use mathlib.Core.Bool.{Bool, true, false}
use mathlib.Core.List.{List}
use native.Mathlib.Omega.{arith}
use borrow.Author.Tests.{le-ltb, ltb-true, ltb-false}
use lib.Dec.{ltb}
use lib.ListN.{length}
use lib.IntN.{ℤ}
use Rattle.memory.specs.declared.Remembered.{Remembered}
use Rattle.memory.specs.Memory.{inside}
use Rattle.refusals.proofs.Cases.{by_pick}
use Rattle.parameters.specs.Shapes.{Value}
use Rattle.commands.specs.Reading.{Meaning}
use Rattle.stream.specs.Items.{Itemed, nothing, text, del, command, refused_command, refused_call, item_at, told_item}
use Rattle.laws.proofs.Partition.{Ends, item-ends}
use Rattle.pieces.specs.Pieces.{Pieced, end, copied, called, trouble, is_call, command_piece, item_piece, piece_at}

-- where a piece that starts at start goes on
unfoldable Onward : List ℕ → ℕ → Pieced → Type 0
Onward s start end = Unit {0}
Onward s start (copied n k) = (start < n) × (n ≤ length s)
Onward s start (called a n k) = (start < n) × (n ≤ length s)
Onward s start (trouble e) = Unit {0}

command-onward : (s : List ℕ) (start first second : ℕ) (values : List Value) (n : ℕ) (k : Remembered) → (start < n) × (n ≤ length s) → Onward s start (command_piece first second values n k)
unfolding command_piece Onward
command-onward s start first second values n k h = by_pick (Onward s start) (is_call first second) _ _ (λ t. h) (λ t. h)

item-onward : (kept : Remembered) (s : List ℕ) (start : ℕ) (i : Itemed Meaning) → Ends s 256 kept start i → Onward s start (item_piece kept (told_item i))
unfolding Onward Ends item_piece told_item
item-onward kept s start nothing h = tt
item-onward kept s start (text b n) h = (omega (arith, h.0), h.1)
item-onward kept s start (del n) h = (omega (arith, h.0), h.1)
item-onward kept s start (command m) h = command-onward s start m.first m.second m.values m.next m.kept h.0
item-onward kept s start (refused_command e p n k) h = tt
item-onward kept s start (refused_call e p) h = tt

-- what is outside the bytes, or remembered outside, is no piece
none_here : (kept : Remembered) (s : List ℕ) (start : ℕ) → length s ≤ start → Onward s start (item_piece kept (told_item (item_at kept s start 256)))
unfolding item_at Onward item_piece told_item
none_here kept s start h =
    by_pick (λ i. Onward s start (item_piece kept (told_item i))) (ltb (length s) start) _ _
    (λ t. tt)
    (λ t. by_pick (λ i. Onward s start (item_piece kept (told_item i))) (inside kept.point) _ _
    (λ u. rw (le-ltb start (length s) h) tt)
    (λ u. tt))

not_inside : (kept : Remembered) (s : List ℕ) (start : ℕ) → inside kept.point ≡ false → Onward s start (item_piece kept (told_item (item_at kept s start 256)))
unfolding item_at Onward item_piece told_item
not_inside kept s start u = by_pick (λ i. Onward s start (item_piece kept (told_item i))) (ltb (length s) start) _ _ (λ t. tt) (λ t. rw u tt)

onward : (kept : Remembered) (s : List ℕ) (start : ℕ) → Onward s start (piece_at kept s start)
unfolding piece_at
onward kept s start =
    by_pick (λ (b : Bool). Onward s start (item_piece kept (told_item (item_at kept s start 256)))) (ltb start (length s)) true false
    (λ t. by_pick (λ (b : Bool). Onward s start (item_piece kept (told_item (item_at kept s start 256)))) (inside kept.point) true false
    (λ j. item-onward kept s start (item_at kept s start 256) (item-ends kept s start 256 j (ltb-true start (length s) t)))
    (λ j. not_inside kept s start j))
    (λ t. none_here kept s start (ltb-false start (length s) t))

module _ (kept : Remembered) (s : List ℕ) (start : ℕ) where
  pub copied-onward : {n : ℕ} {k : Remembered} → piece_at kept s start ≡ copied n k → (start < n) × (n ≤ length s)
  unfolding Onward
  copied-onward e = subst (Onward s start) e (onward kept s start)

  pub called-onward : {a : ℤ} {n : ℕ} {k : Remembered} → piece_at kept s start ≡ called a n k → (start < n) × (n ≤ length s)
  unfolding Onward
  called-onward e = subst (Onward s start) e (onward kept s start)

-- ---- what is remembered stays inside

unfoldable Keeps : Pieced → Type 0
Keeps end = Unit {0}
Keeps (copied n k) = inside k.point ≡ true
Keeps (called a n k) = inside k.point ≡ true
Keeps (trouble e) = Unit {0}

command-keeps : (first second : ℕ) (values : List Value) (n : ℕ) (k : Remembered) → inside k.point ≡ true → Keeps (command_piece first second values n k)
unfolding command_piece Keeps
command-keeps first second values n k h = by_pick Keeps (is_call first second) _ _ (λ t. h) (λ t. h)

item-keeps : (kept : Remembered) (s : List ℕ) (start : ℕ) → inside kept.point ≡ true → (i : Itemed Meaning) → Ends s 256 kept start i → Keeps (item_piece kept (told_item i))
unfolding Keeps Ends item_piece told_item
item-keeps kept s start j nothing h = tt
item-keeps kept s start j (text b n) h = j
item-keeps kept s start j (del n) h = j
item-keeps kept s start j (command m) h = command-keeps m.first m.second m.values m.next m.kept h.1
item-keeps kept s start j (refused_command e p n k) h = tt
item-keeps kept s start j (refused_call e p) h = tt

module _ (kept : Remembered) (s : List ℕ) (start : ℕ) (j : inside kept.point ≡ true) where
  keeps : start < length s → Keeps (piece_at kept s start)
  unfolding piece_at
  keeps l = item-keeps kept s start j (item_at kept s start 256) (item-ends kept s start 256 j l)

  pub copied-inside : {n : ℕ} {k : Remembered} → piece_at kept s start ≡ copied n k → inside k.point ≡ true
  unfolding Keeps
  copied-inside e = let w = copied-onward kept s start e in subst Keeps e (keeps (omega (arith, w.0, w.1)))

  pub called-inside : {a : ℤ} {n : ℕ} {k : Remembered} → piece_at kept s start ≡ called a n k → inside k.point ≡ true
  unfolding Keeps
  called-inside e = let w = called-onward kept s start e in subst Keeps e (keeps (omega (arith, w.0, w.1)))
