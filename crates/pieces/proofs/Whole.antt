-- With room for 256 entries an item is always read: a refused piece is a refused or cut command, and nothing else.
use Prim.Native.Nat.{ℕ, ◌≤◌}
use mathlib.Core.Path.{◌≡◌, refl, subst}
use mathlib.Core.Bool.{true}
use mathlib.Core.List.{List}
use native.Mathlib.Omega.{arith}
use lib.ListN.{length}
use Rattle.memory.specs.declared.Remembered.{Remembered}
use Rattle.memory.specs.Memory.{inside}
use Rattle.refusals.proofs.Cases.{by_pick}
use Rattle.commands.specs.Reading.{Meaning}
use Rattle.stream.specs.Items.{Itemed, nothing, text, del, command, refused_command, refused_call, item_at, told_item}
use Rattle.laws.proofs.Partition.{always_read}
use Rattle.pieces.specs.Pieces.{Pieced, end, copied, called, trouble, is_call, command_piece, item_piece, piece_at}

-- "macro body holds a refused or cut command"
unfoldable pub IsRefusedCommand : Itemed Meaning → Type 0
IsRefusedCommand nothing = ⊥
IsRefusedCommand (text b n) = ⊥
IsRefusedCommand (del n) = ⊥
IsRefusedCommand (command m) = ⊥
IsRefusedCommand (refused_command e p n k) = Unit {0}
IsRefusedCommand (refused_call e p) = ⊥

unfoldable Sound : Pieced → Type 0
Sound end = Unit {0}
Sound (copied n k) = Unit {0}
Sound (called a n k) = Unit {0}
Sound (trouble e) = ⊥

refused-command_of : (kept : Remembered) (i : Itemed Meaning) → ((e p : ℕ) → i ≡ refused_call e p → ⊥) → item_piece kept (told_item i) ≡ trouble 17 → IsRefusedCommand i
unfolding IsRefusedCommand Sound item_piece told_item command_piece
refused-command_of kept nothing r e = subst Sound e tt
refused-command_of kept (text b n) r e = subst Sound e tt
refused-command_of kept (del n) r e = subst Sound e tt
refused-command_of kept (command m) r e = subst Sound e (by_pick Sound (is_call m.first m.second) _ _ (λ t. tt) (λ t. tt))
refused-command_of kept (refused_command x p n k) r e = tt
refused-command_of kept (refused_call x p) r e = r x p refl

pub refused-is_a_command : (kept : Remembered) (s : List ℕ) (start : ℕ) → inside kept.point ≡ true → start ≤ length s → piece_at kept s start ≡ trouble 17 → IsRefusedCommand (item_at kept s start 256)
unfolding piece_at
refused-is_a_command kept s start j h e = refused-command_of kept (item_at kept s start 256) (λ x p. always_read kept s start 256 j (omega arith) h) e
