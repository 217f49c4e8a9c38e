-- What an expansion remembers stays inside, so that each item of a body is read: by `refused-is_a_command` 17 comes for a refused or cut command
-- and for nothing else.
use Prim.Native.Nat.{ℕ, zero, suc, ◌+◌}
use mathlib.Core.Path.{◌≡◌, refl}
use mathlib.Core.Bool.{true}
use mathlib.Core.List.{List}
use lib.Dec.{eqb, ltb}
use lib.ListN.{length}
use lib.IntN.{ℤ}
use Rattle.memory.specs.declared.Remembered.{Remembered}
use Rattle.memory.specs.Memory.{inside}
use Rattle.refusals.proofs.Cases.{by_pick}
use Rattle.signs.specs.Signs.{is_negative}
use Rattle.macros.specs.Store.{three_bytes, looked_up}
use Rattle.pieces.specs.Pieces.{Pieced, piece_at}
use Rattle.pieces.specs.Pieces as Pieces
use Rattle.pieces.proofs.Within.{copied-inside, called-inside}
use Rattle.expansion.specs.Expansion.{Stretch, and_then, on_piece, walked, opened, entering, call_stretch, started}

abbrev Inside : Stretch → Type 0
Inside c = inside c.kept.point ≡ true

then-inside : (c : Stretch) (rest : Remembered → ℕ → Stretch) → Inside c → ((kept : Remembered) (n : ℕ) → inside kept.point ≡ true → Inside (rest kept n)) → Inside (and_then c rest)
then-inside c rest h f = by_pick Inside (eqb c.number 0) _ _ (λ t. f c.kept c.entered h) (λ t. h)

module _ (call : ℤ → Remembered → ℕ → Stretch) (calls : (number : ℤ) (kept : Remembered) (n : ℕ) → inside kept.point ≡ true → Inside (call number kept n)) (body : List ℕ) where
  piece_inside : (rest : ℕ → Remembered → ℕ → Stretch) → ((next : ℕ) (kept : Remembered) (n : ℕ) → inside kept.point ≡ true → Inside (rest next kept n)) → (i : ℕ) (kept : Remembered) (n : ℕ) (p : Pieced) → piece_at kept body i ≡ p → inside kept.point ≡ true → Inside (on_piece call rest body i kept n p)
  piece_inside rest f i kept n Pieces.end e j = j
  piece_inside rest f i kept n (Pieces.copied next after) e j = f next after n (copied-inside kept body i j e)
  piece_inside rest f i kept n (Pieces.called number next after) e j = then-inside (call number after n) (rest next) (calls number after n (called-inside kept body i j e)) (f next)
  piece_inside rest f i kept n (Pieces.trouble x) e j = j

  walked-inside : (k i : ℕ) (kept : Remembered) (n : ℕ) → inside kept.point ≡ true → Inside (walked call k body i kept n)
  unfolding walked
  walked-inside zero i kept n j = j
  walked-inside (suc k) i kept n j = piece_inside (walked call k body) (λ next after m h. walked-inside k next after m h) i kept n (piece_at kept body i) refl j

  opened_inside : (kept : Remembered) (n : ℕ) → inside kept.point ≡ true → Inside (opened call body kept n)
  opened_inside kept n j =
      by_pick Inside (eqb (length body) 0) _ _ (λ t. j) (λ t. by_pick Inside (ltb n 1024) _ _ (λ u. walked-inside (length body + 1) 0 kept (n + 1) j) (λ u. j))

entering-inside : (find : ℤ → List ℕ) (d : ℕ) (number : ℤ) (kept : Remembered) (n : ℕ) → inside kept.point ≡ true → Inside (entering find d number kept n)
unfolding entering
entering-inside find zero number kept n j = by_pick Inside (is_negative number) _ _ (λ t. j) (λ t. j)
entering-inside find (suc d) number kept n j =
    by_pick Inside (is_negative number) _ _ (λ t. j) (λ t. opened_inside (entering find d) (λ m k i h. entering-inside find d m k i h) (find number) kept n j)

pub call_inside : (volatile saved : List ℕ) (d : ℕ) (number : ℤ) (kept : Remembered) (n : ℕ) → inside kept.point ≡ true → inside (call_stretch volatile saved d number kept n).kept.point ≡ true
unfolding call_stretch
call_inside volatile saved d number kept n j = entering-inside (looked_up three_bytes volatile saved) d number kept n j

pub started-inside : (volatile saved : List ℕ) (number : ℤ) (kept : Remembered) → inside kept.point ≡ true → inside (started volatile saved number kept).kept.point ≡ true
unfolding started
started-inside volatile saved number kept j = call_inside volatile saved 8 number kept 0 j
