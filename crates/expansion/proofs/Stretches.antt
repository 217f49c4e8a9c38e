-- Laws of an expansion: the fuel never runs out, at most 1,024 macros are entered, and each of them pays for its body.
use Prim.Native.Nat.{ℕ, zero, suc, ◌+◌, ◌-◌, ◌*◌, ◌≤◌, ◌<◌}
use mathlib.Core.Path.{◌≡◌, refl, sym, ap}
use mathlib.Core.List.{List, [], ◌++◌, append_assoc}
use native.Mathlib.Numerals.{add-one}
use native.Mathlib.Omega.{arith}
use borrow.Author.Tests.{ltb-true}
use lib.Dec.{eqb, ltb}
use lib.ListN.{length, drop, length-append, length-drop}
use lib.Seq.{length-take-le}
use lib.IntN.{ℤ}
use Rattle.memory.specs.declared.Remembered.{Remembered}
use Rattle.refusals.specs.Answers.{pick}
use Rattle.refusals.proofs.Cases.{by_pick}
use Rattle.signs.specs.Signs.{is_negative}
use Rattle.macros.specs.Store.{three_bytes, looked_up}
use Rattle.expansion.proofs.Bodies.{looked_up-short}
use Rattle.pieces.specs.Pieces.{Pieced, piece_at}
use Rattle.pieces.specs.Pieces as Pieces
use Rattle.pieces.proofs.Within.{copied-onward, called-onward}
use Rattle.expansion.specs.Expansion.{Stretch, gives, stops, front, and_then, item_bytes, on_piece, walked, opened, entering, call_stretch, started}

-- ---- joining stretches

pub front-front : (a b : List ℕ) (c : Stretch) → front a (front b c) ≡ front (a ++ b) c
front-front a b c = ap (λ (l : List ℕ). record { bytes = l; entered = c.entered; kept = c.kept; number = c.number }) (sym (append_assoc a b c.bytes))

pub item-long : (i next : ℕ) (body : List ℕ) → next ≤ length body → length (item_bytes i next body) ≡ next - i
item-long i next body h = length-take-le (next - i) (drop i body) (omega (arith, h, length-drop i body))

-- ---- the fuel: any that exceeds the bytes left gives the same

module _ (call : ℤ → Remembered → ℕ → Stretch) (body : List ℕ) where
  pub walked_step : (k i : ℕ) (kept : Remembered) (n : ℕ) → walked call (k + 1) body i kept n ≡ on_piece call (walked call k body) body i kept n (piece_at kept body i)
  unfolding walked
  walked_step k i kept n = rw (add-one k)

  piece-same : (rest other : ℕ → Remembered → ℕ → Stretch) (i : ℕ) (kept : Remembered) (n : ℕ) (p : Pieced) → piece_at kept body i ≡ p → ((next : ℕ) (after : Remembered) (m : ℕ) → (i < next) × (next ≤ length body) → rest next after m ≡ other next after m) → on_piece call rest body i kept n p ≡ on_piece call other body i kept n p
  piece-same rest other i kept n Pieces.end e f = refl
  piece-same rest other i kept n (Pieces.copied next after) e f = ap (front (item_bytes i next body)) (f next after n (copied-onward kept body i e))
  piece-same rest other i kept n (Pieces.called number next after) e f =
      let c = call number after n in
      ap (λ (x : Stretch). pick (eqb c.number 0) (front c.bytes x) c) (f next c.kept c.entered (called-onward kept body i e))
  piece-same rest other i kept n (Pieces.trouble x) e f = refl

  pub fuel_enough : (k l i : ℕ) (kept : Remembered) (n : ℕ) → length body - i < k → length body - i < l → walked call k body i kept n ≡ walked call l body i kept n
  unfolding walked
  fuel_enough zero l i kept n h g = absurd (omega arith)
  fuel_enough (suc k) zero i kept n h g = absurd (omega arith)
  fuel_enough (suc k) (suc l) i kept n h g =
      piece-same (walked call k body) (walked call l body) i kept n (piece_at kept body i) refl
      (λ next after m w. fuel_enough k l next after m (omega (arith, h, w.0, w.1)) (omega (arith, g, w.0, w.1)))

-- ---- what an expansion may come to: left bytes here, and 256 for each macro not yet entered

pub record Small (c : Stretch) (left n : ℕ) : Type 0 where
  pub few : c.entered ≤ 1024
  pub cap : length c.bytes + 256 * (1024 - c.entered) ≤ left + 256 * (1024 - n)

small-gives : (left n : ℕ) (kept : Remembered) → n ≤ 1024 → Small (gives [] n kept) left n
small-gives left n kept h = record { few = h; cap = omega arith }

small-stops : (e left n : ℕ) (kept : Remembered) → n ≤ 1024 → Small (stops e n kept) left n
small-stops e left n kept h = record { few = h; cap = omega arith }

small-front : (bs : List ℕ) (c : Stretch) (left less n m : ℕ) → length bs + less + 256 * (1024 - m) ≤ left + 256 * (1024 - n) → Small c less m → Small (front bs c) left n
small-front bs c left less n m h s = record { few = s.few; cap = rw (length-append bs c.bytes) (omega (arith, h, s.cap)) }

small-then : (c : Stretch) (rest : Remembered → ℕ → Stretch) (left less n : ℕ) → less ≤ left → Small c 0 n → ((kept : Remembered) (m : ℕ) → m ≤ 1024 → Small (rest kept m) less m) → Small (and_then c rest) left n
small-then c rest left less n h s f =
    by_pick (λ (x : Stretch). Small x left n) (eqb c.number 0) (front c.bytes (rest c.kept c.entered)) c
    (λ t. small-front c.bytes (rest c.kept c.entered) left less n c.entered (omega (arith, h, s.cap)) (f c.kept c.entered s.few))
    (λ t. record { few = s.few; cap = omega (arith, s.cap) })

module _ (call : ℤ → Remembered → ℕ → Stretch) (small : (number : ℤ) (kept : Remembered) (n : ℕ) → n ≤ 1024 → Small (call number kept n) 0 n) (body : List ℕ) where
  piece-small : (rest : ℕ → Remembered → ℕ → Stretch) (i : ℕ) (kept : Remembered) (n : ℕ) (p : Pieced) → piece_at kept body i ≡ p → n ≤ 1024 → ((next : ℕ) (after : Remembered) (m : ℕ) → m ≤ 1024 → Small (rest next after m) (length body - next) m) → Small (on_piece call rest body i kept n p) (length body - i) n
  piece-small rest i kept n Pieces.end e h f = small-gives (length body - i) n kept h
  piece-small rest i kept n (Pieces.copied next after) e h f =
      let w = copied-onward kept body i e in
      let l = item-long i next body w.1 in
      small-front (item_bytes i next body) (rest next after n) (length body - i) (length body - next) n n (omega (arith, w.0, w.1, l)) (f next after n h)
  piece-small rest i kept n (Pieces.called number next after) e h f =
      let w = called-onward kept body i e in
      small-then (call number after n) (rest next) (length body - i) (length body - next) n (omega (arith, w.0)) (small number after n h) (f next)
  piece-small rest i kept n (Pieces.trouble x) e h f = small-stops x (length body - i) n kept h

  walked-small : (k i : ℕ) (kept : Remembered) (n : ℕ) → n ≤ 1024 → Small (walked call k body i kept n) (length body - i) n
  unfolding walked
  walked-small zero i kept n h = small-gives (length body - i) n kept h
  walked-small (suc k) i kept n h = piece-small (walked call k body) i kept n (piece_at kept body i) refl h (λ next after m g. walked-small k next after m g)

  opened-small : (kept : Remembered) (n : ℕ) → length body ≤ 256 → n ≤ 1024 → Small (opened call body kept n) 0 n
  opened-small kept n short h =
      by_pick (λ (x : Stretch). Small x 0 n) (eqb (length body) 0) _ _
      (λ t. small-gives 0 n kept h)
      (λ t. by_pick (λ (x : Stretch). Small x 0 n) (ltb n 1024) _ _
      (λ u.
      let lt = ltb-true n 1024 u in
      let s = walked-small (length body + 1) 0 kept (n + 1) (omega (arith, lt)) in
      record { few = s.few; cap = omega (arith, s.cap, short, lt) })
      (λ u. small-stops 16 0 n kept h))

entering-small : (find : ℤ → List ℕ) → ((number : ℤ) → length (find number) ≤ 256) → (d : ℕ) (number : ℤ) (kept : Remembered) (n : ℕ) → n ≤ 1024 → Small (entering find d number kept n) 0 n
unfolding entering
entering-small find short zero number kept n h = by_pick (λ (x : Stretch). Small x 0 n) (is_negative number) _ _ (λ t. small-stops 8 0 n kept h) (λ t. small-stops 15 0 n kept h)
entering-small find short (suc d) number kept n h =
    by_pick (λ (x : Stretch). Small x 0 n) (is_negative number) _ _
    (λ t. small-stops 8 0 n kept h)
    (λ t. opened-small (entering find d) (λ m k j g. entering-small find short d m k j g) (find number) kept n (short number) h)

pub call_small : (volatile saved : List ℕ) (d : ℕ) (number : ℤ) (kept : Remembered) (n : ℕ) → n ≤ 1024 → Small (call_stretch volatile saved d number kept n) 0 n
unfolding call_stretch
call_small volatile saved d number kept n h = entering-small (looked_up three_bytes volatile saved) (looked_up-short volatile saved) d number kept n h

-- so of a whole expansion
pub most-entered : (volatile saved : List ℕ) (number : ℤ) (kept : Remembered) → (started volatile saved number kept).entered ≤ 1024
unfolding started
most-entered volatile saved number kept = (call_small volatile saved 8 number kept 0 (omega arith)).few

pub most_bytes_lem : (volatile saved : List ℕ) (number : ℤ) (kept : Remembered) → length (started volatile saved number kept).bytes ≤ 262144
unfolding started
most_bytes_lem volatile saved number kept = let s = call_small volatile saved 8 number kept 0 (omega arith) in omega (arith, s.cap)
