-- A piece, by what the command's reader gave and by the tests as the code leaves them.
use Prim.Native.Nat.{ℕ, ◌+◌, ◌^◌, ◌≤◌, ◌<◌}
use mathlib.Core.Path.{◌≡◌, refl, sym, ◌∙◌, ap}
use mathlib.Core.Bool.{Bool, true, false, not, ◌&&◌}
use mathlib.Core.List.{List}
use native.Mathlib.Omega.{arith}
use borrow.Author.Tests.{le-ltb, lt-ltb, ltb-true, not-true}
use lib.Dec.{ltb, eqb}
use lib.ListN.{length, get_or}
use lib.IntN.{ℤ}
use mir.Syntax.{w32}
use mir.Val.{SFits, to_z, of_z}
use mir.Facts.{to_z-of_z}
use Rattle.memory.specs.declared.Remembered.{Remembered}
use Rattle.memory.specs.Memory.{inside}
use Rattle.std.specs.Prelude.{Result, Ok, Err}
use Rattle.refusals.specs.declared.Refusal.TheVariants.{BodyRefused}
use Rattle.refusals.specs.declared.RefusedAt.{RefusedAt}
use Rattle.refusals.specs.Answers.{Answer, done, refused}
use Rattle.refusals.proofs.Cases.{by_pick, and_left, and_right}
use Rattle.parameters.specs.Shapes.{Value, values_of}
use Rattle.commands.specs.declared.TakenCommand.{TakenCommand}
use Rattle.commands.specs.Behind.{leading}
use Rattle.commands.specs.Reading.{Meaning, ToldCommand, told, command_of, command_at}
use Rattle.stream.specs.Items.{is_filler, as_item, command_item, item_at, told_item}
use Rattle.pieces.specs.declared.Piece.TheVariants.{End, Copied, Called}
use Rattle.pieces.specs.Pieces.{Pieced, copied, trouble, is_call, command_piece, item_piece, piece_at, piece_of, is_byte}

-- ---- a command

module _ (first second : ℕ) (values : List Value) (next : ℕ) (after : Remembered) {b : Bool} (eb : b ≡ is_call first second) where
  pub is-called : {a : ℤ} → b ≡ true → SFits w32 a → a ≡ leading values → piece_of (Ok (Called (to_z w32 (of_z w32 a)) next after)) ≡ command_piece first second values next after
  unfolding piece_of command_piece
  is-called {a = a} t f e = rw (← eb, t, to_z-of_z f, e)

  pub is-copied : b ≡ false → piece_of (Ok (Copied next after)) ≡ command_piece first second values next after
  unfolding piece_of command_piece
  is-copied t = rw (← eb, t)

-- what was read of a command, or its refusal
answer_piece : Answer ToldCommand → Pieced
answer_piece (done t) = command_piece t.first t.second t.values t.next t.kept
answer_piece (refused e p) = trouble 17

as_told : (kept : Remembered) (s : List ℕ) (a : Answer Meaning) → answer_piece (told a) ≡ item_piece kept (told_item (as_item kept s a))
unfolding answer_piece told item_piece told_item
as_told kept s (done m) = refl
as_told kept s (refused e p) = by_pick (λ i. trouble 17 ≡ item_piece kept (told_item i)) (eqb e 7) _ _ (λ u. refl) (λ u. refl)

module _ (kept : Remembered) (s : List ℕ) (start : ℕ) where
  said : (r : Result TakenCommand RefusedAt) → command_of r ≡ told (command_at kept s start 256) → answer_piece (command_of r) ≡ item_piece kept (told_item (command_item kept s start 256))
  unfolding command_item
  said r e = ap answer_piece e ∙ as_told kept s (command_at kept s start 256)

  pub command-told : (t : TakenCommand) → command_of (Ok t) ≡ told (command_at kept s start 256) → {p : Pieced} → p ≡ command_piece t.command.first t.command.second (values_of t.command.parameters) t.next t.kept → p ≡ item_piece kept (told_item (command_item kept s start 256))
  unfolding answer_piece command_of
  command-told t e j = j ∙ said (Ok t) e

  pub command-refused : (x : RefusedAt) → command_of (Err x) ≡ told (command_at kept s start 256) → piece_of (Err BodyRefused) ≡ item_piece kept (told_item (command_item kept s start 256))
  unfolding piece_of answer_piece command_of
  command-refused x e = said (Err x) e

-- ---- a byte outside commands

module _ (kept : Remembered) (s : List ℕ) (start : ℕ) where
  module _ {b : Bool} (eb : b ≡ is_byte kept s start) (t : b ≡ true) where
    tests : (start < length s) × ((eqb (get_or s start 0) 27 ≡ false) × (inside kept.point ≡ true))
    unfolding is_byte
    tests =
        let e = sym eb ∙ t in
        let more = and_right (ltb start (length s)) (not (eqb (get_or s start 0) 27) && inside kept.point) e in (
          ltb-true start (length s) (and_left (ltb start (length s)) (not (eqb (get_or s start 0) 27) && inside kept.point) e),
          (not-true (eqb (get_or s start 0) 27) (and_left (not (eqb (get_or s start 0) 27)) (inside kept.point) more), and_right (not (eqb (get_or s start 0) 27)) (inside kept.point) more),
        )

    pub text-counts : length s < 2 ^ 64 → start + 1 < 2 ^ 64
    text-counts h = omega (arith, h, tests.0)

    pub text-piece : piece_of (Ok (Copied (start + 1) kept)) ≡ piece_at kept s start
    unfolding piece_of piece_at item_piece told_item item_at
    text-piece =
        rw (le-ltb (length s) start (omega (arith, tests.0)), tests.1.1, lt-ltb start (length s) tests.0, tests.1.0)
        (by_pick (λ i. copied (start + 1) kept ≡ item_piece kept (told_item i)) (is_filler kept.mode (get_or s start 0)) _ _ (λ u. refl) (λ u. refl))

-- ---- where no byte outside commands starts

only-not : (b : Bool) → not b && true ≡ false → b ≡ true
only-not true e = refl
only-not false e = sym e

is-escape : (kept : Remembered) (s : List ℕ) (start : ℕ) → start < length s → inside kept.point ≡ true → is_byte kept s start ≡ false → eqb (get_or s start 0) 27 ≡ true
unfolding is_byte
is-escape kept s start h j e =
    let z : not (eqb (get_or s start 0) 27) && true ≡ false = rw (lt-ltb start (length s) h, j) at e in
    only-not (eqb (get_or s start 0) 27) z

module _ (kept : Remembered) (s : List ℕ) (start : ℕ) where
  pub past_piece : length s < start → piece_of (Err BodyRefused) ≡ piece_at kept s start
  unfolding piece_of piece_at item_piece told_item item_at
  past_piece h = rw (lt-ltb (length s) start h)

  module _ (h : start ≤ length s) {b : Bool} (eb : b ≡ inside kept.point) where
    pub outside-piece : b ≡ false → piece_of (Err BodyRefused) ≡ piece_at kept s start
    unfolding piece_of piece_at item_piece told_item item_at
    outside-piece t = rw (le-ltb (length s) start h, ← eb, t)

    pub end-piece : b ≡ true → start ≡ length s → piece_of (Ok End) ≡ piece_at kept s start
    unfolding piece_of piece_at item_piece told_item item_at
    end-piece t e = rw (le-ltb (length s) start h, ← eb, t, le-ltb start (length s) (omega (arith, e)))

    pub escape_piece : b ≡ true → (start ≡ length s → ⊥) → {c : Bool} → c ≡ is_byte kept s start → c ≡ false → {q : Pieced} → q ≡ item_piece kept (told_item (command_item kept s start 256)) → q ≡ piece_at kept s start
    unfolding piece_at item_at
    escape_piece t n ec f j =
        let l : start < length s = omega (arith, h, n) in
        let x = is-escape kept s start l (sym eb ∙ t) (sym ec ∙ f) in
        rw (le-ltb (length s) start h, ← eb, t, lt-ltb start (length s) l, x) j

pub ruleset calls = (is-called, is-copied)

pub ruleset escapes = (command-told, command-refused)

pub ruleset places = (text-counts, text-piece, past_piece, outside-piece, end-piece, escape_piece)
