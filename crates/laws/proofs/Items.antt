-- The laws of whole commands on the calls themselves: over the bytes that `write_command` gives and the item that `read_item` gives.
use Prim.Native.Nat.{ℕ, ◌+◌, ◌≤◌}
use mathlib.Core.Path.{◌≡◌, refl, sym, ◌∙◌, ap, subst}
use mathlib.Core.Bool.{true}
use mathlib.Core.List.{List, ◌++◌}
use native.Mathlib.Omega.{arith}
use borrow.Author.Tests.{leb-true}
use lib.Dec.{leb, ltb, eqb}
use lib.ListN.{length, get_or, take, drop}
use lib.Seq.{sets-eq, take_at}
use lib.IntN.{ℤ}
use Rattle.memory.specs.declared.Remembered.{Remembered}
use Rattle.memory.specs.Memory.{inside}
use Rattle.refusals.specs.Answers.{Answer, done, refused}
use Rattle.refusals.proofs.Cases.{by_pick, Done, done-of, is-done, not_done}
use Rattle.wire.specs.Sending.{room_for, write_at, write_if, after_write}
use Rattle.parameters.specs.Shapes.{tail_of}
use Rattle.commands.specs.declared.Command.{Command}
use Rattle.commands.specs.Reading.{Meaning, command_at}
use Rattle.writable.specs.Writable.{is_command}
use Rattle.writing.specs.Writing.{spell_command, write_command}
use Rattle.stream.specs.Items.{Itemed, nothing, text, del, command, refused_command, refused_call, is_filler, as_item, command_item, item_at}
use Rattle.laws.specs.Laws.{carried, Back, SaysSo, NoShorter, given}
use Rattle.laws.proofs.RoundTrip.{command-round}
use Rattle.laws.proofs.Shortest.{read-writable, command-shortest}

-- ---- what writing gives

-- a command that was written is writable, and its bytes are as many as the answer says
pub record Wrote (kept : Remembered) (c : Command) (es : List ℤ) (room n : ℕ) : Type 0 where
  pub writable : is_command kept c es ≡ true
  pub long : n ≡ length (spell_command kept c es)
  pub fits : length (spell_command kept c es) ≤ room

pub wrote : (kept : Remembered) (c : Command) (es : List ℤ) (room : ℕ) {n : ℕ} → write_command kept c es room ≡ done n → Wrote kept c es room n
unfolding write_if write_at room_for
wrote kept c es room = done-of (Wrote kept c es room) whole
  where
    whole : Done (Wrote kept c es room) (write_command kept c es room)
    whole =
        by_pick (Done (Wrote kept c es room)) (is_command kept c es) _ _
        (λ t. by_pick (Done (Wrote kept c es room)) (leb (0 + length (spell_command kept c es)) room) _ _
        (λ u. is-done (Wrote kept c es room) (record { writable = t; long = omega arith; fits = let h = leb-true (0 + length (spell_command kept c es)) room u in omega (arith, h) }))
        (λ u. not_done (Wrote kept c es room) 7 0))
        (λ t. not_done (Wrote kept c es room) 8 0)

-- they are its spelling
pub given-spelled : (kept : Remembered) (c : Command) (es : List ℤ) (out : List ℕ) {n : ℕ} → write_command kept c es (length out) ≡ done n → given kept c es out n ≡ spell_command kept c es
unfolding after_write
given-spelled kept c es out {n} e =
    let w = spell_command kept c es in
    let h = wrote kept c es (length out) e in
    ap (λ (l : List ℕ). take n l) (sets-eq w out 0 (omega (arith, h.fits))) ∙ take_at w (drop (0 + length w) out) n (sym h.long)

-- "A writable command, written and read again from the same remembered point, comes back with the same remembered point after it", and the same mode: what `write_command`
-- gives, anywhere among other bytes, is the item `Command` of `read_item`
pub item_back : (kept : Remembered) (c : Command) (es : List ℤ) (out before after : List ℕ) (room : ℕ) {n : ℕ} → write_command kept c es (length out) ≡ done n → length (carried (tail_of c.parameters) es) ≤ room
    → Back kept c es n (before ++ (given kept c es out n ++ after)) (length before) room
item_back kept c es out before after room {n} e h =
    let w = wrote kept c es (length out) e in
    rw (given-spelled kept c es out e, w.long) (command-round kept c es before after room w.writable h)

-- ---- what reading gives

-- an item that is a command was read as one, from a point inside
unfoldable CameSo : Remembered → List ℕ → (start room : ℕ) → Itemed Meaning → Type 0
CameSo kept s start room nothing = Unit {0}
CameSo kept s start room (text b n) = Unit {0}
CameSo kept s start room (del n) = Unit {0}
CameSo kept s start room (command m) = (inside kept.point ≡ true) × (command_at kept s start room ≡ done m)
CameSo kept s start room (refused_command e p n k) = Unit {0}
CameSo kept s start room (refused_call e p) = Unit {0}

module _ (kept : Remembered) (s : List ℕ) (start room : ℕ) where
  abbrev P : Itemed Meaning → Type 0
  P = CameSo kept s start room

  answer_came : inside kept.point ≡ true → (a : Answer Meaning) → command_at kept s start room ≡ a → P (as_item kept s a)
  unfolding CameSo
  answer_came j (done m) e = (j, e)
  answer_came j (refused e p) q = by_pick P (eqb e 7) _ _ (λ t. tt) (λ t. tt)

  item-came : P (item_at kept s start room)
  unfolding item_at command_item CameSo
  item-came =
      by_pick P (ltb (length s) start) _ _
      (λ t. tt)
      (λ t. by_pick P (inside kept.point) _ _
      (λ j. by_pick P (ltb start (length s)) _ _
      (λ u. by_pick P (eqb (get_or s start 0) 27) _ _ (λ v. answer_came j (command_at kept s start room) refl)
      (λ v. by_pick P (is_filler kept.mode (get_or s start 0)) _ _ (λ w. tt) (λ w. tt)))
      (λ u. tt))
      (λ j. tt))

  module _ (c : Command) {m : Meaning} (e : item_at kept s start room ≡ command m) (q : SaysSo c m) where
    came : (inside kept.point ≡ true) × (command_at kept s start room ≡ done m)
    unfolding CameSo
    came = subst P e item-came

    -- what is read may be written from the same point and mode
    pub item-writable : is_command kept c m.entries ≡ true
    item-writable = read-writable kept s start room c came.0 came.1 q

    -- "No spelling that reads as that command from that point is shorter."
    pub item-shortest : NoShorter kept start c m
    item-shortest = command-shortest kept s start room c came.1 q

    -- so what `write_command` gives for it from there is no longer
    pub writing-shortest : (space : ℕ) {n : ℕ} → write_command kept c m.entries space ≡ done n → start + n ≤ m.next
    writing-shortest space w = omega (arith, item-shortest, (wrote kept c m.entries space w).long)
