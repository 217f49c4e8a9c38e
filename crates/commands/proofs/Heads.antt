-- Reading a command, by what its parts gave.
use Prim.Native.Nat.{ℕ, ◌+◌, ◌≤◌, ◌<◌}
use mathlib.Core.Path.{◌≡◌, refl, sym, ◌∙◌, ap}
use mathlib.Core.Bool.{Bool, true, false}
use mathlib.Core.List.{List}
use borrow.Author.Tests.{lt-ltb, le-ltb, le-leb, lt-leb}
use lib.Dec.{leb}
use lib.ListN.{length}
use lib.Seq.{sets}
use lib.IntN.{ℤ}
use Rattle.memory.specs.declared.DelMode.{DelMode}
use Rattle.memory.specs.declared.Remembered.{Remembered}
use Rattle.std.specs.Prelude.{Result, Ok, Err}
use Rattle.refusals.specs.declared.RefusedAt.{RefusedAt}
use Rattle.refusals.specs.declared.Refusal.TheVariants.{BytesEnd, TooShort}
use Rattle.refusals.specs.Answers.{Answer, done, refused, then, pick}
use Rattle.parameters.specs.declared.TakenParameters.{TakenParameters}
use Rattle.parameters.specs.Entries.{handed}
use Rattle.parameters.specs.Shapes.{shape_of, values_of}
use Rattle.parameters.specs.Behind.{after_values}
use Rattle.parameters.specs.Looking.{Parsed, parameters_at, parsed_as, look_of, after_look}
use Rattle.parameters.proofs.Kept.{parsed_kept}
use Rattle.parameters.proofs.Counted.{parsed_few}
use Rattle.commands.specs.declared.TakenLetters.{TakenLetters}
use Rattle.commands.specs.declared.TakenCommand.{TakenCommand}
use Rattle.commands.specs.Reading.{Letters, letters_of, head_of, head_at, Meaning, meaning, command_of_letters, body_at, command_at, ToldCommand, told, command_of, after_entries}

-- ---- the body

module _ (kept : Remembered) (l : Letters) (s : List ℕ) (start room : ℕ) {r : Result TakenParameters RefusedAt} (er : look_of r ≡ parameters_at kept (shape_of l.kind) s l.next) where
  module _ {t : TakenParameters} (g : r ≡ Ok t) where
    pub body_short : {x : RefusedAt} → room < t.run.count → x ≡ record { refusal = TooShort; place = start } → command_of (Err x) ≡ told (body_at kept l s start room)
    unfolding body_at told command_of look_of
    body_short h e = rw (e, ← er, g, lt-leb t.run.count room h)

    -- what the parameters left is what is remembered behind their values
    left_so : t.kept ≡ after_values kept (values_of t.parameters)
    unfolding look_of
    left_so =
        let e : parameters_at kept (shape_of l.kind) s l.next ≡ done (parsed_as t.parameters t.run t.kept) = sym er ∙ rw g in
        parsed_kept kept (shape_of l.kind) s l.next e

    -- and they have no more entries than any command
    few : t.run.count ≤ 256
    unfolding look_of
    few =
        let e : parameters_at kept (shape_of l.kind) s l.next ≡ done (parsed_as t.parameters t.run t.kept) = sym er ∙ rw g in
        parsed_few kept (shape_of l.kind) s l.next e

    pub body_whole : {w : TakenCommand} → t.run.count ≤ room → w ≡ command_of_letters l.first l.second t → command_of (Ok w) ≡ told (body_at kept l s start room)
    unfolding body_at told command_of command_of_letters look_of
    body_whole h e = rw (e, ← er, g, le-leb t.run.count room h, left_so)

-- the entries stand in the list where there is room for the whole command, and only there
handed-over : (t : Bool) (m : Meaning) (start : ℕ) (l : List ℤ) → pick t (sets l 0 m.entries) l ≡ after_entries (pick t (done m) (refused 7 start)) l
unfolding after_entries
handed-over true m start l = refl
handed-over false m start l = refl

body-after : (kept : Remembered) (h : Letters) (s : List ℕ) (start : ℕ) (l : List ℤ) (p : Answer Parsed) → after_look s p l ≡ after_entries (then p (λ p. pick (leb p.count (length l)) (done (meaning kept h s p)) (refused 7 start))) l
unfolding after_look handed after_entries
body-after kept h s start l (done p) = handed-over (leb p.count (length l)) (meaning kept h s p) start l
body-after kept h s start l (refused e p) = refl

pub body_entries : (kept : Remembered) (h : Letters) (s : List ℕ) (start : ℕ) (l : List ℤ) {o : List ℤ} → o ≡ after_look s (parameters_at kept (shape_of h.kind) s h.next) l → o ≡ after_entries (body_at kept h s start (length l)) l
unfolding body_at
body_entries kept h s start l j = j ∙ body-after kept h s start l (parameters_at kept (shape_of h.kind) s h.next)

-- ---- the whole command

module _ (kept : Remembered) (s : List ℕ) (start room : ℕ) where
  pub past_end : length s ≤ start → command_of (Err (record { refusal = BytesEnd; place = length s })) ≡ told (command_at kept s start room)
  unfolding command_at told command_of
  past_end h = rw (le-ltb start (length s) h)

  module _ {m : DelMode} (r : Result TakenLetters RefusedAt) (h : start < length s) (em : m ≡ kept.mode) (er : head_of r ≡ head_at m s (start + 1)) where
    there : head_of r ≡ head_at kept.mode s (start + 1)
    there = rw em at er

    module _ {l : TakenLetters} (g : r ≡ Ok l) where
      pub command_is : {q : Answer ToldCommand} → q ≡ told (body_at kept (letters_of l) s start room) → q ≡ told (command_at kept s start room)
      unfolding command_at head_of
      command_is j = rw (lt-ltb start (length s) h, ← there, g) j

      pub entries_are : (es : List ℤ) {o : List ℤ} → o ≡ after_entries (body_at kept (letters_of l) s start room) es → o ≡ after_entries (command_at kept s start room) es
      unfolding command_at head_of
      entries_are es j = rw (lt-ltb start (length s) h, ← there, g) j

-- ---- in room for the most entries

pub skim_whole : (kept : Remembered) (l : Letters) (s : List ℕ) {r : Result TakenParameters RefusedAt} → look_of r ≡ parameters_at kept (shape_of l.kind) s l.next → {t : TakenParameters} → r ≡ Ok t → {w : TakenCommand} → w ≡ command_of_letters l.first l.second t → command_of (Ok w) ≡ told (body_at kept l s 0 256)
skim_whole kept l s er g e = body_whole kept l s 0 256 er g (few kept l s 0 256 er g) e

-- 7 does not come, so that the start does not matter
no_seven : (kept : Remembered) (h : Letters) (s : List ℕ) (a b : ℕ) (q : Answer Parsed) → ((p : Parsed) → q ≡ done p → p.count ≤ 256) → then q (λ p. pick (leb p.count 256) (done (meaning kept h s p)) (refused 7 a)) ≡ then q (λ p. pick (leb p.count 256) (done (meaning kept h s p)) (refused 7 b))
no_seven kept h s a b (done p) f = rw (le-leb p.count 256 (f p refl))
no_seven kept h s a b (refused e p) f = refl

from-any : (kept : Remembered) (h : Letters) (s : List ℕ) (a b : ℕ) → body_at kept h s a 256 ≡ body_at kept h s b 256
unfolding body_at
from-any kept h s a b =
    no_seven kept h s a b (parameters_at kept (shape_of h.kind) s h.next) (λ p e. parsed_few kept (shape_of h.kind) s h.next e)

pub skim_is : (kept : Remembered) (s : List ℕ) (start : ℕ) {m : DelMode} (r : Result TakenLetters RefusedAt) → start < length s → m ≡ kept.mode → head_of r ≡ head_at m s (start + 1) → {l : TakenLetters} → r ≡ Ok l → {q : Answer ToldCommand} → q ≡ told (body_at kept (letters_of l) s 0 256) → q ≡ told (command_at kept s start 256)
skim_is kept s start r h em er {l} g j = command_is kept s start 256 r h em er g (j ∙ ap told (from-any kept (letters_of l) s 0 start))
