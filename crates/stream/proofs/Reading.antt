-- Reading an item, by what its parts gave.
use Prim.Native.Nat.{ℕ, ◌+◌, ◌≤◌, ◌<◌}
use mathlib.Core.Path.{◌≡◌, refl, sym, ◌∙◌, ap}
use mathlib.Core.Bool.{Bool, false, not}
use mathlib.Core.List.{List}
use native.Mathlib.Omega.{arith}
use borrow.Author.Tests.{eq-eqb, ne_eqb}
use lib.Dec.{eqb}
use lib.ListN.{length, get_or}
use lib.IntN.{ℤ}
use Rattle.memory.specs.declared.DelMode.{DelMode}
use Rattle.memory.specs.declared.Remembered.{Remembered}
use Rattle.std.specs.Prelude.{Result, Ok, Err}
use Rattle.refusals.specs.declared.Refusal.{Refusal}
use Rattle.refusals.specs.declared.RefusedAt.{RefusedAt}
use Rattle.refusals.specs.declared.Refusal.TheVariants.{TooShort}
use Rattle.refusals.specs.Refusals.{number_of}
use Rattle.refusals.specs.Answers.{Answer, done, refused}
use Rattle.refusals.proofs.Cases.{by_pick}
use Rattle.refusals.proofs.Coinciding.{named, named_back}
use Rattle.refusals.proofs.Passing.{Passing, passing_none, passing_more, passing_stop, passing_end}
use Rattle.commands.specs.declared.TakenCommand.{TakenCommand}
use Rattle.commands.specs.Reading.{Meaning, ToldCommand, tell, told, command_of, command_at, after_entries}
use Rattle.stream.specs.declared.Item.{Item}
use Rattle.stream.specs.declared.Item.TheVariants.{Text}
use Rattle.stream.specs.Items.{command, no_escape, passed_from, is_filler, byte_item, as_item, command_item, told_item, item_of, after_item}

-- ---- passing over

module _ (s : List ℕ) (at i : ℕ) (f : Passing no_escape s at i) where
  pub passes_over : i < length s → (get_or s i 0 ≡ 27 → ⊥) → Passing no_escape s at (i + 1)
  passes_over h e = passing_more no_escape s at i f h (ap not (ne_eqb (get_or s i 0) 27 e))

  pub stops-there : i < length s → get_or s i 0 ≡ 27 → i ≡ passed_from s at
  unfolding passed_from
  stops-there h e = passing_stop no_escape s at i f h (ap not (eq-eqb (get_or s i 0) 27 e))

  pub stops-at_end : length s ≤ i → i ≡ passed_from s at
  unfolding passed_from
  stops-at_end h = passing_end no_escape s at i f h

pub starts : (s : List ℕ) (at : ℕ) → Passing no_escape s at at
starts s at = passing_none no_escape s at

pub ruleset passing = (starts, passes_over, stops-there, stops-at_end)

-- ---- a byte outside commands

module _ (m : DelMode) (b : ℕ) where
  module _ (n : ℕ) {t : Bool} (et : t ≡ is_filler m b) where
    pub a_text : t ≡ false → item_of (Text (record { byte = b; next = n })) ≡ told_item (byte_item m b n)
    unfolding item_of told_item
    a_text g = rw (← et, g)

-- ---- the item of a command

too_short : (e : Refusal) → number_of e ≡ 7 → e ≡ TooShort
too_short e h = sym (named_back e) ∙ ap named h

apart : {A : Type 0} {t : A} {e p : ℕ} → done t ≡ refused e p → ⊥
apart q = let z : ◌≡◌ {A = ℕ} 0 1 = cc in omega arith

whole_of : (kept : Remembered) (s : List ℕ) (a : Answer Meaning) (t : ToldCommand) → done t ≡ told a → command t ≡ told_item (as_item kept s a)
unfolding told told_item
whole_of kept s (done m) t e = let q : t ≡ tell m = cc in ap command q
whole_of kept s (refused x p) t e = absurd (apart e)

refused-of : (a : Answer Meaning) (x p : ℕ) → refused x p ≡ told a → a ≡ refused x p
unfolding told
refused-of (done m) x p e = absurd (apart (sym e))
refused-of (refused y q) x p e = let i : y ≡ x = cc in let j : q ≡ p = cc in rw (i, j)

-- the list behind an item is that behind its command
list_same : (kept : Remembered) (s : List ℕ) (a : Answer Meaning) (l : List ℤ) → after_entries a l ≡ after_item (as_item kept s a) l
unfolding after_entries after_item
list_same kept s (done m) l = refl
list_same kept s (refused e p) l = by_pick (λ i. l ≡ after_item i l) (eqb e 7) _ _ (λ t. refl) (λ t. refl)

module _ (kept : Remembered) (s : List ℕ) (start room : ℕ) where
  pub list_kept : (l : List ℤ) {o : List ℤ} → o ≡ after_entries (command_at kept s start room) l → o ≡ after_item (command_item kept s start room) l
  unfolding command_item
  list_kept l j = j ∙ list_same kept s (command_at kept s start room) l

  module _ {r : Result TakenCommand RefusedAt} (er : command_of r ≡ told (command_at kept s start room)) where
    pub item-whole : {t : TakenCommand} → r ≡ Ok t → item_of (Item.Command t) ≡ told_item (command_item kept s start room)
    unfolding command_item item_of command_of
    item-whole g = whole_of kept s (command_at kept s start room) _ (sym (rw g) ∙ er)

    module _ {x : RefusedAt} (g : r ≡ Err x) where
      refused-there : command_at kept s start room ≡ refused (number_of x.refusal) x.place
      unfolding command_of
      refused-there = refused-of (command_at kept s start room) (number_of x.refusal) x.place (sym (rw g) ∙ er)

      pub item_refused_call : x.refusal ≡ TooShort → item_of (Item.Refused x) ≡ told_item (command_item kept s start room)
      unfolding command_item item_of told_item
      item_refused_call h = rw (refused-there, h)

      pub item_refused_command : {n : ℕ} → (x.refusal ≡ TooShort → ⊥) → n ≡ passed_from s x.place → item_of (Item.RefusedCommand (record { refusal = x.refusal; place = x.place; next = n; kept = kept })) ≡ told_item (command_item kept s start room)
      unfolding command_item item_of told_item
      item_refused_command h j = rw (refused-there, ne_eqb (number_of x.refusal) 7 (λ e. h (too_short x.refusal e)), j)

-- the item that starts with an ESC
pub ruleset escape_items = (list_kept, item-whole, item_refused_call, item_refused_command)
