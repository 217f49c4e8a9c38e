-- The entries that were read with an item: as many as its count says, within the room that there was. So the line of the item is that of the
-- entries alone, whatever the lent list held before.
use Prim.Native.Nat.{ℕ, ◌+◌, ◌≤◌}
use mathlib.Core.Path.{◌≡◌, refl, sym, ◌∙◌, ap}
use mathlib.Core.List.{List, ◌++◌}
use native.Mathlib.Omega.{arith}
use borrow.Author.Tests.{leb-true}
use lib.Dec.{ltb, leb, eqb}
use lib.ListN.{length, get_or, take}
use lib.Seq.{sets, take_all}
use lib.IntN.{ℤ, pos}
use Rattle.memory.specs.declared.Remembered.{Remembered}
use Rattle.memory.specs.Memory.{inside}
use Rattle.refusals.specs.Answers.{Answer, done, refused, all_after}
use Rattle.refusals.proofs.Cases.{by_pick, by_then, Done, done-of, is-done, not_done}
use Rattle.numbers.specs.Counts.{count_at}
use Rattle.parameters.specs.declared.CountedRun.{CountedRun}
use Rattle.parameters.specs.Entries.{entry_at, entries_end, entry_values, run_at}
use Rattle.parameters.specs.Shapes.{Tailed, no_list, list_of, Shape, shape_of}
use Rattle.parameters.specs.Looking.{fixed_at, tail_at, Parsed, parameters_at, entry_in, parsed_entries}
use Rattle.parameters.proofs.Entering.{all_read, front-is}
use Rattle.commands.specs.Reading.{Meaning, head_at, body_at, command_at}
use Rattle.stream.specs.Items.{Itemed, nothing, text, del, command, refused_command, refused_call, is_filler, as_item, command_item, item_at, told_item, after_item}
use Rattle.lines.specs.Decimals.{field, fields}
use Rattle.lines.specs.Lines.{listed, parameters_words, command_line, line_of}
use Rattle.listing.specs.Listing.{entries_of}

-- ---- as many as the count

tail-counted : (kept : Remembered) (t : Tailed) (s : List ℕ) (at : ℕ) → Done (λ (h : CountedRun). length (entry_values (entry_in t) kept h.count s h.start) ≡ h.count) (tail_at kept t s at)
unfolding tail_at run_at all_after
tail-counted kept no_list s at = is-done (λ (h : CountedRun). length (entry_values (entry_in no_list) kept h.count s h.start) ≡ h.count) refl
tail-counted kept (list_of e) s at =
    by_then (Done P) (count_at kept s at) _
    (λ c g. by_then (Done P) (entries_end e kept c.value s c.next) _
    (λ n q. is-done P (done-of (λ x. length (all_after (entry_at e kept s) c.value c.next) ≡ c.value) (all_read (entry_at e kept s) c.value c.next) q))
    (λ x p q. not_done P x p))
    (λ x p g. not_done P x p)
  where
    P : CountedRun → Type 0
    P h = length (entry_values e kept h.count s h.start) ≡ h.count

abbrev Counted : List ℕ → Parsed → Type 0
Counted s p = length (parsed_entries s p) ≡ p.count

parsed_counted : (kept : Remembered) (shape : Shape) (s : List ℕ) (at : ℕ) → Done (Counted s) (parameters_at kept shape s at)
unfolding parameters_at
parsed_counted kept shape s at =
    by_then (Done (Counted s)) (fixed_at kept shape.fixed s at) _
    (λ f g. by_then (Done (Counted s)) (tail_at f.kept shape.tail s f.next) _
    (λ h q. is-done (Counted s) (done-of (λ (h : CountedRun). length (entry_values (entry_in shape.tail) f.kept h.count s h.start) ≡ h.count) (tail-counted f.kept shape.tail s f.next) q))
    (λ x p q. not_done (Counted s) x p))
    (λ x p g. not_done (Counted s) x p)

-- ---- within the room

unfoldable pub Held : ℕ → Itemed Meaning → Type 0
Held room nothing = Unit {0}
Held room (text b n) = Unit {0}
Held room (del n) = Unit {0}
Held room (command m) = (length m.entries ≡ m.count) × (m.count ≤ room)
Held room (refused_command e p n kept) = Unit {0}
Held room (refused_call e p) = Unit {0}

module _ (kept : Remembered) (s : List ℕ) (start room : ℕ) where
  abbrev Whole : Meaning → Type 0
  Whole m = (length m.entries ≡ m.count) × (m.count ≤ room)

  command-held : Done Whole (command_at kept s start room)
  unfolding command_at body_at
  command-held =
      by_pick (Done Whole) (ltb start (length s)) _ _
      (λ t. by_then (Done Whole) (head_at kept.mode s (start + 1)) _
      (λ h g. by_then (Done Whole) (parameters_at kept (shape_of h.kind) s h.next) _
      (λ p q. by_pick (Done Whole) (leb p.count room) _ _
      (λ u. is-done Whole (done-of (Counted s) (parsed_counted kept (shape_of h.kind) s h.next) q, leb-true p.count room u))
      (λ u. not_done Whole 7 start))
      (λ x p q. not_done Whole x p))
      (λ x p g. not_done Whole x p))
      (λ t. not_done Whole 1 (length s))

  answer_held : (a : Answer Meaning) → command_at kept s start room ≡ a → Held room (as_item kept s a)
  unfolding Held
  answer_held (done m) e = done-of Whole command-held e
  answer_held (refused e p) q = by_pick (Held room) (eqb e 7) _ _ (λ t. tt) (λ t. tt)

  pub item-held : Held room (item_at kept s start room)
  unfolding item_at command_item Held
  item-held =
      by_pick (Held room) (ltb (length s) start) _ _
      (λ t. tt)
      (λ t. by_pick (Held room) (inside kept.point) _ _
      (λ u. by_pick (Held room) (ltb start (length s)) _ _
      (λ v. by_pick (Held room) (eqb (get_or s start 0) 27) _ _
      (λ w. answer_held (command_at kept s start room) refl)
      (λ w. by_pick (Held room) (is_filler kept.mode (get_or s start 0)) _ _ (λ x. tt) (λ x. tt)))
      (λ v. tt))
      (λ u. tt))

-- ---- the line

listed_same : (t : Tailed) (k : ℕ) (es list : List ℤ) → length es ≡ k → k ≤ length list → listed t k (sets list 0 es) ≡ listed t k es
unfolding listed
listed_same no_list k es list e h = refl
listed_same (list_of x) k es list e h =
    let front : take k (sets list 0 es) ≡ take k es = front-is es list k e h ∙ sym (take_all k es (omega (arith, e))) in
    ap (λ (l : List ℤ). field (pos k) ++ fields l) front

pub line_read : (list : List ℤ) (start : ℕ) (i : Itemed Meaning) → Held (length list) i → line_of (told_item i) start (after_item i list) ≡ line_of (told_item i) start (entries_of i)
unfolding Held line_of told_item after_item entries_of command_line parameters_words
line_read list start nothing h = refl
line_read list start (text b n) h = refl
line_read list start (del n) h = refl
line_read list start (command m) h = rw (listed_same m.tail m.count m.entries list h.0 h.1)
line_read list start (refused_command e p n kept) h = refl
line_read list start (refused_call e p) h = refl
