-- Items partition the bytes: an item ends behind its start and no farther than the end of the bytes, and where it ends the next one starts.
-- So from start 0 every byte belongs to exactly one item, and a loop over items ends.
use Prim.Native.Nat.{ℕ, zero, suc, ◌+◌, ◌≤◌, ◌<◌}
use mathlib.Core.Path.{◌≡◌, refl, sym, ◌∙◌, ap, subst}
use mathlib.Core.Bool.{Bool, true, false}
use mathlib.Core.List.{List}
use mathlib.Core.Logic.{inl, inr, ⊎_elim}
use native.Mathlib.Omega.{arith}
use borrow.Author.Tests.{lt-ltb, le-ltb, ltb-true, ltb-false, eqb-true, eqb-false, eq-eqb}
use lib.Dec.{ltb, eqb}
use lib.ListN.{length, get_or}
use Rattle.memory.specs.declared.Remembered.{Remembered}
use Rattle.memory.specs.Memory.{inside}
use Rattle.refusals.specs.Answers.{Answer, done, refused}
use Rattle.refusals.proofs.Cases.{by_pick}
use Rattle.refusals.proofs.Passing.{past_on, past_within}
use Rattle.commands.specs.Reading.{Meaning, command_at}
use Rattle.ranges.specs.Ranges.{most_entries}
use Rattle.laws.specs.Laws.{Onward, Parted, BySeven, ByNothing}
use Rattle.laws.proofs.Shortest.{command-shown}
use Rattle.laws.proofs.Places.{command-refused, command-inside}
use Rattle.laws.proofs.Room.{Known, command-known}
use Rattle.stream.specs.Items.{Itemed, nothing, text, del, command, refused_command, refused_call, no_escape, passed_from, is_filler, as_item, command_item, item_at}

-- where the item that starts at start ends, what it is refused with, and that the point it hands on is inside; what makes no item is 7, and the
-- room is less than the longest list
unfoldable pub Ends : List ℕ → (room : ℕ) → Remembered → ℕ → Itemed Meaning → Type 0
Ends s room kept start nothing = ⊥
Ends s room kept start (text b n) = (n ≡ start + 1) × (n ≤ length s)
Ends s room kept start (del n) = (n ≡ start + 1) × (n ≤ length s)
Ends s room kept start (command m) = ((start < m.next) × (m.next ≤ length s)) × (inside m.kept.point ≡ true)
Ends s room kept start (refused_command e p n k) = (((1 ≤ e) × (e ≤ 6)) × ((start < p) × ((p ≤ n) × (n ≤ length s)))) × (k ≡ kept)
Ends s room kept start (refused_call e p) = (e ≡ 7) × (room < most_entries)

passed_within : (s : List ℕ) (p : ℕ) → p ≤ length s → (p ≤ passed_from s p) × (passed_from s p ≤ length s)
unfolding passed_from
passed_within s p h = (past_on no_escape s p, past_within no_escape s p h)

module _ (kept : Remembered) (s : List ℕ) (start room : ℕ) (j : inside kept.point ≡ true) (h : start < length s) where
  abbrev P : Itemed Meaning → Type 0
  P = Ends s room kept start

  -- 7 holds reading up, in little room; another number is a refused command's
  refused-ends : (e p : ℕ) → command_at kept s start room ≡ refused e p → Known room (refused e p) → P (as_item kept s (refused e p))
  unfolding Ends Known
  refused-ends e p q (inl few) =
      by_pick P (eqb e 7) _ _
      (λ t. let z : e ≡ 7 = eqb-true e 7 t in absurd (omega (arith, few.1, z)))
      (λ t. ⊎_elim
      (λ (z : e ≡ 7). absurd (eqb-false e 7 t z))
      (λ (w : (start + 1 ≤ p) × (p ≤ length s)). let y = passed_within s p w.1 in ((few, (omega (arith, w.0), y)), refl))
      (command-refused kept s start room j h q))
  refused-ends e p q (inr held) = rw (eq-eqb e 7 held.0) held

  answer_ends : (a : Answer Meaning) → command_at kept s start room ≡ a → P (as_item kept s a)
  unfolding Ends
  answer_ends (done m) e =
      let f = command-shown kept s start room e in
      ((f.forward, f.within), ap (λ (k : Remembered). inside k.point) f.kept-is ∙ command-inside kept m.first m.second m.values j f.values-ok)
  answer_ends (refused e p) q = refused-ends e p q (subst (Known room) q (command-known kept s start room j))

  -- reading moves forward and stays within
  pub item-ends : P (item_at kept s start room)
  unfolding item_at command_item Ends
  item-ends =
      rw (le-ltb (length s) start (omega arith), j, lt-ltb start (length s) h)
      (by_pick P (eqb (get_or s start 0) 27) _ _
      (λ t. answer_ends (command_at kept s start room) refl)
      (λ t. by_pick P (is_filler kept.mode (get_or s start 0)) _ _ (λ u. (refl, omega arith)) (λ u. (refl, omega arith))))

pub none_left : (kept : Remembered) (s : List ℕ) (start room : ℕ) → inside kept.point ≡ true → start ≡ length s → item_at kept s start room ≡ nothing
unfolding item_at
none_left kept s start room j h = rw (le-ltb (length s) start (omega (arith, h)), j, le-ltb start (length s) (omega (arith, h))) refl

module _ (held : ℕ → Type 0) (s : List ℕ) (room : ℕ) (holds : room < most_entries → held 7) where
  onward : (k : ℕ) (kept : Remembered) (start : ℕ) → inside kept.point ≡ true → length s ≤ start + suc k → ((m : Remembered) (n : ℕ) → inside m.point ≡ true → length s ≤ n + k → n ≤ length s → Parted held s room k m n) → (i : Itemed Meaning) → Ends s room kept start i → Onward held (Parted held s room k) s kept start i
  unfolding Onward Ends
  onward k kept start j h rest nothing e = absurd e
  onward k kept start j h rest (text b n) e = (e, rest kept n j (omega (arith, e.0, h)) e.1)
  onward k kept start j h rest (del n) e = (e, rest kept n j (omega (arith, e.0, h)) e.1)
  onward k kept start j h rest (command m) e = (e.0, rest m.kept m.next e.1 (omega (arith, e.0.0, h)) e.0.1)
  onward k kept start j h rest (refused_command x p n m) e =
      let w = e.0.1 in
      (e.0, (e.1, rest m n (ap (λ (k : Remembered). inside k.point) e.1 ∙ j) (omega (arith, w.0, w.1.0, h)) w.1.1))
  onward k kept start j h rest (refused_call x p) e = subst held (sym e.0) (holds e.1)

  parted : (k : ℕ) (kept : Remembered) (start : ℕ) → inside kept.point ≡ true → length s ≤ start + k → start ≤ length s → Parted held s room k kept start
  unfolding Parted Onward
  parted zero kept start j h l = omega (arith, h, l)
  parted (suc k) kept start j h l =
      by_pick (λ (b : Bool). Parted held s room (suc k) kept start) (ltb start (length s)) true false
      (λ t. onward k kept start j h (λ m n. parted k m n) (item_at kept s start room) (item-ends kept s start room j (ltb-true start (length s) t)))
      (λ t.
      let m = ltb-false start (length s) t in
      let z : start ≡ length s = omega (arith, m, l) in
      subst (Onward held (Parted held s room k) s kept start) (sym (none_left kept s start room j z)) z)

-- from start 0, every byte belongs to exactly one item, and a loop over items ends; only 7, in room for fewer entries than the longest list has, holds
-- reading up
pub items_part : (kept : Remembered) (s : List ℕ) (room : ℕ) → inside kept.point ≡ true → Parted BySeven s room (length s) kept 0
items_part kept s room j = parted BySeven s room (λ few. refl) (length s) kept 0 j (omega arith) (omega arith)

-- "Every input is answered": with room for the longest list the bytes are cut into items from first to last, nothing holds reading up, and each refused
-- item has a number of 1 to 6
pub every-stream_read : (kept : Remembered) (s : List ℕ) (room : ℕ) → inside kept.point ≡ true → most_entries ≤ room → Parted ByNothing s room (length s) kept 0
every-stream_read kept s room j h = parted ByNothing s room (λ few. omega (arith, few, h)) (length s) kept 0 j (omega arith) (omega arith)

-- in such room every item is read
pub always_read : (kept : Remembered) (s : List ℕ) (start room : ℕ) → inside kept.point ≡ true → most_entries ≤ room → start ≤ length s → {e p : ℕ} → item_at kept s start room ≡ refused_call e p → ⊥
unfolding Ends
always_read kept s start room j h l {e} {p} g =
    by_pick (λ (b : Bool). ⊥) (ltb start (length s)) true false
    (λ t. let z = subst (Ends s room kept start) g (item-ends kept s start room j (ltb-true start (length s) t)) in omega (arith, z.1, h))
    (λ t.
    let m = ltb-false start (length s) t in
    let z : start ≡ length s = omega (arith, m, l) in
    subst Left (sym (none_left kept s start room j z) ∙ g) tt)
  where
    Left : Itemed Meaning → Type 0
    Left nothing = Unit {0}
    Left (text b n) = ⊥
    Left (del n) = ⊥
    Left (command m) = ⊥
    Left (refused_command e p n k) = ⊥
    Left (refused_call e p) = ⊥
