-- What refuses a command has a number of 1 to 6. "Refusal 7 comes only for a whole command": with room for 256 entries it never comes.
use Prim.Native.Nat.{ℕ, zero, suc, ◌+◌, ◌*◌, ◌%◌, ◌≤◌, ◌<◌}
use mathlib.Core.Path.{◌≡◌, refl, ◌∙◌, ap}
use mathlib.Core.Bool.{Bool, true, ◌&&◌}
use mathlib.Core.Logic.{◌⊎◌, inl, inr}
use mathlib.Core.List.{List, [], ◌∷◌}
use native.Mathlib.Omega.{arith}
use borrow.Author.Tests.{leb-true, leb-false}
use lib.Dec.{ltb, leb, eqb}
use lib.ListN.{length, get_or}
use lib.IntN.{nat_abs}
use Rattle.memory.specs.declared.DelMode.{DelMode}
use Rattle.memory.specs.declared.Point.{Point}
use Rattle.memory.specs.declared.Remembered.{Remembered}
use Rattle.memory.specs.Memory.{inside}
use Rattle.refusals.specs.declared.Taken.{Taken}
use Rattle.refusals.specs.Answers.{Answer, done, refused, then, ends_after}
use Rattle.refusals.proofs.Cases.{by_pick, done-of, and_left, and_right}
use Rattle.wire.specs.Taking.{past_dels, pair_at, found_at, byte_at}
use Rattle.signs.specs.Signs.{is_negative}
use Rattle.signs.specs.Signs.{most_magnitude}
use Rattle.numbers.specs.Integers.{integer_from, integer_at, in_range}
use Rattle.ranges.specs.Ranges.{most_entries}
use Rattle.numbers.specs.Counts.{count_in, count_at}
use Rattle.points.specs.declared.PointBytes.{PointBytes}
use Rattle.points.specs.Reading.{by_kind, not_allowed, ends_at, lo_x, last_at, after_lo_y, after_upper, after_hi_y, point_from, point_at}
use Rattle.table.specs.Table.{Tabled, in_table, not_in_table, kind_of, begins}
use Rattle.parameters.specs.declared.CountedRun.{CountedRun}
use Rattle.parameters.specs.declared.Entry.{Entry}
use Rattle.parameters.specs.declared.Entry.TheVariants.{AnInteger, ACharacter}
use Rattle.parameters.specs.Entries.{entry_at, as_entry, run_at}
use Rattle.parameters.specs.Shapes.{Tailed, no_list, list_of, Part, single, real, point, Shape, shape_of}
use Rattle.parameters.specs.Looking.{two_entries_at, part_at, fixed_at, tail_at, Parsed, parameters_at}
use Rattle.commands.specs.Reading.{letter_here, letter_at, completed, second_at, head_at, Meaning, body_at, command_at}
use Rattle.laws.proofs.Shortest.{FixedShown, part-good}
use Rattle.laws.proofs.Places.{after-inside}

-- what is done has P, and what is refused has a number of 1 to 6
unfoldable Early : {A : Type 0} (P : A → Type 0) → Answer A → Type 0
Early P (done x) = P x
Early P (refused e p) = (1 ≤ e) × (e ≤ 6)

early_then : {A B : Type 0} (P : A → Type 0) (Q : B → Type 0) (a : Answer A) (k : A → Answer B) → Early P a → ((x : A) → a ≡ done x → P x → Early Q (k x)) → Early Q (then a k)
unfolding Early
early_then P Q (done x) k h next = next x refl h
early_then P Q (refused e p) k h next = h

-- nothing is asked of what is done
abbrev Any : {A : Type 0} → A → Type 0
Any x = Unit {0}

early : {A : Type 0} (P : A → Type 0) (x : A) → P x → Early P (done x)
unfolding Early
early P x h = h

low : {A : Type 0} (P : A → Type 0) (e p : ℕ) → leb 1 e && leb e 6 ≡ true → Early P (refused e p)
unfolding Early
low P e p h = (leb-true 1 e (and_left (leb 1 e) (leb e 6) h), leb-true e 6 (and_right (leb 1 e) (leb e 6) h))

module _ (kept : Remembered) (s : List ℕ) where
  found_early : (at : ℕ) → Early Any (found_at kept.mode s at)
  unfolding found_at pair_at
  found_early at =
      let pl = past_dels kept.mode s (at + 1) in
      by_pick P (ltb at (length s)) _ _
      (λ t. by_pick P (eqb (get_or s at 0) 27) _ _
      (λ u. by_pick P (ltb pl (length s)) _ _
      (λ v. by_pick P (eqb (get_or s pl 0) 63) _ _ (λ w. early Any _ tt) (λ w. low Any 6 _ refl))
      (λ v. low Any 1 _ refl))
      (λ u. by_pick P (ltb (get_or s at 0) 32) _ _ (λ v. low Any 3 _ refl) (λ v. by_pick P (ltb 127 (get_or s at 0)) _ _ (λ w. low Any 3 _ refl) (λ w. early Any _ tt))))
      (λ t. low Any 1 _ refl)
    where
      P : Answer (Taken ℕ) → Type 0
      P = Early Any

  byte_early : (at : ℕ) → Early Any (byte_at kept s at)
  unfolding byte_at
  byte_early at = found_early (past_dels kept.mode s at)

  in-range : (m : ℕ) (t : Bool) (p n : ℕ) → Early Any (in_range m t p n)
  in-range m t p n = by_pick (Early Any) (leb m (most_magnitude t)) _ _ (λ u. early Any _ tt) (λ u. low Any 4 p refl)

  integer-early : (k h at : ℕ) → Early Any (integer_from kept k h s at)
  unfolding integer_from
  integer-early zero h at =
      early_then Any Any (byte_at kept s at) _ (byte_early at)
      (λ b e q. by_pick (Early Any) (ltb b.value 64) _ _ (λ l. in-range (h * 16 + b.value % 16) (ltb b.value 48) b.place b.next) (λ l. low Any 4 _ refl))
  integer-early (suc k) h at =
      early_then Any Any (byte_at kept s at) _ (byte_early at)
      (λ b e q. by_pick (Early Any) (ltb b.value 64) _ _ (λ l. in-range (h * 16 + b.value % 16) (ltb b.value 48) b.place b.next) (λ l. integer-early k (h * 64 + b.value % 64) b.next))

  abbrev Few : Taken ℕ → Type 0
  Few c = c.value ≤ 256

  count-early : (at : ℕ) → Early Few (count_at kept s at)
  unfolding count_in
  count-early at =
      early_then Any Few (integer_at kept s at) _ (integer-early 2 0 at)
      (λ r e q. by_pick (Early Few) (is_negative r.value) _ _
      (λ t. low Few 5 _ refl)
      (λ t. by_pick (Early Few) (leb (nat_abs r.value) 256) _ _ (λ u. early Few _ (leb-true (nat_abs r.value) 256 u)) (λ u. low Few 5 _ refl)))

  -- ---- points

  kind-early : (at : ℕ) (hi lo upper : Taken ℕ → Answer (Taken Point)) → ((b : Taken ℕ) → Early Any (hi b)) → ((b : Taken ℕ) → Early Any (lo b)) → ((b : Taken ℕ) → Early Any (upper b)) → Early Any (by_kind kept s at hi lo upper)
  unfolding by_kind
  kind-early at hi lo upper f g h =
      early_then Any Any (byte_at kept s at) _ (byte_early at)
      (λ b e q. by_pick (Early Any) (ltb b.value 64) _ _ (λ u. f b) (λ u. by_pick (Early Any) (ltb b.value 96) _ _ (λ v. g b) (λ v. h b)))

  not_here : (b : Taken ℕ) → Early Any (not_allowed b)
  not_here b = low Any 3 _ refl

  lo_early : (c : PointBytes) (b : Taken ℕ) → Early Any (lo_x c b)
  unfolding ends_at
  lo_early c b = early Any _ tt

  last-early : (c : PointBytes) (at : ℕ) → Early Any (last_at kept c s at)
  unfolding last_at
  last-early c at = kind-early at _ _ _ not_here (lo_early c) not_here

  lo_y_early : (c : PointBytes) (at : ℕ) → Early Any (after_lo_y kept c s at)
  unfolding after_lo_y
  lo_y_early c at = kind-early at _ _ _ (λ b. last-early _ b.next) (lo_early c) not_here

  upper_early : (c : PointBytes) (u at : ℕ) → Early Any (after_upper kept c u s at)
  unfolding after_upper
  upper_early c u at = kind-early at _ _ _ (λ b. last-early _ b.next) (lo_early _) (λ b. lo_y_early _ b.next)

  hi_y_early : (c : PointBytes) (at : ℕ) → Early Any (after_hi_y kept c s at)
  unfolding after_hi_y
  hi_y_early c at = kind-early at _ _ _ not_here (lo_early c) (λ b. upper_early c b.value b.next)

  point-early : (at : ℕ) → inside kept.point ≡ true → Early Any (point_at kept s at)
  unfolding point_at point_from
  point-early at j = rw j (kind-early at _ _ _ (λ b. hi_y_early _ b.next) (lo_early _) (λ b. upper_early _ b.value b.next))

  -- ---- entries

  entry_early : (e : Entry) (at : ℕ) → Early Any (entry_at e kept s at)
  unfolding entry_at
  entry_early AnInteger at = integer-early 2 0 at
  entry_early ACharacter at = early_then Any Any (byte_at kept s at) as_entry (byte_early at) (λ b e q. early Any _ tt)

  entries-early : (e : Entry) (k at : ℕ) → Early Any (ends_after (entry_at e kept s) k at)
  unfolding ends_after
  entries-early e zero at = early Any at tt
  entries-early e (suc k) at = early_then Any Any (entry_at e kept s at) _ (entry_early e at) (λ r q x. entries-early e k r.next)

  abbrev FewHeld : CountedRun → Type 0
  FewHeld h = h.count ≤ 256

  tail-early : (t : Tailed) (at : ℕ) → Early FewHeld (tail_at kept t s at)
  unfolding tail_at run_at
  tail-early no_list at = early FewHeld _ (omega arith)
  tail-early (list_of e) at =
      early_then Few FewHeld (count_at kept s at) _ (count-early at)
      (λ c q h. early_then Any FewHeld (ends_after (entry_at e kept s) c.value c.next) _ (entries-early e c.value c.next) (λ n x y. early FewHeld _ h))

  part-early : (p : Part) (at : ℕ) → inside kept.point ≡ true → Early Any (part_at kept p s at)
  unfolding part_at two_entries_at
  part-early (single e) at j = early_then Any Any (entry_at e kept s at) _ (entry_early e at) (λ r q x. early Any _ tt)
  part-early real at j =
      early_then Any Any _ _
      (early_then Any Any (entry_at AnInteger kept s at) _ (entry_early AnInteger at)
      (λ a q x. early_then Any Any (entry_at AnInteger kept s a.next) _ (entry_early AnInteger a.next) (λ b y z. early Any _ tt)))
      (λ r q x. early Any _ tt)
  part-early point at j = early_then Any Any (point_at kept s at) _ (point-early at j) (λ r q x. early Any _ tt)

-- ---- the whole command

fixed-early : (kept : Remembered) (ps : List Part) (s : List ℕ) (at : ℕ) → inside kept.point ≡ true → Early Any (fixed_at kept ps s at)
unfolding fixed_at
fixed-early kept [] s at j = early Any _ tt
fixed-early kept (p ∷ ps) s at j =
    early_then Any Any (part_at kept p s at) _ (part-early kept s p at j)
    (λ f e x.
    let a = done-of (FixedShown kept (p ∷ []) s at) (part-good kept p s at) e in
    let n : inside f.kept.point ≡ true = ap (λ (k : Remembered). inside k.point) a.kept-is ∙ after-inside kept f.values j a.writable in
    early_then Any Any (fixed_at f.kept ps s f.next) _ (fixed-early f.kept ps s f.next n) (λ g q y. early Any _ tt))

abbrev FewParsed : Parsed → Type 0
FewParsed p = p.count ≤ 256

parameters_early : (kept : Remembered) (shape : Shape) (s : List ℕ) (at : ℕ) → inside kept.point ≡ true → Early FewParsed (parameters_at kept shape s at)
unfolding parameters_at
parameters_early kept shape s at j =
    early_then Any FewParsed (fixed_at kept shape.fixed s at) _ (fixed-early kept shape.fixed s at j)
    (λ f e x. early_then (FewHeld f.kept s) FewParsed (tail_at f.kept shape.tail s f.next) _ (tail-early f.kept s shape.tail f.next) (λ h q y. early FewParsed _ y))

letter_early : (m : DelMode) (s : List ℕ) (at : ℕ) → Early Any (letter_at m s at)
unfolding letter_here
letter_early m s at =
    let p = past_dels m s at in
    by_pick (Early Any) (ltb p (length s)) _ _
    (λ t. by_pick (Early Any) (eqb (get_or s p 0) 27) _ _ (λ u. low Any 6 _ refl) (λ u. early Any _ tt))
    (λ t. low Any 1 _ refl)

completed-early : (a : ℕ) (b : Taken ℕ) (f : Tabled) → Early Any (completed a b f)
completed-early a b (in_table k) = early Any _ tt
completed-early a b not_in_table = low Any 2 b.place refl

head_early : (m : DelMode) (s : List ℕ) (at : ℕ) → Early Any (head_at m s at)
unfolding head_at second_at
head_early m s at =
    early_then Any Any (letter_at m s at) _ (letter_early m s at)
    (λ a e x. by_pick (Early Any) (begins a.value) _ _
    (λ t. early_then Any Any (letter_at m s a.next) _ (letter_early m s a.next) (λ b q y. completed-early a.value b (kind_of a.value b.value)))
    (λ t. low Any 2 a.place refl))

-- a refusal has a number of 1 to 6, or it is 7 and the room is less than the longest list
unfoldable pub Known : ℕ → Answer Meaning → Type 0
Known room (done m) = Unit {0}
Known room (refused e p) = ((1 ≤ e) × (e ≤ 6)) ⊎ ((e ≡ 7) × (room < most_entries))

known_then : {A : Type 0} (room : ℕ) (P : A → Type 0) (a : Answer A) (k : A → Answer Meaning) → Early P a → ((x : A) → P x → Known room (k x)) → Known room (then a k)
unfolding Early Known
known_then room P (done x) k h next = next x h
known_then room P (refused e p) k h next = inl h

module _ (kept : Remembered) (s : List ℕ) (start room : ℕ) (j : inside kept.point ≡ true) where
  pub command-known : Known room (command_at kept s start room)
  unfolding command_at body_at Known
  command-known =
      by_pick (Known room) (ltb start (length s)) _ _
      (λ t. known_then room Any (head_at kept.mode s (start + 1)) _ (head_early kept.mode s (start + 1))
      (λ l x. known_then room FewParsed (parameters_at kept (shape_of l.kind) s l.next) _ (parameters_early kept (shape_of l.kind) s l.next j)
      (λ p few. by_pick (Known room) (leb p.count room) _ _ (λ u. tt) (λ u. let n = leb-false p.count room u in inr (refl, omega (arith, few, n))))))
      (λ t. inl (omega arith, omega arith))
