-- Where reading a command ends, and where it is refused: behind its ESC, and no farther than the end of the bytes.
use Prim.Native.Nat.{ℕ, zero, suc, ◌+◌, ◌*◌, ◌%◌, ◌≤◌, ◌<◌}
use mathlib.Core.Path.{◌≡◌, refl, ◌∙◌, ap, subst}
use mathlib.Core.Bool.{Bool, true}
use mathlib.Core.List.{List, [], ◌∷◌}
use mathlib.Core.Logic.{◌⊎◌, inl, inr}
use native.Mathlib.Omega.{arith}
use borrow.Author.Tests.{ltb-true}
use lib.Dec.{ltb, leb, eqb}
use lib.ListN.{length, get_or}
use lib.IntN.{ℤ, nat_abs}
use Rattle.memory.specs.declared.DelMode.{DelMode}
use Rattle.memory.specs.declared.Point.{Point}
use Rattle.memory.specs.declared.Remembered.{Remembered}
use Rattle.memory.specs.Memory.{inside}
use Rattle.refusals.specs.declared.Taken.{Taken}
use Rattle.refusals.specs.Answers.{Answer, done, refused, then, ends_after, every}
use Rattle.refusals.proofs.Cases.{by_pick, done-of, and_left, and_right, Ranged, ranged_done, ranged_refused, farther, ranged_then, ranged_to}
use Rattle.wire.specs.Taking.{past_dels, pair_at, found_at, byte_at}
use Rattle.wire.proofs.Feeds.{dels_on, dels_within, Took, took}
use Rattle.signs.specs.Signs.{is_negative}
use Rattle.signs.specs.Signs.{most_magnitude}
use Rattle.numbers.specs.Integers.{integer_from, integer_at, in_range}
use Rattle.numbers.specs.Counts.{count_in, count_at}
use Rattle.points.specs.declared.PointBytes.{PointBytes}
use Rattle.points.specs.Layout.{bytes_of}
use Rattle.table.specs.Table.{ParameterKind, Tabled, in_table, not_in_table, kind_of, begins}
use Rattle.parameters.specs.declared.TwoEntries.{TwoEntries}
use Rattle.parameters.specs.declared.CountedRun.{CountedRun}
use Rattle.parameters.specs.declared.Entry.{Entry}
use Rattle.parameters.specs.declared.Entry.TheVariants.{AnInteger, ACharacter}
use Rattle.parameters.specs.Entries.{entry_at, as_entry, run_at}
use Rattle.parameters.specs.Shapes.{Tailed, no_list, list_of, Part, single, real, point, Value, shape_of}
use Rattle.parameters.specs.Looking.{two_entries_at, Fixed, part_at, fixed_at, tail_at, Parsed, parameters_at}
use Rattle.points.specs.Reading.{by_kind, not_allowed, ends_at, lo_x, last_at, after_lo_y, after_upper, after_hi_y, point_from, point_at}
use Rattle.commands.specs.Reading.{letter_here, letter_at, Letters, completed, second_at, head_at, Meaning, body_at, command_at}
use Rattle.writable.specs.Writable.{is_value, are_values}
use Rattle.parameters.specs.Behind.{after_value, after_values}
use Rattle.commands.specs.Behind.{leading, is_ignore_deletes, after_letters, after_command}
use Rattle.laws.proofs.RoundTrip.{still_inside}
use Rattle.laws.proofs.Shortest.{FixedShown, part-good, letter_shown, HeadShown, head_good}

-- where reading goes on
abbrev onward : {A : Type 0} → Taken A → ℕ
onward r = r.next

module _ (kept : Remembered) (s : List ℕ) where
  -- a byte that is taken lies behind at, one that is refused at it or farther
  found_ranged : (at : ℕ) → at ≤ length s → Ranged onward at (length s) (found_at kept.mode s at)
  unfolding found_at pair_at
  found_ranged at h =
      by_pick P (ltb at (length s)) _ _
      (λ t.
      let i : at < length s = ltb-true at (length s) t in
      let pl = past_dels kept.mode s (at + 1) in
      let on : at + 1 ≤ pl = dels_on kept.mode s (at + 1) in
      by_pick P (eqb (get_or s at 0) 27) _ _
      (λ u. by_pick P (ltb pl (length s)) _ _
      (λ v. let j : pl < length s = ltb-true pl (length s) v in
      by_pick P (eqb (get_or s pl 0) 63) _ _
      (λ w. ranged_done onward at (length s) _ (omega arith) (omega arith))
      (λ w. ranged_refused onward at (length s) 6 at (omega arith) h))
      (λ v. ranged_refused onward at (length s) 1 (length s) h (omega arith)))
      (λ u. by_pick P (ltb (get_or s at 0) 32) _ _
      (λ v. ranged_refused onward at (length s) 3 at (omega arith) h)
      (λ v. by_pick P (ltb 127 (get_or s at 0)) _ _
      (λ w. ranged_refused onward at (length s) 3 at (omega arith) h)
      (λ w. ranged_done onward at (length s) _ (omega arith) (omega arith)))))
      (λ t. ranged_refused onward at (length s) 1 (length s) h (omega arith))
    where
      P : Answer (Taken ℕ) → Type 0
      P = Ranged onward at (length s)

  byte_ranged : (at : ℕ) → at ≤ length s → Ranged onward at (length s) (byte_at kept s at)
  unfolding byte_at
  byte_ranged at h =
      farther onward at (past_dels kept.mode s at) (length s) _ (dels_on kept.mode s at) (found_ranged (past_dels kept.mode s at) (dels_within kept.mode s at h))

  -- ---- numbers

  in-range : (at m : ℕ) (t : Bool) (p n : ℕ) → at ≤ p → p < n → n ≤ length s → Ranged onward at (length s) (in_range m t p n)
  in-range at m t p n h g w =
      by_pick (Ranged onward at (length s)) (leb m (most_magnitude t)) _ _
      (λ u. ranged_done onward at (length s) _ (omega arith) w)
      (λ u. ranged_refused onward at (length s) 4 p h (omega arith))

  integer-ranged : (k h at : ℕ) → at ≤ length s → Ranged onward at (length s) (integer_from kept k h s at)
  unfolding integer_from
  integer-ranged zero h at i =
      ranged_then onward onward at (length s) (byte_at kept s at) _ (byte_ranged at i)
      (λ b e f w. let t = took kept s at e in
      by_pick (Ranged onward at (length s)) (ltb b.value 64) _ _
      (λ l. in-range at (h * 16 + b.value % 16) (ltb b.value 48) b.place b.next t.from t.behind w)
      (λ l. ranged_refused onward at (length s) 4 b.place t.from (omega (arith, t.behind))))
  integer-ranged (suc k) h at i =
      ranged_then onward onward at (length s) (byte_at kept s at) _ (byte_ranged at i)
      (λ b e f w. let t = took kept s at e in
      by_pick (Ranged onward at (length s)) (ltb b.value 64) _ _
      (λ l. in-range at (h * 16 + b.value % 16) (ltb b.value 48) b.place b.next t.from t.behind w)
      (λ l. farther onward at b.next (length s) _ f (integer-ranged k (h * 64 + b.value % 64) b.next w)))

  -- the place of an integer is its low byte, before where reading goes on
  Placed : ℕ → Answer (Taken ℤ) → Type 0
  Placed at = Ranged (λ (r : Taken ℤ). r.place) at (length s)

  in_placed : (at m : ℕ) (t : Bool) (p n : ℕ) → at ≤ p → p ≤ length s → Placed at (in_range m t p n)
  unfolding Placed
  in_placed at m t p n h w =
      by_pick (Ranged (λ (r : Taken ℤ). r.place) at (length s)) (leb m (most_magnitude t)) _ _
      (λ u. ranged_done (λ (r : Taken ℤ). r.place) at (length s) _ h w)
      (λ u. ranged_refused (λ (r : Taken ℤ). r.place) at (length s) 4 p h w)

  integer-placed : (k h at : ℕ) → at ≤ length s → Placed at (integer_from kept k h s at)
  unfolding integer_from Placed
  integer-placed zero h at i =
      ranged_then onward (λ (r : Taken ℤ). r.place) at (length s) (byte_at kept s at) _ (byte_ranged at i)
      (λ b e f w. let t = took kept s at e in
      by_pick (Ranged (λ (r : Taken ℤ). r.place) at (length s)) (ltb b.value 64) _ _
      (λ l. in_placed at (h * 16 + b.value % 16) (ltb b.value 48) b.place b.next t.from (omega (arith, t.behind)))
      (λ l. ranged_refused (λ (r : Taken ℤ). r.place) at (length s) 4 b.place t.from (omega (arith, t.behind))))
  integer-placed (suc k) h at i =
      ranged_then onward (λ (r : Taken ℤ). r.place) at (length s) (byte_at kept s at) _ (byte_ranged at i)
      (λ b e f w. let t = took kept s at e in
      by_pick (Ranged (λ (r : Taken ℤ). r.place) at (length s)) (ltb b.value 64) _ _
      (λ l. in_placed at (h * 16 + b.value % 16) (ltb b.value 48) b.place b.next t.from (omega (arith, t.behind)))
      (λ l. farther (λ (r : Taken ℤ). r.place) at b.next (length s) _ f (integer-placed k (h * 64 + b.value % 64) b.next w)))

  count-ranged : (at : ℕ) → at ≤ length s → Ranged onward at (length s) (count_at kept s at)
  unfolding count_in Placed
  count-ranged at i =
      ranged_then onward onward at (length s) (integer_at kept s at) _ (integer-ranged 2 0 at i)
      (λ r e f w.
      let q : (at ≤ r.place) × (r.place ≤ length s) = placed_of (integer-placed 2 0 at i) e in
      by_pick (Ranged onward at (length s)) (is_negative r.value) _ _
      (λ t. ranged_refused onward at (length s) 5 r.place q.0 q.1)
      (λ t. by_pick (Ranged onward at (length s)) (leb (nat_abs r.value) 256) _ _
      (λ u. ranged_done onward at (length s) _ f w)
      (λ u. ranged_refused onward at (length s) 5 r.place q.0 q.1)))
    where
      placed_of : {a : Answer (Taken ℤ)} {x : Taken ℤ} → Ranged (λ (r : Taken ℤ). r.place) at (length s) a → a ≡ done x → (at ≤ x.place) × (x.place ≤ length s)
      placed_of h e = ranged_to (λ (r : Taken ℤ). r.place) at (length s) h e

  -- ---- points

  abbrev InPoint : ℕ → Answer (Taken Point) → Type 0
  InPoint at = Ranged onward at (length s)

  -- a byte of a point, by its kind; what is refused is refused at it
  kind-ranged : (at : ℕ) (hi lo upper : Taken ℕ → Answer (Taken Point)) → at ≤ length s → ((b : Taken ℕ) → Took s at b → InPoint at (hi b)) → ((b : Taken ℕ) → Took s at b → InPoint at (lo b)) → ((b : Taken ℕ) → Took s at b → InPoint at (upper b)) → InPoint at (by_kind kept s at hi lo upper)
  unfolding by_kind
  kind-ranged at hi lo upper i f g h =
      ranged_then onward onward at (length s) (byte_at kept s at) _ (byte_ranged at i)
      (λ b e x w. let t = took kept s at e in
      by_pick (InPoint at) (ltb b.value 64) _ _
      (λ u. f b t)
      (λ u. by_pick (InPoint at) (ltb b.value 96) _ _ (λ v. g b t) (λ v. h b t)))

  not_ranged : (at : ℕ) (b : Taken ℕ) → Took s at b → InPoint at (not_allowed b)
  not_ranged at b t = ranged_refused onward at (length s) 3 b.place t.from (omega (arith, t.behind, t.within))

  lo_ranged : (c : PointBytes) (at : ℕ) (b : Taken ℕ) → Took s at b → InPoint at (lo_x c b)
  unfolding ends_at
  lo_ranged c at b t = ranged_done onward at (length s) _ (omega (arith, t.forward)) t.within

  onto : (at : ℕ) (b : Taken ℕ) → Took s at b → (a : Answer (Taken Point)) → InPoint b.next a → InPoint at a
  onto at b t a h = farther onward at b.next (length s) a (omega (arith, t.forward)) h

  last-ranged : (c : PointBytes) (at : ℕ) → at ≤ length s → InPoint at (last_at kept c s at)
  unfolding last_at
  last-ranged c at i = kind-ranged at _ _ _ i (not_ranged at) (lo_ranged c at) (not_ranged at)

  lo_y_ranged : (c : PointBytes) (at : ℕ) → at ≤ length s → InPoint at (after_lo_y kept c s at)
  unfolding after_lo_y
  lo_y_ranged c at i = kind-ranged at _ _ _ i (λ b t. onto at b t _ (last-ranged _ b.next t.within)) (lo_ranged c at) (not_ranged at)

  upper_ranged : (c : PointBytes) (u at : ℕ) → at ≤ length s → InPoint at (after_upper kept c u s at)
  unfolding after_upper
  upper_ranged c u at i =
      kind-ranged at _ _ _ i
      (λ b t. onto at b t _ (last-ranged _ b.next t.within))
      (lo_ranged _ at)
      (λ b t. onto at b t _ (lo_y_ranged _ b.next t.within))

  hi_y_ranged : (c : PointBytes) (at : ℕ) → at ≤ length s → InPoint at (after_hi_y kept c s at)
  unfolding after_hi_y
  hi_y_ranged c at i =
      kind-ranged at _ _ _ i (not_ranged at) (lo_ranged c at) (λ b t. onto at b t _ (upper_ranged c b.value b.next t.within))

  from-ranged : (c : PointBytes) (at : ℕ) → at ≤ length s → InPoint at (point_from kept c s at)
  unfolding point_from
  from-ranged c at i =
      kind-ranged at _ _ _ i
      (λ b t. onto at b t _ (hi_y_ranged _ b.next t.within))
      (lo_ranged c at)
      (λ b t. onto at b t _ (upper_ranged c b.value b.next t.within))

  point-ranged : (at : ℕ) → inside kept.point ≡ true → at ≤ length s → InPoint at (point_at kept s at)
  unfolding point_at
  point-ranged at j i = rw j (from-ranged (bytes_of kept.point) at i)

  -- ---- entries

  entry_ranged : (e : Entry) (at : ℕ) → at ≤ length s → Ranged onward at (length s) (entry_at e kept s at)
  unfolding entry_at
  entry_ranged AnInteger at i = integer-ranged 2 0 at i
  entry_ranged ACharacter at i =
      ranged_then onward onward at (length s) (byte_at kept s at) as_entry (byte_ranged at i) (λ b e f w. ranged_done onward at (length s) _ f w)

  abbrev itself : ℕ → ℕ
  itself n = n

  entries-ranged : (e : Entry) (k at : ℕ) → at ≤ length s → Ranged itself at (length s) (ends_after (entry_at e kept s) k at)
  unfolding ends_after
  entries-ranged e zero at i = ranged_done itself at (length s) at (omega arith) i
  entries-ranged e (suc k) at i =
      ranged_then onward itself at (length s) (entry_at e kept s at) _ (entry_ranged e at i)
      (λ r q f w. farther itself at r.next (length s) _ f (entries-ranged e k r.next w))

  abbrev held_next : CountedRun → ℕ
  held_next h = h.next

  tail-ranged : (t : Tailed) (at : ℕ) → at ≤ length s → Ranged held_next at (length s) (tail_at kept t s at)
  unfolding tail_at run_at
  tail-ranged no_list at i = ranged_done held_next at (length s) _ (omega arith) i
  tail-ranged (list_of e) at i =
      ranged_then onward held_next at (length s) (count_at kept s at) _ (count-ranged at i)
      (λ c q f w. farther held_next at c.next (length s) _ f
      (ranged_then itself held_next c.next (length s) (ends_after (entry_at e kept s) c.value c.next) _ (entries-ranged e c.value c.next w)
      (λ n x y z. ranged_done held_next c.next (length s) _ y z)))

  abbrev fixed_next : Fixed → ℕ
  fixed_next f = f.next

  part-ranged : (p : Part) (at : ℕ) → inside kept.point ≡ true → at ≤ length s → Ranged fixed_next at (length s) (part_at kept p s at)
  unfolding part_at two_entries_at
  part-ranged (single e) at j i =
      ranged_then onward fixed_next at (length s) (entry_at e kept s at) _ (entry_ranged e at i) (λ r q f w. ranged_done fixed_next at (length s) _ f w)
  part-ranged real at j i =
      ranged_then (λ (r : TwoEntries). r.next) fixed_next at (length s) _ _
      (ranged_then onward (λ (r : TwoEntries). r.next) at (length s) (entry_at AnInteger kept s at) _ (entry_ranged AnInteger at i)
      (λ a q f w. farther (λ (r : TwoEntries). r.next) at a.next (length s) _ f
      (ranged_then onward (λ (r : TwoEntries). r.next) a.next (length s) (entry_at AnInteger kept s a.next) _ (entry_ranged AnInteger a.next w)
      (λ b x y z. ranged_done (λ (r : TwoEntries). r.next) a.next (length s) _ y z))))
      (λ r q f w. ranged_done fixed_next at (length s) _ f w)
  part-ranged point at j i =
      ranged_then onward fixed_next at (length s) (point_at kept s at) _ (point-ranged at j i) (λ r q f w. ranged_done fixed_next at (length s) _ f w)

-- ---- all parameters

pub after-inside : (kept : Remembered) (vs : List Value) → inside kept.point ≡ true → are_values vs ≡ true → inside (after_values kept vs).point ≡ true
unfolding after_values every
after-inside kept [] i h = i
after-inside kept (v ∷ vs) i h =
    after-inside (after_value kept v) vs (still_inside kept v i (and_left (is_value v) (are_values vs) h)) (and_right (is_value v) (are_values vs) h)

-- the letters move no point
letters-inside : (kept : Remembered) (a b : ℕ) (v : ℤ) → inside kept.point ≡ true → inside (after_letters kept a b v).point ≡ true
unfolding after_letters
letters-inside kept a b v i = by_pick (λ (k : Remembered). inside k.point ≡ true) (is_ignore_deletes a b) _ _ (λ t. i) (λ t. i)

pub command-inside : (kept : Remembered) (a b : ℕ) (vs : List Value) → inside kept.point ≡ true → are_values vs ≡ true → inside (after_command kept a b vs).point ≡ true
command-inside kept a b vs i h = letters-inside (after_values kept vs) a b (leading vs) (after-inside kept vs i h)

fixed-ranged : (kept : Remembered) (ps : List Part) (s : List ℕ) (at : ℕ) → inside kept.point ≡ true → at ≤ length s → Ranged (λ (f : Fixed). f.next) at (length s) (fixed_at kept ps s at)
unfolding fixed_at
fixed-ranged kept [] s at j i = ranged_done (λ (f : Fixed). f.next) at (length s) _ (omega arith) i
fixed-ranged kept (p ∷ ps) s at j i =
    ranged_then (λ (f : Fixed). f.next) (λ (f : Fixed). f.next) at (length s) (part_at kept p s at) _ (part-ranged kept s p at j i)
    (λ f e x w.
    let a = done-of (FixedShown kept (p ∷ []) s at) (part-good kept p s at) e in
    let n : inside f.kept.point ≡ true = ap (λ (k : Remembered). inside k.point) a.kept-is ∙ after-inside kept f.values j a.writable in
    farther (λ (g : Fixed). g.next) at f.next (length s) _ x
    (ranged_then (λ (g : Fixed). g.next) (λ (g : Fixed). g.next) f.next (length s) (fixed_at f.kept ps s f.next) _ (fixed-ranged f.kept ps s f.next n w)
    (λ g q y z. ranged_done (λ (h : Fixed). h.next) f.next (length s) _ y z)))

parameters_ranged : (kept : Remembered) (k : ParameterKind) (s : List ℕ) (at : ℕ) → inside kept.point ≡ true → at ≤ length s → Ranged (λ (p : Parsed). p.next) at (length s) (parameters_at kept (shape_of k) s at)
unfolding parameters_at
parameters_ranged kept k s at j i =
    ranged_then (λ (f : Fixed). f.next) (λ (p : Parsed). p.next) at (length s) (fixed_at kept (shape_of k).fixed s at) _ (fixed-ranged kept (shape_of k).fixed s at j i)
    (λ f e x w. farther (λ (p : Parsed). p.next) at f.next (length s) _ x
    (ranged_then (λ (h : CountedRun). h.next) (λ (p : Parsed). p.next) f.next (length s) (tail_at f.kept (shape_of k).tail s f.next) _ (tail-ranged f.kept s (shape_of k).tail f.next w)
    (λ h q y z. ranged_done (λ (p : Parsed). p.next) f.next (length s) _ y z)))

-- ---- the whole command

-- what is refused is refused behind the ESC and no farther than the end, but for 7
Refuses : List ℕ → ℕ → Answer Meaning → Type 0
Refuses s start (done m) = Unit {0}
Refuses s start (refused e p) = (e ≡ 7) ⊎ ((start + 1 ≤ p) × (p ≤ length s))

refuses-then : {A : Type 0} (f : A → ℕ) (s : List ℕ) (start : ℕ) (a : Answer A) (k : A → Answer Meaning) → Ranged f (start + 1) (length s) a → ((x : A) → a ≡ done x → Refuses s start (k x)) → Refuses s start (then a k)
unfolding Ranged Refuses
refuses-then f s start (done x) k h next = next x refl
refuses-then f s start (refused e p) k h next = inr h

here-ranged : (s : List ℕ) (at : ℕ) → at ≤ length s → Ranged onward at (length s) (letter_here s at)
unfolding letter_here
here-ranged s at i =
    by_pick (Ranged onward at (length s)) (ltb at (length s)) _ _
    (λ t. let l = ltb-true at (length s) t in
    by_pick (Ranged onward at (length s)) (eqb (get_or s at 0) 27) _ _
    (λ u. ranged_refused onward at (length s) 6 at (omega arith) i)
    (λ u. ranged_done onward at (length s) _ (omega arith) (omega (arith, l))))
    (λ t. ranged_refused onward at (length s) 1 (length s) i (omega arith))

letter_ranged : (m : DelMode) (s : List ℕ) (at : ℕ) → at ≤ length s → Ranged onward at (length s) (letter_at m s at)
letter_ranged m s at i =
    farther onward at (past_dels m s at) (length s) _ (dels_on m s at) (here-ranged s (past_dels m s at) (dels_within m s at i))

abbrev letters_next : Letters → ℕ
letters_next h = h.next

completed-ranged : (s : List ℕ) (at a : ℕ) (b : Taken ℕ) (f : Tabled) → at ≤ b.place → b.place < b.next → b.next ≤ length s → Ranged letters_next at (length s) (completed a b f)
completed-ranged s at a b (in_table k) h g w = ranged_done letters_next at (length s) _ (omega arith) w
completed-ranged s at a b not_in_table h g w = ranged_refused letters_next at (length s) 2 b.place h (omega arith)

head_ranged : (m : DelMode) (s : List ℕ) (at : ℕ) → at ≤ length s → Ranged letters_next at (length s) (head_at m s at)
unfolding head_at second_at
head_ranged m s at i =
    ranged_then onward letters_next at (length s) (letter_at m s at) _ (letter_ranged m s at i)
    (λ a e x w.
    let l = letter_shown m s at e in
    by_pick (Ranged letters_next at (length s)) (begins a.value) _ _
    (λ t. farther letters_next at a.next (length s) _ x
    (ranged_then onward letters_next a.next (length s) (letter_at m s a.next) _ (letter_ranged m s a.next w)
    (λ b q y z. let k = letter_shown m s a.next q in completed-ranged s a.next a.value b (kind_of a.value b.value) k.from k.behind-it k.within)))
    (λ t. ranged_refused letters_next at (length s) 2 a.place l.from (omega (arith, l.behind-it, l.within))))

command-refuses : (kept : Remembered) (s : List ℕ) (start room : ℕ) → inside kept.point ≡ true → start < length s → Refuses s start (command_at kept s start room)
unfolding command_at body_at Refuses
command-refuses kept s start room j h =
    by_pick (Refuses s start) (ltb start (length s)) _ _
    (λ t. refuses-then letters_next s start (head_at kept.mode s (start + 1)) _ (head_ranged kept.mode s (start + 1) (omega arith))
    (λ l e.
    let a = done-of (HeadShown s (start + 1)) (head_good kept.mode s (start + 1)) e in
    refuses-then (λ (p : Parsed). p.next) s start (parameters_at kept (shape_of l.kind) s l.next) _
    (farther (λ (p : Parsed). p.next) (start + 1) l.next (length s) _ (omega (arith, a.two)) (parameters_ranged kept l.kind s l.next j a.room))
    (λ p q. by_pick (Refuses s start) (leb p.count room) _ _ (λ u. tt) (λ u. inl refl))))
    (λ t. inr (omega arith, omega arith))

pub command-refused : (kept : Remembered) (s : List ℕ) (start room : ℕ) {e p : ℕ} → inside kept.point ≡ true → start < length s → command_at kept s start room ≡ refused e p → (e ≡ 7) ⊎ ((start + 1 ≤ p) × (p ≤ length s))
unfolding Refuses
command-refused kept s start room j h q = subst (Refuses s start) q (command-refuses kept s start room j h)
