-- Reading with the places moved: where every byte of one list is read in another, at places moved by f, so is everything that is read byte by byte. What is
-- remembered on the other side is that of this one in the mode m.
use Prim.Native.Nat.{ℕ, zero, suc, ◌+◌, ◌*◌, ◌%◌, ◌≤◌}
use mathlib.Core.Path.{◌≡◌, refl, sym, ◌∙◌, ap}
use mathlib.Core.Bool.{Bool, true, false}
use mathlib.Core.List.{List, [], ◌∷◌}
use lib.Dec.{ltb, leb}
use lib.ListN.{length}
use lib.IntN.{ℤ, nat_abs}
use Rattle.memory.specs.declared.DelMode.{DelMode}
use Rattle.memory.specs.declared.DelMode.TheVariants.{Filler}
use Rattle.memory.specs.declared.Point.{Point}
use Rattle.memory.specs.declared.Remembered.{Remembered}
use Rattle.memory.specs.Memory.{inside, in_mode}
use Rattle.refusals.specs.declared.Taken.{Taken}
use Rattle.refusals.specs.Answers.{Answer, done, refused, then, pick, ends_after, all_after}
use Rattle.refusals.proofs.Cases.{by_then, Done, done-of, is-done, not_done}
use Rattle.wire.specs.Taking.{byte_at}
use Rattle.wire.proofs.Feeds.{took}
use Rattle.signs.specs.Signs.{is_negative, most_magnitude}
use Rattle.ranges.specs.Ranges.{most_entries}
use Rattle.numbers.specs.Integers.{integer_from, integer_at, in_range}
use Rattle.numbers.specs.Counts.{count_in, count_at}
use Rattle.numbers.proofs.Shortest.{count-shown}
use Rattle.points.specs.declared.PointBytes.{PointBytes}
use Rattle.points.specs.Layout.{bytes_of}
use Rattle.points.specs.Reading.{by_kind, not_allowed, with_hi_y, with_extra, with_lo_y, with_hi_x, ends_at, lo_x, last_at, after_lo_y, after_upper, after_hi_y, point_from, point_at}
use Rattle.parameters.specs.declared.TwoEntries.{TwoEntries}
use Rattle.parameters.specs.declared.CountedRun.{CountedRun}
use Rattle.parameters.specs.declared.Entry.{Entry}
use Rattle.parameters.specs.declared.Entry.TheVariants.{AnInteger, ACharacter}
use Rattle.parameters.specs.Entries.{entry_at, entry_values, run_at}
use Rattle.parameters.specs.Shapes.{Tailed, no_list, list_of, Part, single, real, point, Shape, Value}
use Rattle.parameters.specs.Behind.{after_values}
use Rattle.parameters.specs.Looking.{two_entries_at, Fixed, part_at, fixed_at, tail_at, Parsed, parameters_at, entry_in, parsed_entries}
use Rattle.parameters.proofs.Kept.{fixed_kept}
use Rattle.writing.proofs.Sizes.{values-mode}
use Rattle.laws.proofs.Shortest.{entry_good, FixedShown, part-good, fixed-good}

-- ---- the mode: what is remembered behind parameters is remembered in the mode in which they were read

pub kept-mode : (kept : Remembered) {behind : Remembered} (vs : List Value) → behind ≡ after_values kept vs → behind.mode ≡ kept.mode
kept-mode kept vs q = ap (λ (k : Remembered). k.mode) q ∙ values-mode kept vs

pub part-mode : (kept : Remembered) (p : Part) (s : List ℕ) (at : ℕ) {x : Fixed} → part_at kept p s at ≡ done x → x.kept.mode ≡ kept.mode
part-mode kept p s at {x} q = kept-mode kept x.values (done-of (FixedShown kept (p ∷ []) s at) (part-good kept p s at) q).kept-is

pub fixed-mode : (kept : Remembered) (ps : List Part) (s : List ℕ) (at : ℕ) {x : Fixed} → fixed_at kept ps s at ≡ done x → x.kept.mode ≡ kept.mode
fixed-mode kept ps s at {x} q = kept-mode kept x.values (fixed_kept kept ps s at q)

-- ---- an answer with its places moved

unfoldable pub moved : {A : Type 0} (f : ℕ → ℕ) (g : A → A) → Answer A → Answer A
moved f g (done x) = done (g x)
moved f g (refused e p) = refused e (f p)

pub moved_then : {A B : Type 0} (f : ℕ → ℕ) (g : A → A) (h : B → B) (a b : Answer A) (k j : A → Answer B) → b ≡ moved f g a → ((x : A) → a ≡ done x → j (g x) ≡ moved f h (k x)) → then b j ≡ moved f h (then a k)
unfolding moved
moved_then f g h (done x) b k j e next = rw e (next x refl)
moved_then f g h (refused y p) b k j e next = rw e

pub moved-pick : {A : Type 0} (f : ℕ → ℕ) (g : A → A) (t : Bool) (x y x' y' : Answer A) → (t ≡ true → x' ≡ moved f g x) → (t ≡ false → y' ≡ moved f g y) → pick t x' y' ≡ moved f g (pick t x y)
moved-pick f g true x y x' y' h k = h refl
moved-pick f g false x y x' y' h k = k refl

module _ (f : ℕ → ℕ) where
  abbrev pub read_moved : {A : Type 0} → Taken A → Taken A
  read_moved r = record { value = r.value; place = f r.place; next = f r.next }

  abbrev pub run_moved : CountedRun → CountedRun
  run_moved h = record { start = f h.start; count = h.count; next = f h.next }

  abbrev pub two_moved : TwoEntries → TwoEntries
  two_moved r = record { one = r.one; two = r.two; next = f r.next }

  module _ (m : DelMode) where
    abbrev pub fixed_moved : Fixed → Fixed
    fixed_moved x = record { values = x.values; next = f x.next; kept = in_mode x.kept m }

    abbrev pub parsed_moved : Parsed → Parsed
    parsed_moved p = record { values = p.values; tail = p.tail; start = f p.start; count = p.count; next = f p.next; kept = in_mode p.kept m }

-- every byte of s that is read where 127 is filler is read in r, in the mode m, at the place moved by f
pub record Reads (f : ℕ → ℕ) (m : DelMode) (s r : List ℕ) : Type 0 where
  pub front : f 0 ≡ 0
  pub bytes : (kept : Remembered) (at : ℕ) → kept.mode ≡ Filler → at ≤ length s → byte_at (in_mode kept m) r (f at) ≡ moved f (read_moved f) (byte_at kept s at)

module _ (f : ℕ → ℕ) (m : DelMode) (s r : List ℕ) (alike : Reads f m s r) where
  module _ (kept : Remembered) (e : kept.mode ≡ Filler) where
    abbrev other : Remembered
    other = in_mode kept m

    -- ---- numbers

    range_moved : (k : ℕ) (t : Bool) (p n : ℕ) → in_range k t (f p) (f n) ≡ moved f (read_moved f) (in_range k t p n)
    unfolding moved
    range_moved k t p n = moved-pick f (read_moved f) (leb k (most_magnitude t)) _ _ _ _ (λ u. refl) (λ u. refl)

    integer-moved : (k h at : ℕ) → at ≤ length s → integer_from other k h r (f at) ≡ moved f (read_moved f) (integer_from kept k h s at)
    unfolding integer_from moved
    integer-moved zero h at i =
        moved_then f (read_moved f) (read_moved f) (byte_at kept s at) _ _ _ (alike.bytes kept at e i)
        (λ b q. moved-pick f (read_moved f) (ltb b.value 64) _ _ _ _ (λ t. range_moved (h * 16 + b.value % 16) (ltb b.value 48) b.place b.next) (λ t. refl))
    integer-moved (suc k) h at i =
        moved_then f (read_moved f) (read_moved f) (byte_at kept s at) _ _ _ (alike.bytes kept at e i)
        (λ b q. moved-pick f (read_moved f) (ltb b.value 64) _ _ _ _
        (λ t. range_moved (h * 16 + b.value % 16) (ltb b.value 48) b.place b.next)
        (λ t. integer-moved k (h * 64 + b.value % 64) b.next (took kept s at q).within))

    count-moved : (at : ℕ) → at ≤ length s → count_at other r (f at) ≡ moved f (read_moved f) (count_at kept s at)
    unfolding count_in moved
    count-moved at i =
        moved_then f (read_moved f) (read_moved f) (integer_at kept s at) _ _ _ (integer-moved 2 0 at i)
        (λ b q. moved-pick f (read_moved f) (is_negative b.value) _ _ _ _
        (λ t. refl)
        (λ t. moved-pick f (read_moved f) (leb (nat_abs b.value) most_entries) _ _ _ _ (λ u. refl) (λ u. refl)))

    -- ---- points

    abbrev PointMoved : Answer (Taken Point) → Answer (Taken Point) → Type 0
    PointMoved b a = b ≡ moved f (read_moved f) a

    kind-moved : (at : ℕ) (hi lo up hi' lo' up' : Taken ℕ → Answer (Taken Point)) → at ≤ length s → ((c : Taken ℕ) → c.next ≤ length s → PointMoved (hi' (read_moved f c)) (hi c)) → ((c : Taken ℕ) → PointMoved (lo' (read_moved f c)) (lo c)) → ((c : Taken ℕ) → c.next ≤ length s → PointMoved (up' (read_moved f c)) (up c)) → PointMoved (by_kind other r (f at) hi' lo' up') (by_kind kept s at hi lo up)
    unfolding by_kind
    kind-moved at hi lo up hi' lo' up' i x y z =
        moved_then f (read_moved f) (read_moved f) (byte_at kept s at) _ _ _ (alike.bytes kept at e i)
        (λ c q. let w = (took kept s at q).within in
        moved-pick f (read_moved f) (ltb c.value 64) _ _ _ _
        (λ t. x c w)
        (λ t. moved-pick f (read_moved f) (ltb c.value 96) _ _ _ _ (λ u. y c) (λ u. z c w)))

    not_moved : (c : Taken ℕ) → PointMoved (not_allowed (read_moved f c)) (not_allowed c)
    unfolding moved
    not_moved c = refl

    lo_moved : (b : PointBytes) (c : Taken ℕ) → PointMoved (lo_x b (read_moved f c)) (lo_x b c)
    unfolding moved ends_at
    lo_moved b c = refl

    last-moved : (b : PointBytes) (at : ℕ) → at ≤ length s → PointMoved (last_at other b r (f at)) (last_at kept b s at)
    unfolding last_at
    last-moved b at i = kind-moved at _ _ _ _ _ _ i (λ c w. not_moved c) (lo_moved b) (λ c w. not_moved c)

    lo_y_moved : (b : PointBytes) (at : ℕ) → at ≤ length s → PointMoved (after_lo_y other b r (f at)) (after_lo_y kept b s at)
    unfolding after_lo_y
    lo_y_moved b at i = kind-moved at _ _ _ _ _ _ i (λ c w. last-moved (with_hi_x b c.value) c.next w) (lo_moved b) (λ c w. not_moved c)

    upper_moved : (b : PointBytes) (u at : ℕ) → at ≤ length s → PointMoved (after_upper other b u r (f at)) (after_upper kept b u s at)
    unfolding after_upper
    upper_moved b u at i =
        kind-moved at _ _ _ _ _ _ i
        (λ c w. last-moved (with_hi_x (with_lo_y b u) c.value) c.next w)
        (lo_moved (with_lo_y b u))
        (λ c w. lo_y_moved (with_lo_y (with_extra b u) c.value) c.next w)

    hi_y_moved : (b : PointBytes) (at : ℕ) → at ≤ length s → PointMoved (after_hi_y other b r (f at)) (after_hi_y kept b s at)
    unfolding after_hi_y
    hi_y_moved b at i = kind-moved at _ _ _ _ _ _ i (λ c w. not_moved c) (lo_moved b) (λ c w. upper_moved b c.value c.next w)

    point-moved : (at : ℕ) → at ≤ length s → PointMoved (point_at other r (f at)) (point_at kept s at)
    unfolding point_at point_from moved
    point-moved at i =
        let b = bytes_of kept.point in
        moved-pick f (read_moved f) (inside kept.point) _ _ _ _
        (λ t. kind-moved at _ _ _ _ _ _ i (λ c w. hi_y_moved (with_hi_y b c.value) c.next w) (lo_moved b) (λ c w. upper_moved b c.value c.next w))
        (λ t. ap (refused 8) (sym alike.front))

    -- ---- entries

    entry_moved : (n : Entry) (at : ℕ) → at ≤ length s → entry_at n other r (f at) ≡ moved f (read_moved f) (entry_at n kept s at)
    unfolding entry_at moved
    entry_moved AnInteger at i = integer-moved 2 0 at i
    entry_moved ACharacter at i = moved_then f (read_moved f) (read_moved f) (byte_at kept s at) _ _ _ (alike.bytes kept at e i) (λ b q. refl)

    ends-moved : (n : Entry) (k at : ℕ) → at ≤ length s → ends_after (entry_at n other r) k (f at) ≡ moved f f (ends_after (entry_at n kept s) k at)
    unfolding ends_after moved
    ends-moved n zero at i = refl
    ends-moved n (suc k) at i =
        moved_then f (read_moved f) f (entry_at n kept s at) _ _ _ (entry_moved n at i) (λ b q. ends-moved n k b.next (entry_good n kept s at b q).within)

    -- the values themselves do not move
    values-by : (n : Entry) (k at : ℕ) (a : Answer (Taken ℤ)) → entry_at n kept s at ≡ a → entry_at n other r (f at) ≡ moved f (read_moved f) a → ((x : Taken ℤ) → a ≡ done x → all_after (entry_at n other r) k (f x.next) ≡ all_after (entry_at n kept s) k x.next) → all_after (entry_at n other r) (suc k) (f at) ≡ all_after (entry_at n kept s) (suc k) at
    unfolding all_after moved
    values-by n k at (done x) q w h = rw (q, w) (ap (λ (l : List ℤ). x.value ∷ l) (h x refl))
    values-by n k at (refused y p) q w h = rw (q, w)

    values_moved : (n : Entry) (k at : ℕ) → at ≤ length s → all_after (entry_at n other r) k (f at) ≡ all_after (entry_at n kept s) k at
    unfolding all_after
    values_moved n zero at i = refl
    values_moved n (suc k) at i =
        values-by n k at (entry_at n kept s at) refl (entry_moved n at i) (λ b q. values_moved n k b.next (entry_good n kept s at b q).within)

    two-moved : (n : Entry) (at : ℕ) → at ≤ length s → two_entries_at n other r (f at) ≡ moved f (two_moved f) (two_entries_at n kept s at)
    unfolding two_entries_at moved
    two-moved n at i =
        moved_then f (read_moved f) (two_moved f) (entry_at n kept s at) _ _ _ (entry_moved n at i)
        (λ a q. moved_then f (read_moved f) (two_moved f) (entry_at n kept s a.next) _ _ _ (entry_moved n a.next (entry_good n kept s at a q).within) (λ b z. refl))

    -- ---- the parts

    part_moved : (p : Part) (at : ℕ) → at ≤ length s → part_at other p r (f at) ≡ moved f (fixed_moved f m) (part_at kept p s at)
    unfolding part_at moved
    part_moved (single n) at i = moved_then f (read_moved f) (fixed_moved f m) (entry_at n kept s at) _ _ _ (entry_moved n at i) (λ b q. refl)
    part_moved real at i = moved_then f (two_moved f) (fixed_moved f m) (two_entries_at AnInteger kept s at) _ _ _ (two-moved AnInteger at i) (λ b q. refl)
    part_moved point at i = moved_then f (read_moved f) (fixed_moved f m) (point_at kept s at) _ _ _ (point-moved at i) (λ b q. refl)

    tail-moved : (t : Tailed) (at : ℕ) → at ≤ length s → tail_at other t r (f at) ≡ moved f (run_moved f) (tail_at kept t s at)
    unfolding tail_at run_at moved
    tail-moved no_list at i = ap (λ (z : ℕ). done (record { start = z; count = 0; next = f at })) (sym alike.front)
    tail-moved (list_of n) at i =
        moved_then f (read_moved f) (run_moved f) (count_at kept s at) _ _ _ (count-moved at i)
        (λ c q. moved_then f f (run_moved f) (ends_after (entry_at n kept s) c.value c.next) _ _ _ (ends-moved n c.value c.next (count-shown kept s at q).within) (λ z y. refl))

  fixed_moved_lem : (kept : Remembered) (ps : List Part) (at : ℕ) → kept.mode ≡ Filler → at ≤ length s → fixed_at (in_mode kept m) ps r (f at) ≡ moved f (fixed_moved f m) (fixed_at kept ps s at)
  unfolding fixed_at moved
  fixed_moved_lem kept [] at e i = refl
  fixed_moved_lem kept (p ∷ ps) at e i =
      moved_then f (fixed_moved f m) (fixed_moved f m) (part_at kept p s at) _ _ _ (part_moved kept e p at i)
      (λ x q.
      let a = done-of (FixedShown kept (p ∷ []) s at) (part-good kept p s at) q in
      moved_then f (fixed_moved f m) (fixed_moved f m) (fixed_at x.kept ps s x.next) _ _ _ (fixed_moved_lem x.kept ps x.next (part-mode kept p s at q ∙ e) a.within) (λ y z. refl))

  module _ (kept : Remembered) (e : kept.mode ≡ Filler) (h : Shape) (at : ℕ) (i : at ≤ length s) where
    fixed-within : {x : Fixed} → fixed_at kept h.fixed s at ≡ done x → x.next ≤ length s
    fixed-within q = (done-of (FixedShown kept h.fixed s at) (fixed-good kept h.fixed s at i) q).within

    pub parameters_moved : parameters_at (in_mode kept m) h r (f at) ≡ moved f (parsed_moved f m) (parameters_at kept h s at)
    unfolding parameters_at moved
    parameters_moved =
        moved_then f (fixed_moved f m) (parsed_moved f m) (fixed_at kept h.fixed s at) _ _ _ (fixed_moved_lem kept h.fixed at e i)
        (λ x q. moved_then f (run_moved f) (parsed_moved f m) (tail_at x.kept h.tail s x.next) _ _ _ (tail-moved x.kept (fixed-mode kept h.fixed s at q ∙ e) h.tail x.next (fixed-within q)) (λ y z. refl))

    -- and so are the entries
    Entries : Parsed → Type 0
    Entries p = entry_values (entry_in p.tail) (in_mode p.kept m) p.count r (f p.start) ≡ parsed_entries s p

    tail-entries : (x : Fixed) → fixed_at kept h.fixed s at ≡ done x → (t : Tailed) {y : CountedRun} → tail_at x.kept t s x.next ≡ done y → entry_values (entry_in t) (in_mode x.kept m) y.count r (f y.start) ≡ entry_values (entry_in t) x.kept y.count s y.start
    unfolding tail_at run_at all_after
    tail-entries x q no_list {y} z = let n : y.count ≡ 0 = cc in rw n
    tail-entries x q (list_of n) {y} z =
        values_moved x.kept (fixed-mode kept h.fixed s at q ∙ e) n y.count y.start (done-of (λ (w : CountedRun). w.start ≤ length s) starts z)
      where
        starts : Done (λ (w : CountedRun). w.start ≤ length s) (run_at n x.kept s x.next)
        starts =
            by_then (Done (λ (w : CountedRun). w.start ≤ length s)) (count_at x.kept s x.next) _
            (λ c g. by_then (Done (λ (w : CountedRun). w.start ≤ length s)) (ends_after (entry_at n x.kept s) c.value c.next) _
            (λ k j. is-done (λ (w : CountedRun). w.start ≤ length s) (count-shown x.kept s x.next g).within)
            (λ u v j. not_done (λ (w : CountedRun). w.start ≤ length s) u v))
            (λ u v g. not_done (λ (w : CountedRun). w.start ≤ length s) u v)

    pub entries-moved : {p : Parsed} → parameters_at kept h s at ≡ done p → entry_values (entry_in p.tail) (in_mode p.kept m) p.count r (f p.start) ≡ parsed_entries s p
    unfolding parameters_at Entries
    entries-moved e = done-of Entries all e
      where
        all : Done Entries (parameters_at kept h s at)
        all =
            by_then (Done Entries) (fixed_at kept h.fixed s at) _
            (λ x q. by_then (Done Entries) (tail_at x.kept h.tail s x.next) _
            (λ y z. is-done Entries (tail-entries x q h.tail z))
            (λ u v z. not_done Entries u v))
            (λ u v q. not_done Entries u v)
