-- Nothing shorter reads as the same command from the same remembered point, what is read may be written, and reading goes forward and stays
-- within. Said over the kinds of parameter.
use Prim.Native.Nat.{ℕ, zero, suc, ◌+◌, ◌*◌, ◌≤◌, ◌<◌}
use mathlib.Core.Path.{◌≡◌, refl, sym, ◌∙◌, ap}
use mathlib.Core.Bool.{Bool, true, ◌&&◌}
use mathlib.Core.List.{List, [], ◌∷◌, ◌++◌, map, append-nil, append_assoc}
use native.Mathlib.Omega.{arith}
use borrow.Author.Tests.{le-leb, ltb-true, eq-eqb}
use lib.Dec.{leb, ltb, eqb}
use lib.ListN.{length, get_or, length-append}
use lib.IntN.{ℤ, pos}
use Rattle.memory.specs.declared.DelMode.{DelMode}
use Rattle.memory.specs.declared.Remembered.{Remembered}
use Rattle.memory.specs.Memory.{inside}
use Rattle.refusals.specs.declared.Taken.{Taken}
use Rattle.refusals.specs.Answers.{done, pick, ends_after, all_after, every}
use Rattle.refusals.proofs.Cases.{by_pick, by_then, Done, done-of, done-map, is-done, not_done, and_left, and_right}
use Rattle.wire.specs.Taking.{past_dels, byte_at}
use Rattle.wire.specs.Sending.{sent}
use Rattle.wire.proofs.Feeds.{dels_on, took, took_least}
use Rattle.signs.specs.Signs.{is_integer}
use Rattle.numbers.specs.Integers.{spell}
use Rattle.numbers.specs.Counts.{count_at}
use Rattle.numbers.proofs.Shortest.{integer-shown, count-shown}
use Rattle.points.specs.Reading.{point_at}
use Rattle.points.proofs.Shortest.{point-shown}
use Rattle.table.specs.Table.{ParameterKind, Tabled, in_table, not_in_table, kind_of, begins}
use Rattle.table.specs.Table as K
use Rattle.parameters.specs.declared.TwoEntries.{TwoEntries}
use Rattle.parameters.specs.declared.CountedRun.{CountedRun}
use Rattle.parameters.specs.declared.Entry.{Entry}
use Rattle.parameters.specs.declared.Entry.TheVariants.{AnInteger, ACharacter}
use Rattle.parameters.specs.Entries.{entry_at, as_entry, entry_values, run_at}
use Rattle.parameters.specs.Shapes.{Tailed, no_list, list_of, Part, single, real, point, Shape, Value, number, scaled, place, shape_of, values_of, tail_of}
use Rattle.parameters.specs.Looking.{two_entries_at, Fixed, part_at, fixed_at, tail_at, Parsed, parameters_at, entry_in, parsed_entries}
use Rattle.commands.specs.declared.Command.{Command}
use Rattle.commands.specs.Reading.{letter_here, letter_at, Letters, completed, second_at, head_at, Meaning, body_at, command_at}
use Rattle.writable.specs.Writable.{kind_for, kind_number, is_kind, is_entry, are_entries, is_value, are_values, is_tail, fits, is_command}
use Rattle.parameters.specs.Behind.{after_value, after_values}
use Rattle.parameters.proofs.Kept.{fixed_kept}
use Rattle.commands.specs.Behind.{after_command}
use Rattle.writing.specs.Writing.{spell_entry, spell_entries, spell_value, spell_values, spell_tail, spell_parameters, spell_command}
use Rattle.laws.specs.Laws.{SaysSo, NoShorter}
use Rattle.laws.proofs.RoundTrip.{part_of, shape_is}

-- ---- one entry

pub record EntryShown (e : Entry) (kept : Remembered) (s : List ℕ) (at : ℕ) (r : Taken ℤ) : Type 0 where
  pub writable : is_entry e r.value ≡ true
  pub shortest : at + length (spell_entry e kept r.value) ≤ r.next
  pub forward : at < r.next
  pub within : r.next ≤ length s

character : (n : ℕ) → 32 ≤ n → n ≤ 127 → is_entry ACharacter (pos n) ≡ true
character n l h = rw (le-leb 32 n l, le-leb n 127 h)

pub entry_good : (e : Entry) (kept : Remembered) (s : List ℕ) (at : ℕ) (r : Taken ℤ) → entry_at e kept s at ≡ done r → EntryShown e kept s at r
unfolding entry_at spell_entry
entry_good AnInteger kept s at r g =
    let f = integer-shown kept s at g in
    record { writable = f.writable; shortest = f.shortest; forward = f.forward; within = f.within }
entry_good ACharacter kept s at r g =
    done-of (EntryShown ACharacter kept s at)
    (by_then (Done (EntryShown ACharacter kept s at)) (byte_at kept s at) as_entry
    (λ b h.
    let t = took kept s at h in
    is-done (EntryShown ACharacter kept s at) (record {
      writable = character b.value t.least t.most;
      shortest = took_least kept s at h;
      forward = t.forward;
      within = t.within;
    }))
    (λ x p h. not_done (EntryShown ACharacter kept s at) x p))
    g

-- ---- a run of entries

pub record RunShown (e : Entry) (kept : Remembered) (s : List ℕ) (k at n : ℕ) : Type 0 where
  pub writable : are_entries e (all_after (entry_at e kept s) k at) ≡ true
  pub number_is : length (all_after (entry_at e kept s) k at) ≡ k
  pub shortest : at + length (spell_entries e kept (all_after (entry_at e kept s) k at)) ≤ n
  pub within : n ≤ length s

run-good : (e : Entry) (kept : Remembered) (s : List ℕ) (k at : ℕ) → at ≤ length s → Done (RunShown e kept s k at) (ends_after (entry_at e kept s) k at)
unfolding ends_after all_after spell_entries every
run-good e kept s zero at h =
    is-done (RunShown e kept s 0 at) (record { writable = refl; number_is = refl; shortest = omega arith; within = h })
run-good e kept s (suc k) at h =
    by_then (Done (RunShown e kept s (suc k) at)) (entry_at e kept s at) _
    (λ r g.
    let f = entry_good e kept s at r g in
    let w = spell_entry e kept r.value in
    let rest = spell_entries e kept (all_after (entry_at e kept s) k r.next) in
    done-map (λ n q. record {
      writable = rw (g, f.writable) q.writable;
      number_is = rw g (ap suc q.number_is);
      shortest = rw g (omega (arith, f.shortest, q.shortest, length-append w rest));
      within = q.within;
    }) (ends_after (entry_at e kept s) k r.next) (run-good e kept s k r.next f.within))
    (λ x p g. not_done (RunShown e kept s (suc k) at) x p)

-- ---- the fixed values

pub record FixedShown (kept : Remembered) (ps : List Part) (s : List ℕ) (at : ℕ) (f : Fixed) : Type 0 where
  pub writable : are_values f.values ≡ true
  pub parts_are : map part_of f.values ≡ ps
  pub shortest : at + length (spell_values kept f.values) ≤ f.next
  pub kept-is : f.kept ≡ after_values kept f.values
  pub forward : at ≤ f.next
  pub within : f.next ≤ length s

and_true : (b : Bool) → b ≡ true → b && true ≡ true
and_true b e = rw e

-- one value alone
alone : (kept : Remembered) (v : Value) (s : List ℕ) (at n : ℕ) → is_value v ≡ true → at + length (spell_value kept v) ≤ n → n ≤ length s → FixedShown kept (part_of v ∷ []) s at (record { values = v ∷ []; next = n; kept = after_value kept v })
unfolding every spell_values after_values
alone kept v s at n ok h w = record {
  writable = and_true (is_value v) ok;
  parts_are = refl;
  shortest = rw (append-nil (spell_value kept v)) h;
  kept-is = refl;
  forward = omega arith;
  within = w;
}

-- two integers
record TwoEntriesShown (kept : Remembered) (s : List ℕ) (at : ℕ) (r : TwoEntries) : Type 0 where
  ok : is_integer r.one && is_integer r.two ≡ true
  short : at + length (sent kept (spell r.one) ++ sent kept (spell r.two)) ≤ r.next
  inside_of : r.next ≤ length s

two-entries_good : (kept : Remembered) (s : List ℕ) (at : ℕ) → Done (TwoEntriesShown kept s at) (two_entries_at AnInteger kept s at)
unfolding two_entries_at spell_entry
two-entries_good kept s at =
    by_then (Done (TwoEntriesShown kept s at)) (entry_at AnInteger kept s at) _
    (λ a g. by_then (Done (TwoEntriesShown kept s at)) (entry_at AnInteger kept s a.next) _
    (λ b h.
    let f = entry_good AnInteger kept s at a g in
    let q = entry_good AnInteger kept s a.next b h in
    is-done (TwoEntriesShown kept s at) (record {
      ok = rw (f.writable, q.writable);
      short = omega (arith, f.shortest, q.shortest, length-append (sent kept (spell a.value)) (sent kept (spell b.value)));
      inside_of = q.within;
    }))
    (λ x p h. not_done (TwoEntriesShown kept s at) x p))
    (λ x p g. not_done (TwoEntriesShown kept s at) x p)

pub part-good : (kept : Remembered) (p : Part) (s : List ℕ) (at : ℕ) → Done (FixedShown kept (p ∷ []) s at) (part_at kept p s at)
unfolding part_at
part-good kept (single e) s at =
    by_then (Done (FixedShown kept (single e ∷ []) s at)) (entry_at e kept s at) _
    (λ r g.
    let f = entry_good e kept s at r g in
    is-done (FixedShown kept (single e ∷ []) s at) (alone kept (number e r.value) s at r.next f.writable f.shortest f.within))
    (λ x q g. not_done (FixedShown kept (single e ∷ []) s at) x q)
part-good kept real s at =
    by_then (Done (FixedShown kept (real ∷ []) s at)) (two_entries_at AnInteger kept s at) _
    (λ r g.
    let f = done-of (TwoEntriesShown kept s at) (two-entries_good kept s at) g in
    is-done (FixedShown kept (real ∷ []) s at) (alone kept (scaled r.one r.two) s at r.next f.ok f.short f.inside_of))
    (λ x q g. not_done (FixedShown kept (real ∷ []) s at) x q)
part-good kept point s at =
    by_then (Done (FixedShown kept (point ∷ []) s at)) (point_at kept s at) _
    (λ r g.
    let f = point-shown kept s at g in
    is-done (FixedShown kept (point ∷ []) s at) (alone kept (place r.value) s at r.next f.writable f.shortest f.within))
    (λ x q g. not_done (FixedShown kept (point ∷ []) s at) x q)

-- values behind values
every_append : {A : Type 0} (ok : A → Bool) (xs ys : List A) → every ok xs ≡ true → every ok ys ≡ true → every ok (xs ++ ys) ≡ true
unfolding every
every_append ok [] ys h g = g
every_append ok (x ∷ xs) ys h g = rw (and_left (ok x) (every ok xs) h) (every_append ok xs ys (and_right (ok x) (every ok xs) h) g)

spell-append : (kept : Remembered) (xs ys : List Value) → spell_values kept (xs ++ ys) ≡ spell_values kept xs ++ spell_values (after_values kept xs) ys
unfolding spell_values after_values
spell-append kept [] ys = refl
spell-append kept (x ∷ xs) ys =
    ap (λ (w : List ℕ). spell_value kept x ++ w) (spell-append (after_value kept x) xs ys)
    ∙ sym (append_assoc (spell_value kept x) (spell_values (after_value kept x) xs) (spell_values (after_values (after_value kept x) xs) ys))

map_append : (xs ys : List Value) → map part_of (xs ++ ys) ≡ map part_of xs ++ map part_of ys
map_append [] ys = refl
map_append (x ∷ xs) ys = ap (λ (l : List Part). part_of x ∷ l) (map_append xs ys)

behind : (kept : Remembered) (p : Part) (ps : List Part) (s : List ℕ) (at : ℕ) (f g : Fixed) → FixedShown kept (p ∷ []) s at f → FixedShown f.kept ps s f.next g → g.kept ≡ after_values kept (f.values ++ g.values) → FixedShown kept (p ∷ ps) s at (record { values = f.values ++ g.values; next = g.next; kept = g.kept })
behind kept p ps s at f g a b left =
    let k = a.kept-is in
    let w = spell_values kept f.values in
    let v = spell_values f.kept g.values in
    let e : spell_values kept (f.values ++ g.values) ≡ w ++ v = spell-append kept f.values g.values ∙ ap (λ (m : Remembered). w ++ spell_values m g.values) (sym k) in
    record {
      writable = every_append is_value f.values g.values a.writable b.writable;
      parts_are = map_append f.values g.values ∙ rw (a.parts_are, b.parts_are);
      shortest = omega (arith, a.shortest, b.shortest, ap length e, length-append w v);
      kept-is = left;
      forward = omega (arith, a.forward, b.forward);
      within = b.within;
    }

pub fixed-good : (kept : Remembered) (ps : List Part) (s : List ℕ) (at : ℕ) → at ≤ length s → Done (FixedShown kept ps s at) (fixed_at kept ps s at)
unfolding fixed_at every spell_values after_values
fixed-good kept [] s at h =
    is-done (FixedShown kept [] s at) (record { writable = refl; parts_are = refl; shortest = omega arith; kept-is = refl; forward = omega arith; within = h })
fixed-good kept (p ∷ ps) s at h =
    by_then (Done (FixedShown kept (p ∷ ps) s at)) (part_at kept p s at) _
    (λ f q.
    let a = done-of (FixedShown kept (p ∷ []) s at) (part-good kept p s at) q in
    by_then (Done (FixedShown kept (p ∷ ps) s at)) (fixed_at f.kept ps s f.next) _
    (λ g r.
    let all : fixed_at kept (p ∷ ps) s at ≡ done (record { values = f.values ++ g.values; next = g.next; kept = g.kept }) = rw (q, r) in
    is-done (FixedShown kept (p ∷ ps) s at) (behind kept p ps s at f g a (done-of (FixedShown f.kept ps s f.next) (fixed-good f.kept ps s f.next a.within) r) (fixed_kept kept (p ∷ ps) s at all)))
    (λ x y r. not_done (FixedShown kept (p ∷ ps) s at) x y))
    (λ x y q. not_done (FixedShown kept (p ∷ ps) s at) x y)

-- ---- the list behind them

abbrev entries_held : Remembered → Tailed → List ℕ → CountedRun → List ℤ
entries_held kept t s h = entry_values (entry_in t) kept h.count s h.start

pub record TailShown (kept : Remembered) (t : Tailed) (s : List ℕ) (at : ℕ) (h : CountedRun) : Type 0 where
  pub writable : is_tail t (entries_held kept t s h) ≡ true
  pub number_is : length (entries_held kept t s h) ≡ h.count
  pub shortest : at + length (spell_tail kept t (entries_held kept t s h)) ≤ h.next
  pub forward : at ≤ h.next
  pub within : h.next ≤ length s

tail-good : (kept : Remembered) (t : Tailed) (s : List ℕ) (at : ℕ) → at ≤ length s → Done (TailShown kept t s at) (tail_at kept t s at)
unfolding tail_at run_at is_tail spell_tail all_after
tail-good kept no_list s at h =
    is-done (TailShown kept no_list s at) (record { writable = refl; number_is = refl; shortest = omega arith; forward = omega arith; within = h })
tail-good kept (list_of e) s at h =
    by_then (Done (TailShown kept (list_of e) s at)) (count_at kept s at) _
    (λ c g.
    let f = count-shown kept s at g in
    by_then (Done (TailShown kept (list_of e) s at)) (ends_after (entry_at e kept s) c.value c.next) _
    (λ n q.
    let r = done-of (RunShown e kept s c.value c.next) (run-good e kept s c.value c.next f.within) q in
    let es = all_after (entry_at e kept s) c.value c.next in
    let w = sent kept (spell (pos c.value)) in
    is-done (TailShown kept (list_of e) s at) (record {
      writable = rw (r.number_is, le-leb c.value 256 f.writable) r.writable;
      number_is = r.number_is;
      shortest = rw r.number_is (omega (arith, f.shortest, r.shortest, length-append w (spell_entries e kept es)));
      forward = omega (arith, f.shortest, r.shortest);
      within = r.within;
    }))
    (λ x p q. not_done (TailShown kept (list_of e) s at) x p))
    (λ x p g. not_done (TailShown kept (list_of e) s at) x p)

-- ---- the letters

-- a letter stands behind the DELs that are passed over, within the bytes
pub record LetterShown (s : List ℕ) (at : ℕ) (b : Taken ℕ) : Type 0 where
  pub from : at ≤ b.place
  pub behind-it : b.place < b.next
  pub within : b.next ≤ length s

here-good : (s : List ℕ) (at p : ℕ) → at ≤ p → Done (LetterShown s at) (letter_here s p)
unfolding letter_here
here-good s at p h =
    by_pick (Done (LetterShown s at)) (ltb p (length s)) _ _
    (λ t. by_pick (Done (LetterShown s at)) (eqb (get_or s p 0) 27) _ _
    (λ u. not_done (LetterShown s at) 6 p)
    (λ u. let l = ltb-true p (length s) t in is-done (LetterShown s at) (record { from = h; behind-it = omega arith; within = omega (arith, l) })))
    (λ t. not_done (LetterShown s at) 1 (length s))

pub letter_shown : (m : DelMode) (s : List ℕ) (at : ℕ) {b : Taken ℕ} → letter_at m s at ≡ done b → LetterShown s at b
letter_shown m s at e = done-of (LetterShown s at) (here-good s at (past_dels m s at) (dels_on m s at)) e

pub record HeadShown (s : List ℕ) (at : ℕ) (h : Letters) : Type 0 where
  pub known : kind_of h.first h.second ≡ in_table h.kind
  pub two : at + 2 ≤ h.next
  pub room : h.next ≤ length s

completed-good : (s : List ℕ) (at a : ℕ) (b : Taken ℕ) (f : Tabled) → kind_of a b.value ≡ f → at + 2 ≤ b.next → b.next ≤ length s → Done (HeadShown s at) (completed a b f)
completed-good s at a b (in_table k) e h w = is-done (HeadShown s at) (record { known = e; two = h; room = w })
completed-good s at a b not_in_table e h w = not_done (HeadShown s at) 2 b.place

pub head_good : (m : DelMode) (s : List ℕ) (at : ℕ) → Done (HeadShown s at) (head_at m s at)
unfolding head_at second_at
head_good m s at =
    by_then (Done (HeadShown s at)) (letter_at m s at) _
    (λ a g. let i = letter_shown m s at g in
    by_pick (Done (HeadShown s at)) (begins a.value) _ _
    (λ t. by_then (Done (HeadShown s at)) (letter_at m s a.next) _
    (λ b h. let j = letter_shown m s a.next h in
    completed-good s at a.value b (kind_of a.value b.value) refl (omega (arith, i.from, i.behind-it, j.from, j.behind-it)) j.within)
    (λ x p h. not_done (HeadShown s at) x p))
    (λ t. not_done (HeadShown s at) 2 a.place))
    (λ x p g. not_done (HeadShown s at) x p)

-- ---- the whole command

pub record Shown (kept : Remembered) (s : List ℕ) (start : ℕ) (m : Meaning) : Type 0 where
  pub kind : ParameterKind
  pub known : kind_of m.first m.second ≡ in_table kind
  pub shape_is : shape_of kind ≡ record { fixed = map part_of m.values; tail = m.tail }
  pub values-ok : are_values m.values ≡ true
  pub tail-ok : is_tail m.tail m.entries ≡ true
  pub count-is : m.count ≡ length m.entries
  pub shortest : start + (3 + length (spell_parameters kept m.values m.tail m.entries)) ≤ m.next
  pub kept-is : m.kept ≡ after_command kept m.first m.second m.values
  pub forward : start < m.next
  pub within : m.next ≤ length s

module _ (kept : Remembered) (k : ParameterKind) (s : List ℕ) (start from : ℕ) (behind-them : start + 3 ≤ from) (room : from ≤ length s) where
  record ParsedShown (p : Parsed) : Type 0 where
    shape_ok : shape_of k ≡ record { fixed = map part_of p.values; tail = p.tail }
    values-good : are_values p.values ≡ true
    tail-is_good : is_tail p.tail (parsed_entries s p) ≡ true
    count-good : p.count ≡ length (parsed_entries s p)
    short : start + (3 + length (spell_parameters kept p.values p.tail (parsed_entries s p))) ≤ p.next
    on : start < p.next
    inside_of : p.next ≤ length s

  joined : (f : Fixed) (h : CountedRun) → FixedShown kept (shape_of k).fixed s from f → TailShown f.kept (shape_of k).tail s f.next h → ParsedShown (record { values = f.values; tail = (shape_of k).tail; start = h.start; count = h.count; next = h.next; kept = f.kept })
  unfolding spell_parameters
  joined f h a b =
      let w = spell_values kept f.values in
      let t = spell_tail (after_values kept f.values) (shape_of k).tail (entries_held f.kept (shape_of k).tail s h) in
      let e : spell_tail f.kept (shape_of k).tail (entries_held f.kept (shape_of k).tail s h) ≡ t = ap (λ (m : Remembered). spell_tail m (shape_of k).tail (entries_held f.kept (shape_of k).tail s h)) a.kept-is in
      record {
        shape_ok = ap (λ (ps : List Part). record { fixed = ps; tail = (shape_of k).tail }) (sym a.parts_are);
        values-good = a.writable;
        tail-is_good = b.writable;
        count-good = sym b.number_is;
        short = omega (arith, a.shortest, b.shortest, ap length e, length-append w t);
        on = omega (arith, a.forward, b.forward);
        inside_of = b.within;
      }

  parsed_good : Done ParsedShown (parameters_at kept (shape_of k) s from)
  unfolding parameters_at
  parsed_good =
      by_then (Done ParsedShown) (fixed_at kept (shape_of k).fixed s from) _
      (λ f g.
      let a = done-of (FixedShown kept (shape_of k).fixed s from) (fixed-good kept (shape_of k).fixed s from room) g in
      by_then (Done ParsedShown) (tail_at f.kept (shape_of k).tail s f.next) _
      (λ h q. is-done ParsedShown (joined f h a (done-of (TailShown f.kept (shape_of k).tail s f.next) (tail-good f.kept (shape_of k).tail s f.next a.within) q)))
      (λ x p q. not_done ParsedShown x p))
      (λ x p g. not_done ParsedShown x p)

command-good : (kept : Remembered) (s : List ℕ) (start room : ℕ) → Done (Shown kept s start) (command_at kept s start room)
unfolding command_at body_at
command-good kept s start room =
    by_pick (Done (Shown kept s start)) (ltb start (length s)) _ _
    (λ t. by_then (Done (Shown kept s start)) (head_at kept.mode s (start + 1)) _
    (λ h g.
    let a = done-of (HeadShown s (start + 1)) (head_good kept.mode s (start + 1)) g in
    let l : start + 3 ≤ h.next = omega (arith, a.two) in
    by_then (Done (Shown kept s start)) (parameters_at kept (shape_of h.kind) s h.next) _
    (λ p q.
    let b = done-of (ParsedShown kept h.kind s start h.next l a.room) (parsed_good kept h.kind s start h.next l a.room) q in
    by_pick (Done (Shown kept s start)) (leb p.count room) _ _
    (λ u. is-done (Shown kept s start) (record {
      kind = h.kind;
      known = a.known;
      shape_is = b.shape_ok;
      values-ok = b.values-good;
      tail-ok = b.tail-is_good;
      count-is = b.count-good;
      shortest = b.short;
      kept-is = refl;
      forward = b.on;
      within = b.inside_of;
    }))
    (λ u. not_done (Shown kept s start) 7 start))
    (λ x p q. not_done (Shown kept s start) x p))
    (λ x p g. not_done (Shown kept s start) x p))
    (λ t. not_done (Shown kept s start) 1 (length s))

pub command-shown : (kept : Remembered) (s : List ℕ) (start room : ℕ) {m : Meaning} → command_at kept s start room ≡ done m → Shown kept s start m
command-shown kept s start room e = done-of (Shown kept s start) (command-good kept s start room) e

-- ---- what reading yields is writable

part_code : Part → ℕ
part_code (single AnInteger) = 1
part_code (single ACharacter) = 2
part_code real = 3
part_code point = 4

codes : List Part → ℕ
codes [] = 0
codes (p ∷ ps) = part_code p + 5 * codes ps

tail_code : Tailed → ℕ
tail_code no_list = 0
tail_code (list_of AnInteger) = 1
tail_code (list_of ACharacter) = 2

-- a number for each shape, by which kinds of different shapes are told apart
shape_code : Shape → ℕ
shape_code h = codes h.fixed * 3 + tail_code h.tail

kind_coded : ℕ → ParameterKind
kind_coded n =
    pick (eqb n 3) K.one_integer
    (pick (eqb n 18) K.two_integers
    (pick (eqb n 93) K.three_integers
    (pick (eqb n 12) K.one_point
    (pick (eqb n 72) K.two_points
    (pick (eqb n 9) K.a_real
    (pick (eqb n 2) K.a_string
    (pick (eqb n 1) K.an_array
    (pick (eqb n 4) K.integer_then_array
    (pick (eqb n 5) K.integer_then_string
    K.two_characters)))))))))

coded : (k : ParameterKind) → kind_coded (shape_code (shape_of k)) ≡ k
unfolding kind_coded shape_code codes tail_code part_code
coded K.one_integer = refl
coded K.two_integers = refl
coded K.three_integers = refl
coded K.one_point = refl
coded K.two_points = refl
coded K.a_real = refl
coded K.a_string = refl
coded K.an_array = refl
coded K.integer_then_array = refl
coded K.integer_then_string = refl
coded K.two_characters = refl

same_shape : (k j : ParameterKind) → shape_of k ≡ shape_of j → k ≡ j
same_shape k j e = sym (coded k) ∙ ap (λ (h : Shape). kind_coded (shape_code h)) e ∙ coded j

pub read-writable : (kept : Remembered) (s : List ℕ) (start room : ℕ) (c : Command) {m : Meaning} → inside kept.point ≡ true → command_at kept s start room ≡ done m → SaysSo c m → is_command kept c m.entries ≡ true
unfolding is_command fits is_kind
read-writable kept s start room c {m} i e q =
    let f = command-shown kept s start room e in
    let ps = c.parameters in
    let y : ◌≡◌ {A = Shape} (record { fixed = map part_of (values_of ps); tail = tail_of ps }) (record { fixed = map part_of m.values; tail = m.tail }) = rw (q.values-are, q.tail-is) in
    let z : shape_of (kind_for ps) ≡ shape_of f.kind = shape_is ps ∙ y ∙ sym f.shape_is in
    let k : kind_for ps ≡ f.kind = same_shape (kind_for ps) f.kind z in
    let n : kind_of c.first c.second ≡ in_table (kind_for ps) = rw (q.first-is, q.second_is) (f.known ∙ ap in_table (sym k)) in
    rw (n, eq-eqb (kind_number (kind_for ps)) (kind_number (kind_for ps)) refl, i, q.values-are, q.tail-is, f.values-ok) f.tail-ok

-- no byte string that reads as that command from that point is shorter
pub command-shortest : (kept : Remembered) (s : List ℕ) (start room : ℕ) (c : Command) {m : Meaning} → command_at kept s start room ≡ done m → SaysSo c m → NoShorter kept start c m
unfolding spell_command
command-shortest kept s start room c {m} e q =
    let f = command-shown kept s start room e in
    let n : length (spell_parameters kept (values_of c.parameters) (tail_of c.parameters) m.entries) ≡ length (spell_parameters kept m.values m.tail m.entries) = rw (q.values-are, q.tail-is) in
    omega (arith, f.shortest, n)
