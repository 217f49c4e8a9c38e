-- A command that is written reads back from the same point and mode: the same letters, values and entries, ending where the writing
-- ended, with the same point and mode after it. Said over the kinds of parameter.
use Prim.Native.Nat.{ℕ, ◌+◌, ◌≤◌, ◌<◌}
use mathlib.Core.Path.{◌≡◌, refl, sym, ◌∙◌, ap}
use mathlib.Core.Bool.{Bool, true, false, ◌&&◌, ◌||◌}
use mathlib.Core.List.{List, [], ◌∷◌, ◌++◌, map}
use native.Mathlib.Omega.{arith}
use borrow.Author.Tests.{lt-ltb, le-ltb, le-leb, leb-true, eqb-true, ne_eqb}
use lib.Dec.{leb, eqb}
use lib.ListN.{length, get_or, length-append}
use lib.IntN.{ℤ, pos, nat_abs}
use Rattle.memory.specs.declared.DelMode.{DelMode}
use Rattle.memory.specs.declared.Remembered.{Remembered}
use Rattle.memory.specs.Memory.{inside}
use Rattle.refusals.specs.declared.Taken.{Taken}
use Rattle.refusals.specs.Answers.{Answer, done, refused, Reads, pick, ends_after, all_after}
use Rattle.refusals.proofs.Cases.{and_left, and_right, zero_one}
use Rattle.refusals.proofs.Many.{every-split}
use Rattle.wire.specs.Taking.{past_dels}
use Rattle.wire.specs.Sending.{sent}
use Rattle.wire.proofs.Feeds.{past_no_del, Stands, stands-left, stands-right, stands-between, Feeds, sent-taken}
use Rattle.signs.specs.Signs.{is_integer}
use Rattle.numbers.specs.Integers.{spell, integer_at}
use Rattle.numbers.specs.Counts.{count_at}
use Rattle.numbers.proofs.RoundTrip.{integer-back, count-back}
use Rattle.points.specs.Reading.{point_at}
use Rattle.points.specs.Writing.{spell_point}
use Rattle.points.proofs.RoundTrip.{point-back}
use Rattle.ranges.proofs.Entries.{within-range}
use Rattle.table.specs.Table.{ParameterKind, Tabled, in_table, not_in_table, TableRow, table, kind_in, kind_of, begins_in, begins}
use Rattle.table.specs.Table as K
use Rattle.parameters.specs.declared.CountedRun.{CountedRun}
use Rattle.parameters.specs.declared.Entry.{Entry}
use Rattle.parameters.specs.declared.Entry.TheVariants.{AnInteger, ACharacter}
use Rattle.parameters.specs.declared.Parameters.{Parameters}
use Rattle.parameters.specs.declared.Parameters.TheVariants.{OneInteger, TwoIntegers, ThreeIntegers, OnePoint, TwoPoints, AReal, TwoCharacters, AString, AnArray, IntegerThenString, IntegerThenArray}
use Rattle.parameters.specs.Entries.{entry_at, entry_values, run_at}
use Rattle.parameters.specs.Shapes.{Tailed, no_list, list_of, Part, single, real, point, Value, number, scaled, place, shape_of, values_of, tail_of}
use Rattle.parameters.specs.Looking.{two_entries_at, part_at, fixed_at, tail_at, Parsed, parameters_at, entry_in}
use Rattle.commands.specs.declared.Command.{Command}
use Rattle.commands.specs.Reading.{letter_here, letter_at, Letters, second_at, head_at, meaning, body_at, command_at}
use Rattle.writable.specs.Writable.{kind_for, kind_number, same_kind, is_kind, is_entry, are_entries, is_value, are_values, is_tail, fits, is_command}
use Rattle.parameters.specs.Behind.{after_value, after_values}
use Rattle.writing.specs.Writing.{spell_entry, spell_entries, spell_value, spell_values, spell_tail, spell_parameters, spell_command}
use Rattle.stream.specs.Items.{command_item, item_at}
use Rattle.laws.specs.Laws.{carried, Back}

-- what `Reads` says, taken apart
abbrev Got : {A : Type 0} → Answer (Taken A) → A → ℕ → Type 0
Got {A} a v n = (r : Taken A) × ((a ≡ done r) × ((r.value ≡ v) × (r.next ≡ n)))

got : {A : Type 0} (a : Answer (Taken A)) (v : A) (n : ℕ) → Reads v n a → Got a v n
unfolding Reads
got (done r) v n h = (r, (refl, h))
got (refused x p) v n h = absurd h

-- ---- entries

entry_back : (e : Entry) (kept : Remembered) (s : List ℕ) (at : ℕ) (v : ℤ) → is_entry e v ≡ true → Stands s at (spell_entry e kept v) → Reads v (at + length (spell_entry e kept v)) (entry_at e kept s at)
unfolding entry_at spell_entry Reads
entry_back AnInteger kept s at v ok st = integer-back kept v ok s at st
entry_back ACharacter kept s at v ok st = from (sent-taken kept s at (nat_abs v ∷ []) ((range.0, range.1.0), tt) st)
  where
    range : (32 ≤ nat_abs v) × ((nat_abs v ≤ 127) × (pos (nat_abs v) ≡ v))
    range = within-range 32 127 v ok

    from : Feeds kept s at (nat_abs v ∷ []) (at + length (sent kept (nat_abs v ∷ []))) → Reads v (at + length (sent kept (nat_abs v ∷ []))) (entry_at ACharacter kept s at)
    from (p, (m, (e, z))) = rw e (range.1.1, z)

entries-back : (e : Entry) (kept : Remembered) (s : List ℕ) (vs : List ℤ) (at : ℕ) → are_entries e vs ≡ true → Stands s at (spell_entries e kept vs) → (ends_after (entry_at e kept s) (length vs) at ≡ done (at + length (spell_entries e kept vs))) × (all_after (entry_at e kept s) (length vs) at ≡ vs)
unfolding ends_after all_after spell_entries
entries-back e kept s [] at ok st = (ap done (omega arith), refl)
entries-back e kept s (v ∷ vs) at ok st =
    let w = spell_entry e kept v in
    let rest = spell_entries e kept vs in
    let q = every-split (is_entry e) v vs ok in
    let (r, (er, (ev, en))) = got (entry_at e kept s at) v (at + length w) (entry_back e kept s at v q.0 (stands-left s at w rest st)) in
    let (f, g) = entries-back e kept s vs (at + length w) q.1 (stands-right s at w rest st) in
    let z : at + length w + length rest ≡ at + length (w ++ rest) = omega (arith, length-append w rest) in
    (rw (er, en) (f ∙ ap done z), rw (er, en, ev, g))

-- ---- the fixed values

abbrev pub part_of : Value → Part
part_of (number e v) = single e
part_of (scaled m x) = real
part_of (place p) = point

pub still_inside : (kept : Remembered) (v : Value) → inside kept.point ≡ true → is_value v ≡ true → inside (after_value kept v).point ≡ true
still_inside kept (number e v) i ok = i
still_inside kept (scaled m x) i ok = i
still_inside kept (place p) i ok = ok

module _ (s : List ℕ) where
  value-back : (kept : Remembered) (v : Value) (at : ℕ) → inside kept.point ≡ true → is_value v ≡ true → Stands s at (spell_value kept v) → part_at kept (part_of v) s at ≡ done (record { values = v ∷ []; next = at + length (spell_value kept v); kept = after_value kept v })
  unfolding part_at two_entries_at entry_at spell_entry
  value-back kept (number e v) at i ok st =
      let (r, (er, (ev, en))) = got (entry_at e kept s at) v (at + length (spell_entry e kept v)) (entry_back e kept s at v ok st) in
      rw (er, ev, en)
  value-back kept (scaled m x) at i ok st =
      let a = sent kept (spell m) in
      let b = sent kept (spell x) in
      let om = and_left (is_integer m) (is_integer x) ok in
      let ox = and_right (is_integer m) (is_integer x) ok in
      let (r, (er, (ev, en))) = got (integer_at kept s at) m (at + length a) (integer-back kept m om s at (stands-left s at a b st)) in
      let (q, (eq, (ew, em))) = got (integer_at kept s (at + length a)) x (at + length a + length b) (integer-back kept x ox s (at + length a) (stands-right s at a b st)) in
      let z : at + length a + length b ≡ at + length (a ++ b) = omega (arith, length-append a b) in
      rw (er, ev, en, eq, ew, em, z)
  value-back kept (place p) at i ok st =
      let w = sent kept (spell_point kept.point p) in
      let (r, (er, (ev, en))) = got (point_at kept s at) p (at + length w) (point-back kept p i ok s at st) in
      rw (er, ev, en)

  values-back : (kept : Remembered) (vs : List Value) (at : ℕ) → inside kept.point ≡ true → are_values vs ≡ true → Stands s at (spell_values kept vs) → fixed_at kept (map part_of vs) s at ≡ done (record { values = vs; next = at + length (spell_values kept vs); kept = after_values kept vs })
  unfolding fixed_at spell_values after_values
  values-back kept [] at i ok st = let z : at ≡ at + 0 = omega arith in ap (λ (n : ℕ). done (record { values = []; next = n; kept = kept })) z
  values-back kept (v ∷ vs) at i ok st =
      let w = spell_value kept v in
      let rest = spell_values (after_value kept v) vs in
      let q = every-split is_value v vs ok in
      let f = value-back kept v at i q.0 (stands-left s at w rest st) in
      let g = values-back (after_value kept v) vs (at + length w) (still_inside kept v i q.0) q.1 (stands-right s at w rest st) in
      let z : at + length w + length rest ≡ at + length (w ++ rest) = omega (arith, length-append w rest) in
      rw (f, g, z)

  -- ---- the list behind them

  record TailBack (kept : Remembered) (t : Tailed) (es : List ℤ) (at : ℕ) : Type 0 where
    held : CountedRun
    reads : tail_at kept t s at ≡ done held
    number_is : held.count ≡ length (carried t es)
    next-is : held.next ≡ at + length (spell_tail kept t es)
    entries-are : entry_values (entry_in t) kept held.count s held.start ≡ carried t es

  tail-back : (kept : Remembered) (t : Tailed) (es : List ℤ) (at : ℕ) → is_tail t es ≡ true → Stands s at (spell_tail kept t es) → TailBack kept t es at
  unfolding tail_at spell_tail is_tail run_at all_after
  tail-back kept no_list es at ok st = record {
    held = record { start = 0; count = 0; next = at };
    reads = refl;
    number_is = refl;
    next-is = omega arith;
    entries-are = refl;
  }
  tail-back kept (list_of e) es at ok st =
      let w = sent kept (spell (pos (length es))) in
      let rest = spell_entries e kept es in
      let few = leb-true (length es) 256 (and_left (leb (length es) 256) (are_entries e es) ok) in
      let good = and_right (leb (length es) 256) (are_entries e es) ok in
      let (r, (er, (ev, en))) = got (count_at kept s at) (length es) (at + length w) (count-back kept s at (length es) few (stands-left s at w rest st)) in
      let (f, g) = entries-back e kept s es (at + length w) good (stands-right s at w rest st) in
      record {
        held = record { start = at + length w; count = length es; next = at + length w + length rest };
        reads = rw (er, ev, en, f);
        number_is = refl;
        next-is = omega (arith, length-append w rest);
        entries-are = g;
      }

-- ---- letters and kinds

pub shape_is : (ps : Parameters) → shape_of (kind_for ps) ≡ record { fixed = map part_of (values_of ps); tail = tail_of ps }
shape_is (OneInteger a) = refl
shape_is (TwoIntegers a b) = refl
shape_is (ThreeIntegers a b c) = refl
shape_is (OnePoint p) = refl
shape_is (TwoPoints p q) = refl
shape_is (AReal r) = refl
shape_is (TwoCharacters a b) = refl
shape_is AString = refl
shape_is AnArray = refl
shape_is (IntegerThenString a) = refl
shape_is (IntegerThenArray a) = refl

kind_named : ℕ → ParameterKind
kind_named n =
    get_or (K.one_integer ∷ K.one_integer ∷ K.two_integers ∷ K.three_integers ∷ K.one_point ∷ K.two_points ∷ K.a_real ∷ K.a_string ∷ K.an_array ∷ K.integer_then_array ∷ K.integer_then_string ∷ K.two_characters ∷ []) n K.one_integer

kind-back : (k : ParameterKind) → kind_named (kind_number k) ≡ k
unfolding kind_named
kind-back K.one_integer = refl
kind-back K.two_integers = refl
kind-back K.three_integers = refl
kind-back K.one_point = refl
kind-back K.two_points = refl
kind-back K.a_real = refl
kind-back K.a_string = refl
kind-back K.an_array = refl
kind-back K.integer_then_array = refl
kind-back K.integer_then_string = refl
kind-back K.two_characters = refl

same_kind_lem : (k j : ParameterKind) → kind_number k ≡ kind_number j → k ≡ j
same_kind_lem k j e = sym (kind-back k) ∙ ap kind_named e ∙ kind-back j

letters-kind : (a b : ℕ) (ps : Parameters) → is_kind a b ps ≡ true → kind_of a b ≡ in_table (kind_for ps)
unfolding is_kind
letters-kind a b ps = by (kind_of a b)
  where
    by : (f : Tabled) → same_kind f (kind_for ps) ≡ true → f ≡ in_table (kind_for ps)
    by (in_table k) e = ap in_table (same_kind_lem k (kind_for ps) (eqb-true (kind_number k) (kind_number (kind_for ps)) e))
    by not_in_table e = let z : ◌≡◌ {A = ℕ} 0 1 = cc in absurd (zero_one z)

-- letters that a command has begin one
found_begins : (rows : List TableRow) (a b : ℕ) {k : ParameterKind} → kind_in rows a b ≡ in_table k → begins_in rows a ≡ true
found_begins [] a b e = let z : ◌≡◌ {A = ℕ} 0 1 = cc in absurd (zero_one z)
found_begins (r ∷ rs) a b {k} e = by (eqb a r.first) (eqb b r.second) (λ g. found_begins rs a b g) e
  where
    by : (t u : Bool) → (kind_in rs a b ≡ in_table k → begins_in rs a ≡ true) → pick (t && u) (in_table r.kind) (kind_in rs a b) ≡ in_table k → t || begins_in rs a ≡ true
    by true u next e = refl
    by false u next e = next e

and_false : (b : Bool) → b && false ≡ false
and_false true = refl
and_false false = refl

-- neither ESC nor DEL is a letter
no-escape : (a : ℕ) → kind_of a 27 ≡ not_in_table
unfolding kind_of
no-escape a = simp and_false

no_del : (a : ℕ) → kind_of a 127 ≡ not_in_table
unfolding kind_of
no_del a = simp and_false

first-escape : begins 27 ≡ false
unfolding begins
first-escape = refl

first-del : begins 127 ≡ false
unfolding begins
first-del = refl

-- ---- the whole command

letter_is : (m : DelMode) (s : List ℕ) (at b : ℕ) → at < length s → get_or s at 0 ≡ b → (b ≡ 27 → ⊥) → (b ≡ 127 → ⊥) → letter_at m s at ≡ done (record { value = b; place = at; next = at + 1 })
unfolding letter_here
letter_is m s at b i e n d =
    let q : past_dels m s at ≡ at = past_no_del m s at i (λ z. d (sym e ∙ z)) in
    simp (q, lt-ltb at (length s) i, e, ne_eqb b 27 n)

module _ (kept : Remembered) (c : Command) (es : List ℤ) (ok : is_command kept c es ≡ true) (s : List ℕ) (start : ℕ) (st : Stands s start (spell_command kept c es)) where
  kind_ok : is_kind c.first c.second c.parameters ≡ true
  unfolding is_command fits
  kind_ok = and_left (is_kind c.first c.second c.parameters) _ ok

  found : kind_of c.first c.second ≡ in_table (kind_for c.parameters)
  found = letters-kind c.first c.second c.parameters kind_ok

  begun : begins c.first ≡ true
  unfolding kind_of begins
  begun = found_begins table c.first c.second found

  first-apart : (b : ℕ) → begins b ≡ false → c.first ≡ b → ⊥
  first-apart b f e = let z : ◌≡◌ {A = ℕ} 0 1 = let g = begun in let h : begins c.first ≡ begins b = ap begins e in cc in zero_one z

  second-apart : (b : ℕ) → kind_of c.first b ≡ not_in_table → c.second ≡ b → ⊥
  second-apart b f e =
      let h : kind_of c.first c.second ≡ kind_of c.first b = ap (kind_of c.first) e in
      let g = found in
      let z : ◌≡◌ {A = ℕ} 0 1 = cc in zero_one z

  letters : Stands s start (27 ∷ c.first ∷ c.second ∷ [])
  unfolding spell_command
  letters = stands-left s start (27 ∷ c.first ∷ c.second ∷ []) (spell_parameters kept (values_of c.parameters) (tail_of c.parameters) es) st

  rest : Stands s (start + 3) (spell_parameters kept (values_of c.parameters) (tail_of c.parameters) es)
  unfolding spell_command
  rest = stands-right s start (27 ∷ c.first ∷ c.second ∷ []) (spell_parameters kept (values_of c.parameters) (tail_of c.parameters) es) st

  abbrev spelled_letters : Letters
  spelled_letters = record { first = c.first; second = c.second; kind = kind_for c.parameters; next = start + 3 }

  head_back : head_at kept.mode s (start + 1) ≡ done spelled_letters
  unfolding head_at second_at
  head_back =
      let m = kept.mode in
      let z : start + 1 + 1 ≡ start + 2 = omega arith in
      let y : start + 2 + 1 ≡ start + 3 = omega arith in
      let a = letter_is m s (start + 1) c.first (omega (arith, letters.room)) (letters.same 1 (omega arith)) (first-apart 27 first-escape) (first-apart 127 first-del) in
      let b = letter_is m s (start + 2) c.second (omega (arith, letters.room)) (letters.same 2 (omega arith)) (second-apart 27 (no-escape c.first)) (second-apart 127 (no_del c.first)) in
      rw (a, begun, z, b, found, y)

  -- the three tests behind that of the letters
  tested : inside kept.point && (are_values (values_of c.parameters) && is_tail (tail_of c.parameters) es) ≡ true
  unfolding is_command fits
  tested = and_right (is_kind c.first c.second c.parameters) _ ok

  last-inside : inside kept.point ≡ true
  last-inside = and_left (inside kept.point) _ tested

  values-ok : are_values (values_of c.parameters) ≡ true
  values-ok = and_left (are_values (values_of c.parameters)) _ (and_right (inside kept.point) _ tested)

  tail-ok : is_tail (tail_of c.parameters) es ≡ true
  tail-ok = and_right (are_values (values_of c.parameters)) _ (and_right (inside kept.point) _ tested)

  abbrev vs : List Value
  vs = values_of c.parameters

  abbrev spelled_values : List ℕ
  spelled_values = spell_values kept (values_of c.parameters)

  abbrev spelled_tail : List ℕ
  spelled_tail = spell_tail (after_values kept (values_of c.parameters)) (tail_of c.parameters) es

  fixed_back : fixed_at kept (map part_of vs) s (start + 3) ≡ done (record { values = vs; next = start + 3 + length spelled_values; kept = after_values kept vs })
  unfolding spell_parameters
  fixed_back = values-back s kept vs (start + 3) last-inside values-ok (stands-left s (start + 3) spelled_values spelled_tail rest)

  list_back : TailBack s (after_values kept vs) (tail_of c.parameters) es (start + 3 + length spelled_values)
  unfolding spell_parameters
  list_back = tail-back s (after_values kept vs) (tail_of c.parameters) es (start + 3 + length spelled_values) tail-ok (stands-right s (start + 3) spelled_values spelled_tail rest)

  parsed : Parsed
  parsed = record {
    values = vs;
    tail = tail_of c.parameters;
    start = list_back.held.start;
    count = list_back.held.count;
    next = list_back.held.next;
    kept = after_values kept vs;
  }

  parameters_back : parameters_at kept (shape_of (kind_for c.parameters)) s (start + 3) ≡ done parsed
  unfolding parameters_at parsed
  parameters_back = rw (shape_is c.parameters, fixed_back, list_back.reads)

  long : length (spell_command kept c es) ≡ 3 + (length spelled_values + length spelled_tail)
  unfolding spell_command spell_parameters
  long = let a = length-append spelled_values spelled_tail in omega arith

  escape : get_or s start 0 ≡ 27
  escape = let z : start ≡ start + 0 = omega arith in ap (λ (n : ℕ). get_or s n 0) z ∙ letters.same 0 (omega arith)

  -- in room enough for its entries the item at start is that command
  pub command-back : (room : ℕ) → length (carried (tail_of c.parameters) es) ≤ room → Back kept c es (length (spell_command kept c es)) s start room
  unfolding item_at command_item command_at body_at parsed
  command-back room h =
      let i : start < length s = omega (arith, letters.room) in
      let t : leb list_back.held.count room ≡ true = le-leb list_back.held.count room (omega (arith, list_back.number_is)) in
      record {
        read = meaning kept spelled_letters s parsed;
        whole = rw (le-ltb (length s) start (omega (arith, i)), last-inside, lt-ltb start (length s) i, escape, head_back, parameters_back, t);
        first-is = refl;
        second_is = refl;
        values-are = refl;
        tail-is = refl;
        entries-are = list_back.entries-are;
        count-is = list_back.number_is;
        next-is = omega (arith, list_back.next-is, long);
        kept-is = refl;
      }

-- every writable command with its entries, written from a remembered point and read again from that point, also behind and in front of
-- other bytes
pub command-round : (kept : Remembered) (c : Command) (es : List ℤ) (before after : List ℕ) (room : ℕ) → is_command kept c es ≡ true → length (carried (tail_of c.parameters) es) ≤ room → Back kept c es (length (spell_command kept c es)) (before ++ (spell_command kept c es ++ after)) (length before) room
command-round kept c es before after room ok h =
    command-back kept c es ok (before ++ (spell_command kept c es ++ after)) (length before) (stands-between before (spell_command kept c es) after) room h
