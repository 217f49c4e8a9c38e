-- Reading entries, as the code does it.
use Prim.Native.Nat.{ℕ, zero, suc, ◌+◌, ◌-◌, ◌^◌, ◌≤◌, ◌<◌}
use mathlib.Core.Path.{◌≡◌, refl, sym, ◌∙◌, ap}
use mathlib.Core.Bool.{Bool, true, false, ◌&&◌}
use mathlib.Core.List.{List, ◌∷◌, ◌++◌, map}
use native.Mathlib.Omega.{arith}
use native.Mathlib.Numerals.{add-one}
use borrow.Author.Tests.{le-leb, lt-leb, leb-true}
use lib.Dec.{leb}
use lib.ListN.{length, get_or, take, drop, set, length-set, length-map, length-drop, get_or-map}
use lib.Seq.{sets, sets-eq, take_at, take_all, drop-cons, length-take-le, length-sets, paste, paste-zero, paste-suc}
use lib.IntN.{ℤ, pos}
use Rattle.memory.specs.declared.Remembered.{Remembered}
use Rattle.std.specs.Prelude.{Result, Ok, Err}
use Rattle.refusals.specs.declared.RefusedAt.{RefusedAt}
use Rattle.refusals.specs.Refusals.{number_of}
use Rattle.refusals.specs.declared.Taken.{Taken}
use Rattle.refusals.specs.Answers.{answer_at, Answer, done, refused, pick, every, value_or, ends_after, all_after}
use Rattle.refusals.proofs.Cases.{by_then, and_left, and_right, Done, done-of, done-map, is-done, not_done}
use Rattle.refusals.proofs.Many as many
use Rattle.wire.specs.Taking.{byte_at, is_itself}
use Rattle.wire.proofs.Feeds.{byte_given, none_given, itself_taken}
use Rattle.numbers.specs.Integers.{integer_at}
use Rattle.numbers.specs.Counts.{count_at}
use Rattle.numbers.proofs.Shortest.{count-shown}
use Rattle.parameters.specs.declared.Entry.{Entry}
use Rattle.parameters.specs.declared.Entry.TheVariants.{AnInteger, ACharacter}
use Rattle.parameters.specs.Entries.{entry_at, entries_end, entry_values, handed, list_behind, characters_ahead}

-- ---- one entry

module _ (kept : Remembered) (s : List ℕ) (at : ℕ) where
  pub character_is : (x : ℤ) {y : ℤ} {r : Result (Taken ℕ) RefusedAt} {b : Taken ℕ} → answer_at r ≡ byte_at kept s at → r ≡ Ok b → y ≡ pos b.value → x ≡ y → answer_at (Ok (record { value = x; place = b.place; next = b.next })) ≡ entry_at ACharacter kept s at
  unfolding entry_at answer_at
  character_is x e g j i = rw (i, j, byte_given kept s at e g)

  pub character_no : {r : Result (Taken ℕ) RefusedAt} {x : RefusedAt} → answer_at r ≡ byte_at kept s at → r ≡ Err x → answer_at {A = Taken ℤ} (Err x) ≡ entry_at ACharacter kept s at
  unfolding entry_at answer_at
  character_no e g = rw (none_given kept s at e g)

  pub integer-entry : {e : Entry} {q : Answer (Taken ℤ)} → e ≡ AnInteger → q ≡ integer_at kept s at → q ≡ entry_at e kept s at
  unfolding entry_at
  integer-entry g j = rw g j

  pub character_entry : {e : Entry} {q : Answer (Taken ℤ)} → e ≡ ACharacter → q ≡ entry_at ACharacter kept s at → q ≡ entry_at e kept s at
  character_entry g j = rw g j

pub ruleset entries = (character_is, character_no, integer-entry, character_entry)

-- what a caller of `read_entry` has in hand
pub entry_given : (e : Entry) (kept : Remembered) (s : List ℕ) (at : ℕ) {r : Result (Taken ℤ) RefusedAt} {i : Taken ℤ} → answer_at r ≡ entry_at e kept s at → r ≡ Ok i → entry_at e kept s at ≡ done (record { value = i.value; place = i.place; next = i.next })
unfolding answer_at
entry_given e kept s at q g = sym q ∙ rw g

pub entry_none : (e : Entry) (kept : Remembered) (s : List ℕ) (at : ℕ) {r : Result (Taken ℤ) RefusedAt} {x : RefusedAt} → answer_at r ≡ entry_at e kept s at → r ≡ Err x → entry_at e kept s at ≡ refused (number_of x.refusal) x.place
unfolding answer_at
entry_none e kept s at q g = sym q ∙ rw g

-- ---- so many of them

-- what is left, read from here, ends where the whole ends
pub record Passing (e : Entry) (kept : Remembered) (s : List ℕ) (at count i n : ℕ) : Type 0 where
  pub upto : i ≤ count
  pub rest : entries_end e kept (count - i) s n ≡ entries_end e kept count s at

pub passing_none : (e : Entry) (kept : Remembered) (s : List ℕ) (at count : ℕ) → Passing e kept s at count 0 at
passing_none e kept s at count = let z : count - 0 ≡ count = omega arith in record { upto = omega arith; rest = rw z }

module _ (e : Entry) (kept : Remembered) (s : List ℕ) (at count i n : ℕ) (f : Passing e kept s at count i n) where
  pub passing_end : count ≤ i → answer_at (Ok n) ≡ entries_end e kept count s at
  unfolding answer_at
  passing_end h = many.passed_all (entry_at e kept s) (count - i) n (omega arith) f.rest

  module _ {r : Result (Taken ℤ) RefusedAt} (g : answer_at r ≡ entry_at e kept s n) where
    pub passing_more : {v : Taken ℤ} → i < count → r ≡ Ok v → Passing e kept s at count (i + 1) v.next
    passing_more h k =
        let z : count - i - 1 ≡ count - (i + 1) = omega arith in
        record {
          upto = omega arith;
          rest = rw z at (many.passed_one (entry_at e kept s) (count - i) n (entry_given e kept s n g k) (omega arith) f.rest);
        }

    pub passing_cut : {x : RefusedAt} → i < count → r ≡ Err x → answer_at {A = ℕ} (Err x) ≡ entries_end e kept count s at
    unfolding answer_at
    passing_cut h k = many.passed_none (entry_at e kept s) (count - i) n (entry_none e kept s n g k) (omega arith) f.rest

pub ruleset passings = (passing_none, passing_end, passing_more, passing_cut)

-- what is left, read from here, ends where the whole ends and fills the list as the whole does
pub record Reading (e : Entry) (kept : Remembered) (s : List ℕ) (at count : ℕ) (l₀ l : List ℤ) (i n : ℕ) : Type 0 where
  pub passing : Passing e kept s at count i n
  pub filling : many.Filling (entry_at e kept s) at count l₀ l i n

pub reading-none : (e : Entry) (kept : Remembered) (s : List ℕ) (at count : ℕ) (l : List ℤ) → Reading e kept s at count l l 0 at
reading-none e kept s at count l =
    record { passing = passing_none e kept s at count; filling = many.filling_none (entry_at e kept s) at count l }

module _ (e : Entry) (kept : Remembered) (s : List ℕ) (at count : ℕ) (l₀ l : List ℤ) (i n : ℕ) (f : Reading e kept s at count l₀ l i n) where
  pub reading-end : count ≤ i → answer_at (Ok n) ≡ entries_end e kept count s at
  reading-end h = passing_end e kept s at count i n f.passing h

  pub reading-all : count ≤ i → l ≡ sets l₀ 0 (entry_values e kept count s at)
  reading-all h = many.filling_end (entry_at e kept s) at count l₀ l i n f.filling h

  module _ {r : Result (Taken ℤ) RefusedAt} (g : answer_at r ≡ entry_at e kept s n) where
    pub reading_more : (x : ℤ) {v : Taken ℤ} → i < count → r ≡ Ok v → x ≡ v.value → Reading e kept s at count l₀ (set l i x) (i + 1) v.next
    reading_more x h k j =
        record {
          passing = passing_more e kept s at count i n f.passing g h k;
          filling = rw j (many.filling_more (entry_at e kept s) at count l₀ l i n f.filling h (entry_given e kept s n g k));
        }

    pub reading_cut : {x : RefusedAt} → i < count → r ≡ Err x → answer_at {A = ℕ} (Err x) ≡ entries_end e kept count s at
    reading_cut h k = passing_cut e kept s at count i n f.passing g h k

    pub reading_some : {x : RefusedAt} → r ≡ Err x → l ≡ sets l₀ 0 (entry_values e kept count s at)
    reading_some k = many.filling_cut (entry_at e kept s) at count l₀ l i n f.filling (entry_none e kept s n g k)

pub ruleset readings = (reading-none, reading-end, reading-all, reading_more, reading_cut, reading_some)

-- ---- handing them over

pub front_handed : (es l : List ℤ) {o : List ℤ} → length es ≤ length l → o ≡ es → o ++ drop (length es) l ≡ sets l 0 es
front_handed es l room e =
    let z : length es ≡ 0 + length es = omega arith in
    ap (λ (w : List ℤ). w ++ drop (length es) l) e ∙ ap (λ (n : ℕ). es ++ drop n l) z ∙ sym (sets-eq es l 0 (omega (arith, room)))

pub record Handing (es : List ℤ) (k : ℕ) (l₀ l : List ℤ) (i : ℕ) : Type 0 where
  pub upto : i ≤ k
  pub room : k ≤ length l₀
  pub long : length l ≡ length l₀
  pub front : l ≡ paste l₀ 0 es i

pub handing_none : (es : List ℤ) (k : ℕ) (l : List ℤ) → k ≤ length l → Handing es k l l 0
handing_none es k l h = record { upto = omega arith; room = h; long = refl; front = paste-zero l 0 es }

module _ (es : List ℤ) (k : ℕ) (l₀ l : List ℤ) (i : ℕ) (f : Handing es k l₀ l i) (there : k ≤ length es) where
  pub handing_more : (d x : ℤ) → i < k → x ≡ get_or es i d → Handing es k l₀ (set l i x) (i + 1)
  handing_more d x h j =
      let z : 0 + i ≡ i = omega arith in
      record {
        upto = omega arith;
        room = f.room;
        long = length-set l i x ∙ f.long;
        front =
            ap (λ (y : ℤ). set l i y) j
            ∙ ap (λ (m : List ℤ). set m i (get_or es i d)) f.front
            ∙ ap (λ (n : ℕ). set (paste l₀ 0 es i) n (get_or es i d)) (sym z)
            ∙ paste-suc l₀ 0 es i d (omega (arith, f.room)) (omega (arith, there))
            ∙ ap (λ (n : ℕ). paste l₀ 0 es n) (sym (add-one i));
      }

  pub handing_end : k ≤ i → l ≡ sets l₀ 0 (take k es)
  handing_end h =
      let z : i ≡ k = omega (arith, f.upto) in
      let long : length (take k es) ≡ k = length-take-le k es there in
      f.front
      ∙ ap (λ (n : ℕ). paste l₀ 0 es n) z
      ∙ ap (λ (n : ℕ). take 0 l₀ ++ take k es ++ drop (0 + n) l₀) (sym long)
      ∙ sym (sets-eq (take k es) l₀ 0 (omega (arith, f.room, long)))

-- ---- reading them into an array, and handing them over from it

-- readings that come to their end gave as many values
pub all_read : {A : Type 0} (one : ℕ → Answer (Taken A)) (k at : ℕ) → Done (λ n. length (all_after one k at) ≡ k) (ends_after one k at)
unfolding ends_after all_after
all_read one zero at = is-done (λ n. length (all_after one 0 at) ≡ 0) refl
all_read one (suc k) at =
    by_then (Done (λ n. length (all_after one (suc k) at) ≡ suc k)) (one at) _
    (λ r g. done-map (λ n q. rw g (ap suc q)) (ends_after one k r.next) (all_read one k r.next))
    (λ x p g. not_done (λ n. length (all_after one (suc k) at) ≡ suc k) x p)

-- the front of an array that they were stored in is they themselves
pub front-is : (es z : List ℤ) (k : ℕ) → length es ≡ k → k ≤ length z → take k (sets z 0 es) ≡ es
front-is es z k e h =
    ap (λ (m : List ℤ). take k m) (sets-eq es z 0 (omega (arith, e))) ∙ take_at es (drop (0 + length es) z) k e

module _ (e : Entry) (kept : Remembered) (k : ℕ) (s : List ℕ) (at : ℕ) where
  pub none_handed : (l : List ℤ) → length l < k → l ≡ list_behind e kept k s at l
  unfolding list_behind handed value_or
  none_handed l h = go (entries_end e kept k s at)
    where
      go : (q : Answer ℕ) → l ≡ value_or l (λ (n : ℕ). pick (leb k (length l)) (sets l 0 (entry_values e kept k s at)) l) q
      go (done n) = rw (lt-leb k (length l) h)
      go (refused x p) = refl

  -- z is the list that they are read into
  module _ (z : List ℤ) (long : length z ≡ k) {t : Result ℕ RefusedAt} (et : answer_at t ≡ entries_end e kept (length z) s at) where
    pub end_handed : {u : Result ℕ RefusedAt} → t ≡ u → answer_at u ≡ entries_end e kept k s at
    end_handed h = sym (ap answer_at h) ∙ (rw long at et)

    pub cut_handed : (l : List ℤ) {x : RefusedAt} → t ≡ Err x → l ≡ list_behind e kept k s at l
    unfolding list_behind answer_at value_or
    cut_handed l h = let so : answer_at t ≡ entries_end e kept k s at = rw long at et in rw (← so, h)

    ended : {m : ℕ} → t ≡ Ok m → entries_end e kept k s at ≡ done m
    unfolding answer_at
    ended h = let so : answer_at t ≡ entries_end e kept k s at = rw long at et in sym so ∙ rw h

    pub all_handed : (l : List ℤ) {es o : List ℤ} {m : ℕ} → t ≡ Ok m → k ≤ length l → es ≡ sets z 0 (entry_values e kept (length z) s at) → o ≡ sets l 0 es → o ≡ list_behind e kept k s at l
    unfolding list_behind handed value_or
    all_handed l {es} h room q j =
        let all = entry_values e kept k s at in
        let many : length all ≡ k = done-of (λ x. length (all_after (entry_at e kept s) k at) ≡ k) (all_read (entry_at e kept s) k at) (ended h) in
        let stored : es ≡ sets z 0 all = rw long at q in
        let whole : sets z 0 all ≡ all = sym (take_all k (sets z 0 all) (omega (arith, length-sets z 0 all, long))) ∙ front-is all z k many (omega (arith, long)) in
        j
        ∙ ap (λ (w : List ℤ). sets l 0 w) (stored ∙ whole)
        ∙ rw (ended h, le-leb k (length l) room)

pub ruleset handed_over = (none_handed, end_handed, cut_handed, all_handed)

-- ---- a count and that many entries

module _ (kept : Remembered) (s : List ℕ) (at : ℕ) {c : Result (Taken ℕ) RefusedAt} (ec : answer_at c ≡ count_at kept s at) {k : Taken ℕ} (g : c ≡ Ok k) where
  count-given : count_at kept s at ≡ done (record { value = k.value; place = k.place; next = k.next })
  unfolding answer_at
  count-given = sym ec ∙ rw g

  pub count_few : k.value ≤ 256
  count_few = (count-shown kept s at count-given).writable

-- ---- characters that are taken as they stand

-- they end so many places behind, and are the bytes themselves
record AsTheyStand (kept : Remembered) (k : ℕ) (s : List ℕ) (at : ℕ) : Type 0 where
  end_is : entries_end ACharacter kept k s at ≡ done (at + k)
  values-are : entry_values ACharacter kept k s at ≡ map pos (take k (drop at s))

character_so : (kept : Remembered) (s : List ℕ) (at : ℕ) → at < length s → is_itself kept.mode (get_or s at 0) ≡ true → entry_at ACharacter kept s at ≡ done (record { value = pos (get_or s at 0); place = at; next = at + 1 })
unfolding entry_at
character_so kept s at h e = rw (itself_taken kept s at h e)

as_they_stand : (kept : Remembered) (k : ℕ) (s : List ℕ) (at : ℕ) → at + k ≤ length s → every (is_itself kept.mode) (take k (drop at s)) ≡ true → AsTheyStand kept k s at
unfolding ends_after all_after every
as_they_stand kept zero s at h e = record { end_is = ap done (omega arith); values-are = refl }
as_they_stand kept (suc k) s at h e =
    let b = get_or s at 0 in
    let d : drop at s ≡ b ∷ drop (at + 1) s = drop-cons s at 0 (omega arith) ∙ rw (add-one at) in
    let q : is_itself kept.mode b && every (is_itself kept.mode) (take k (drop (at + 1) s)) ≡ true = rw d at e in
    let one = character_so kept s at (omega arith) (and_left (is_itself kept.mode b) _ q) in
    let rest = as_they_stand kept k s (at + 1) (omega arith) (and_right (is_itself kept.mode b) _ q) in
    record {
      end_is = rw one (rest.end_is ∙ ap done (omega arith));
      values-are = rw (one, d) (ap (λ (vs : List ℤ). pos b ∷ vs) rest.values-are);
    }

module _ (kept : Remembered) (k : ℕ) (s : List ℕ) (at : ℕ) where
  pub ahead_past : length s < at → false ≡ characters_ahead kept k s at
  unfolding characters_ahead
  ahead_past h = rw (lt-leb (at + k) (length s) (omega arith))

  pub ahead_short : at ≤ length s → length s - at < k → false ≡ characters_ahead kept k s at
  unfolding characters_ahead
  ahead_short h l = rw (lt-leb (at + k) (length s) (omega arith))

  pub ahead_so : {r : Bool} → at ≤ length s → k ≤ length s - at → r ≡ every (is_itself kept.mode) (take (at + k - at) (drop at s)) → r ≡ characters_ahead kept k s at
  unfolding characters_ahead
  ahead_so h l e =
      let z : at + k - at ≡ k = omega arith in
      rw (le-leb (at + k) (length s) (omega arith), ← z) e

  module _ {r : Bool} (er : r ≡ characters_ahead kept k s at) (t : r ≡ true) where
    there : characters_ahead kept k s at ≡ true
    there = sym er ∙ t

    pub ahead_room : at + k ≤ length s
    unfolding characters_ahead
    ahead_room = leb-true (at + k) (length s) (and_left (leb (at + k) (length s)) _ there)

    standing : AsTheyStand kept k s at
    unfolding characters_ahead
    standing = as_they_stand kept k s at ahead_room (and_right (leb (at + k) (length s)) _ there)

pub ruleset aheads = (ahead_past, ahead_short, ahead_so, ahead_room)

-- ---- into the front of the list

pub laying_none : (w : List ℕ) (l : List ℤ) → length w ≤ length l → Handing (map pos w) (length w) l l 0
laying_none w l h = handing_none (map pos w) (length w) l h

module _ (w : List ℕ) (l₀ l : List ℤ) (i : ℕ) (f : Handing (map pos w) (length w) l₀ l i) where
  pub laying_more : (x : ℤ) → i < length w → x ≡ pos (get_or w i 0) → Handing (map pos w) (length w) l₀ (set l i x) (i + 1)
  laying_more x h e =
      handing_more (map pos w) (length w) l₀ l i f (omega (arith, length-map w pos)) (pos 0) x h (e ∙ sym (get_or-map pos w i 0))

  pub laying_end : length w ≤ i → l ≡ sets l₀ 0 (map pos w)
  laying_end h =
      let long : length (map pos w) ≤ length w = omega (arith, length-map w pos) in
      handing_end (map pos w) (length w) l₀ l i f (omega (arith, length-map w pos)) h
      ∙ ap (λ (es : List ℤ). sets l₀ 0 es) (take_all (length w) (map pos w) long)

pub ruleset layings = (laying_none, laying_more, laying_end)

-- ---- so many characters, as they stand

module _ (kept : Remembered) (k : ℕ) (s : List ℕ) (at : ℕ) {r : Bool} (er : r ≡ characters_ahead kept k s at) (t : r ≡ true) where
  so : AsTheyStand kept k s at
  so = standing kept k s at er t

  pub characters-end : answer_at (Ok (at + k)) ≡ entries_end ACharacter kept k s at
  unfolding answer_at
  characters-end = sym so.end_is

  -- the part of the bytes that is laid
  abbrev part : List ℕ
  part = take (at + k - at) (drop at s)

  part-is : part ≡ take k (drop at s)
  part-is = let z : at + k - at ≡ k = omega arith in rw z

  part-long : length part ≡ k
  part-long =
      let room : k ≤ length (drop at s) = omega (arith, length-drop at s, ahead_room kept k s at er t) in
      rw part-is (length-take-le k (drop at s) room)

  pub characters-fit : (l : List ℤ) → k ≤ length l → length (take (at + k - at) (drop at s)) ≤ length l
  characters-fit l h = rw part-long h

  pub characters-laid : (l : List ℤ) {o : List ℤ} → k ≤ length l → o ≡ sets l 0 (map pos (take (at + k - at) (drop at s))) → o ≡ list_behind ACharacter kept k s at l
  unfolding list_behind handed value_or
  characters-laid l h e =
      e ∙ ap (λ (w : List ℕ). sets l 0 (map pos w)) part-is ∙ rw (so.end_is, so.values-are, le-leb k (length l) h)

  pub characters_few : length s < 2 ^ 64 → at + k < 2 ^ 64
  characters_few h = omega (arith, h, ahead_room kept k s at er t)

pub ruleset strings = (ahead_room, characters-end, characters-fit, characters-laid)

-- what holds of characters holds of entries that are characters
module _ (kept : Remembered) (k : ℕ) (s : List ℕ) (at : ℕ) {e : Entry} (g : e ≡ ACharacter) where
  pub kind_end : {q : Answer ℕ} → q ≡ entries_end ACharacter kept k s at → q ≡ entries_end e kept k s at
  kind_end j = rw g j

  pub kind_left : (l : List ℤ) {o : List ℤ} → o ≡ list_behind ACharacter kept k s at l → o ≡ list_behind e kept k s at l
  kind_left l j = rw g j

pub ruleset kinds = (kind_end, kind_left)
