-- The entries of a list, poured one a turn, and the whole command behind them.
use Prim.Native.Nat.{ℕ, ◌+◌, ◌*◌, ◌≤◌, ◌<◌}
use mathlib.Core.Path.{◌≡◌, refl, sym, ◌∙◌, ap}
use mathlib.Core.Bool.{Bool, true, ◌&&◌}
use mathlib.Core.List.{List, [], ◌∷◌, ◌++◌}
use native.Mathlib.Omega.{arith}
use native.Mathlib.Numerals.{add-one}
use borrow.Author.Tests.{le-leb, leb-true}
use lib.Dec.{leb}
use lib.ListN.{length, get_or, take, drop, length-append, length-map, drop_of_length-le}
use lib.Seq.{sets, sets-eq, take-append_seam, length-take-le, drop-cons, length-sets}
use lib.IntN.{ℤ, pos, nat_abs}
use Rattle.memory.specs.declared.DelMode.{DelMode}
use Rattle.memory.specs.declared.Point.{Point}
use Rattle.memory.specs.declared.Remembered.{Remembered}
use Rattle.memory.specs.Memory.{inside, remember}
use Rattle.std.specs.Prelude.{Option, Some, None, Ok}
use Rattle.refusals.specs.Answers.{Answer, answer_of}
use Rattle.refusals.proofs.Cases.{and_left, and_right}
use Rattle.refusals.proofs.Many.{sets_append, every-split}
use Rattle.wire.specs.Sending.{sent, is_plain, poured, room_for, write_at, after_write}
use Rattle.wire.proofs.Sendings.{sent-plain}
use Rattle.wire.proofs.Writings.{outside, accepted, none_changed, standing}
use Rattle.characters.specs.Characters.{as_bytes, low_bytes}
use Rattle.characters.proofs.Entries.{all_bytes}
use Rattle.numbers.specs.Integers.{spell}
use Rattle.numbers.proofs.Shortest.{integer-few}
use Rattle.parameters.specs.declared.Entry.{Entry}
use Rattle.parameters.specs.declared.Entry.TheVariants.{ACharacter}
use Rattle.parameters.specs.declared.Parameters.{Parameters}
use Rattle.parameters.specs.Shapes.{list_of, Pointed, no_point, last, point_meant, Value, number, scaled, place, values_of, tail_of, last_from, last_point}
use Rattle.parameters.specs.Behind.{after_values}
use Rattle.commands.specs.declared.Command.{Command}
use Rattle.writable.specs.Writable.{is_entry, are_entries, are_values, is_tail, fits}
use Rattle.writing.specs.Writing.{spell_entry, spell_entries, spell_command, Poured, most_written}
use Rattle.writing.proofs.Sizes.{tail-kept, bytes-few}

-- ---- entries

pub record Entering (e : Entry) (kept : Remembered) (list : List ℤ) (out₀ out : List ℕ) (at i n : ℕ) : Type 0 where
  pub upto : i ≤ length list
  pub ok : are_entries e (drop i list) ≡ true
  pub few : n ≤ 4 * i
  pub long : length out ≡ length out₀
  pub size : n + length (spell_entries e kept (drop i list)) ≡ length (spell_entries e kept list)
  pub whole : sets out (at + n) (spell_entries e kept (drop i list)) ≡ sets out₀ at (spell_entries e kept list)

pub entering-none : (e : Entry) (kept : Remembered) (list : List ℤ) (out : List ℕ) (at : ℕ) → are_entries e list ≡ true → Entering e kept list out out at 0 0
entering-none e kept list out at h =
    let z : at + 0 ≡ at = omega arith in
    record { upto = omega arith; ok = h; few = omega arith; long = refl; size = omega arith; whole = ap (λ (k : ℕ). sets out k (spell_entries e kept list)) z }

spell-cons : (e : Entry) (kept : Remembered) (v : ℤ) (vs : List ℤ) → spell_entries e kept (v ∷ vs) ≡ spell_entry e kept v ++ spell_entries e kept vs
unfolding spell_entries
spell-cons e kept v vs = refl

module _ (e : Entry) (kept : Remembered) (list : List ℤ) (out₀ out : List ℕ) (at i n : ℕ) (f : Entering e kept list out₀ out at i n) where
  module _ (h : i < length list) where
    abbrev here : ℤ
    here = get_or list i (pos 0)

    cons : drop i list ≡ here ∷ drop (i + 1) list
    cons = drop-cons list i (pos 0) h ∙ rw (add-one i) refl

    oks : (is_entry e here ≡ true) × (are_entries e (drop (i + 1) list) ≡ true)
    oks = every-split (is_entry e) here (drop (i + 1) list) (rw cons at f.ok)

    pub entry_ok : (x : ℤ) → x ≡ get_or list i (pos 0) → is_entry e x ≡ true
    entry_ok x j = ap (is_entry e) j ∙ oks.0

    parts : spell_entries e kept (drop i list) ≡ spell_entry e kept here ++ spell_entries e kept (drop (i + 1) list)
    parts = ap (spell_entries e kept) cons ∙ spell-cons e kept here (drop (i + 1) list)

    pub entering-more : (x : ℤ) {o : List ℕ} {m : ℕ} → Poured (spell_entry e kept x) 4 out o (at + n) m → x ≡ get_or list i (pos 0) → Entering e kept list out₀ o at (i + 1) (n + m)
    entering-more x {o} {m} g j =
        let w = spell_entry e kept here in
        let rest = spell_entries e kept (drop (i + 1) list) in
        let s : m ≡ length w = g.size ∙ ap (λ (y : ℤ). length (spell_entry e kept y)) j in
        let t : o ≡ sets out (at + n) w = g.stand ∙ ap (λ (y : ℤ). sets out (at + n) (spell_entry e kept y)) j in
        let z : at + (n + m) ≡ at + n + length w = omega (arith, s) in
        let l : length (spell_entries e kept (drop i list)) ≡ length w + length rest = ap length parts ∙ length-append w rest in
        record {
          upto = omega arith;
          ok = oks.1;
          few = omega (arith, f.few, g.few);
          long = ap length t ∙ length-sets out (at + n) w ∙ f.long;
          size = omega (arith, f.size, l, s);
          whole =
              ap (λ (k : ℕ). sets o k rest) z ∙ ap (λ (y : List ℕ). sets y (at + n + length w) rest) t
              ∙ sets_append w rest out (at + n) ∙ ap (λ (y : List ℕ). sets out (at + n) y) (sym parts) ∙ f.whole;
        }

  pub entering-end : length list ≤ i → length list ≤ 256 → Poured (spell_entries e kept list) 1024 out₀ out at n
  unfolding spell_entries
  entering-end h k =
      let d : drop i list ≡ [] = drop_of_length-le list h in
      let z : spell_entries e kept (drop i list) ≡ [] = ap (spell_entries e kept) d in
      record {
        size = omega (arith, f.size, ap length z);
        stand = sym (ap (λ (y : List ℕ). sets out (at + n) y) z) ∙ f.whole;
        few = omega (arith, f.few, f.upto);
      }

-- ---- characters that are sent as themselves

characters-spelled : (kept : Remembered) (list : List ℤ) → is_plain kept ≡ true → as_bytes list ≡ spell_entries ACharacter kept list
unfolding spell_entries spell_entry
characters-spelled kept [] p = refl
characters-spelled kept (v ∷ list) p =
    ap (λ (w : List ℕ). w ++ as_bytes list) (sym (sent-plain kept (nat_abs v ∷ []) p))
    ∙ ap (λ (w : List ℕ). sent kept (nat_abs v ∷ []) ++ w) (characters-spelled kept list p)

pub characters_laid : (kept : Remembered) (list : List ℤ) (l o : List ℕ) (at : ℕ) {t : Bool} → t ≡ is_plain kept → t ≡ true → are_entries ACharacter list ≡ true → length list ≤ 256 → o ≡ sets l at (low_bytes list) → Poured (spell_entries ACharacter kept list) 1024 l o at (length list)
characters_laid kept list l o at e h ok few j =
    let s = characters-spelled kept list (sym e ∙ h) in
    let b = all_bytes 32 list ok in
    record { size = sym (length-map list nat_abs) ∙ ap length s; stand = j ∙ ap (λ (y : List ℕ). sets l at y) (b ∙ s); few = omega arith }

-- ---- a counted list

module _ (e : Entry) (kept : Remembered) (list : List ℤ) (h : is_tail (list_of e) list ≡ true) where
  few-entries : leb (length list) 256 ≡ true
  unfolding is_tail
  few-entries = and_left (leb (length list) 256) (are_entries e list) h

  pub list_few : length list ≤ 256
  list_few = leb-true (length list) 256 few-entries

  pub list_ok : are_entries e list ≡ true
  unfolding is_tail
  list_ok = and_right (leb (length list) 256) (are_entries e list) h

  count-is : poured (leb (length list) 256) (sent kept (spell (pos (length list)))) ≡ sent kept (spell (pos (length list)))
  unfolding poured
  count-is = rw few-entries

  count_long : length (poured (leb (length list) 256) (sent kept (spell (pos (length list))))) ≤ 4
  count_long = rw count-is (integer-few kept (pos (length list)) (le-leb (length list) 32767 (omega (arith, list_few))))

  pub count-few : {n : ℕ} → n ≡ length (poured (leb (length list) 256) (sent kept (spell (pos (length list))))) → n ≤ 4
  count-few e = rw e count_long

-- ---- what is remembered: the last point

remembered : Remembered → Pointed → Remembered
remembered kept no_point = kept
remembered kept (last p) = remember kept p

after-from : (kept : Remembered) (b : Pointed) (vs : List Value) → after_values (remembered kept b) vs ≡ remembered kept (last_from b vs)
unfolding after_values remembered
after-from kept b [] = refl
after-from kept b (number e v ∷ vs) = after-from kept b vs
after-from kept b (scaled m x ∷ vs) = after-from kept b vs
after-from kept no_point (place p ∷ vs) = after-from kept (last p) vs
after-from kept (last q) (place p ∷ vs) = after-from kept (last p) vs

module _ (kept : Remembered) (vs : List Value) {b : Option Point} (eb : point_meant b ≡ last_point vs) where
  pub kept-last : {p : Point} {k : Remembered} → b ≡ Some p → k ≡ remember kept p → k ≡ after_values kept vs
  unfolding remembered
  kept-last g j = sym (after-from kept no_point vs ∙ rw (← eb, g, j))

  pub kept_before : b ≡ None → kept ≡ after_values kept vs
  unfolding remembered
  kept_before g = sym (after-from kept no_point vs ∙ rw (← eb, g))

-- ---- the whole command

module _ (kept : Remembered) (ps : Parameters) (es : List ℤ) (h : fits kept ps es ≡ true) where
  rest : are_values (values_of ps) && is_tail (tail_of ps) es ≡ true
  unfolding fits
  rest = and_right (inside kept.point) (are_values (values_of ps) && is_tail (tail_of ps) es) h

  pub command-inside : inside kept.point ≡ true
  unfolding fits
  command-inside = and_left (inside kept.point) (are_values (values_of ps) && is_tail (tail_of ps) es) h

  pub command-values : are_values (values_of ps) ≡ true
  command-values = and_left (are_values (values_of ps)) (is_tail (tail_of ps) es) rest

  pub command-tail : is_tail (tail_of ps) es ≡ true
  command-tail = and_right (are_values (values_of ps)) (is_tail (tail_of ps) es) rest

-- ESC and the letters, each as it stands
pub head_stored : (l : List ℕ) (a b : ℕ) {m₁ m₂ o : List ℕ} → m₁ ≡ sets l (0 + 0) (27 ∷ []) → m₂ ≡ sets m₁ (0 + 1) (a ∷ []) → o ≡ sets m₂ (0 + 2) (b ∷ []) → o ≡ sets l 0 (27 ∷ a ∷ b ∷ [])
head_stored l a b e f g = g ∙ rw (f, e)

-- ---- written, or refused

pub all_written : (kept : Remembered) (c : Command) (es : List ℤ) (l o : List ℕ) {m : DelMode} {size most : ℕ} (room : ℕ) → fits kept c.parameters es ≡ true → Poured (spell_command kept c es) 1043 l o 0 size → m ≡ kept.mode → most ≡ most_written m → most ≤ room → answer_of (Ok size) ≡ write_at (spell_command kept c es) room 0
unfolding write_at room_for answer_of
all_written kept c es l o {m} {size} {most} room h f em e k =
    let n : 0 + length (spell_command kept c es) ≡ size = omega (arith, f.size) in
    let q : most ≡ most_written kept.mode = e ∙ ap most_written em in
    rw (n, le-leb size room (omega (arith, k, q, bytes-few kept c es (command-tail kept c.parameters es h) f)))

pub stands-written : (w : List ℕ) (l o : List ℕ) (n k r : ℕ) → Poured w k l o 0 r → o ≡ after_write (answer_of (Ok n)) w l 0
unfolding after_write answer_of
stands-written w l o n k r f = f.stand

-- what was poured where there is room for all of it, taken from there
pub taken_back : (w l o : List ℕ) (k r : ℕ) → Poured w k l o 0 r → k ≤ length l → take r o ≡ w
taken_back w l o k r f h =
    let e : o ≡ w ++ drop (0 + length w) l = f.stand ∙ sets-eq w l 0 (omega (arith, f.size, f.few)) in
    rw (f.size, e) (take-append_seam w (drop (0 + length w) l))

pub front_long : (w l o : List ℕ) (k r : ℕ) → Poured w k l o 0 r → k ≤ length l → length (take r o) ≡ r
front_long w l o k r f h = length-take-le r o (omega (arith, f.few, ap length f.stand, length-sets l 0 w))

pub answer_same : (w : List ℕ) (room : ℕ) {v : List ℕ} {q : Answer ℕ} → v ≡ w → q ≡ write_at v room 0 → q ≡ write_at w room 0
answer_same w room e j = rw (← e) j

pub ruleset turns = (entering-none, entry_ok, entering-end)

pub ruleset lists = (count-few, list_few, list_ok)

pub ruleset commands = (command-inside, command-values, command-tail, tail-kept)

pub ruleset sendings = (taken_back, front_long, answer_same, standing)
