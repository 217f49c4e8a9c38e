-- The other way: what reads as a report is what the writer gives for it, minus nought aside.
use Prim.Native.Nat.{ℕ, zero, suc, ◌+◌, ◌-◌, ◌*◌, ◌/◌, ◌%◌, ◌≤◌, ◌<◌}
use mathlib.Core.Path.{◌≡◌, refl, sym, ◌∙◌, ap}
use mathlib.Core.Bool.{Bool, true, false}
use mathlib.Core.List.{List, [], ◌∷◌, map}
use mathlib.Core.Logic.{◌⊎◌, inl, inr, ⊎_elim}
use native.Mathlib.Omega.{arith}
use native.Mathlib.Decide.{ℕ_discrete}
use borrow.Author.Tests.{le-leb, ltb-true, ltb-false, leb-true}
use lib.Dec.{ltb, leb}
use lib.ListN.{length, get_or, take, drop, length-map, length-drop}
use lib.Seq.{get_or-take, get_or-drop, length-take-le}
use lib.IntN.{ℤ, pos, negsuc, nat_abs}
use Rattle.refusals.specs.declared.Taken.{Taken}
use Rattle.refusals.specs.Answers.{every, Answer, done, refused, ends_after}
use Rattle.refusals.proofs.Cases.{by_pick, by_then, Done, done-of, done-map, is-done, not_done, zero_one}
use Rattle.wire.proofs.Feeds.{Stands}
use Rattle.signs.specs.Signs.{signed_of, is_negative}
use Rattle.numbers.specs.Integers.{low_of}
use Rattle.numbers.specs.Counts.{as_count, count_in}
use Rattle.characters.specs.Characters.{is_character, are_characters, as_bytes}
use Rattle.reports.specs.declared.TakenString.{TakenString}
use Rattle.reports.specs.Reading.{byte_within, report_from, report_at, characters_end, string_at, entries_at}
use Rattle.reports.specs.Writing.{spell_report_of, spell_report, is_report, is_string}
use Rattle.reports.proofs.Stepping.{stood_of, run-within, three, Three, behind}
use Rattle.reports.proofs.Filling.{next-entry}

-- a number of a magnitude and a sign has these again, but for minus nought
sign_kept : (m : ℕ) (t : Bool) → (m ≡ 0 → t ≡ false) → (nat_abs (signed_of m t) ≡ m) × (is_negative (signed_of m t) ≡ t)
sign_kept zero true h = let e = h refl in (refl, sym e)
sign_kept (suc m) true h = (refl, refl)
sign_kept m false h = (refl, refl)

size-kept : (m : ℕ) (t : Bool) → nat_abs (signed_of m t) ≡ m
size-kept zero true = refl
size-kept (suc m) true = refl
size-kept m false = refl

-- what the three bytes were, of what reads as v
pub record Shown (s : List ℕ) (at : ℕ) (r : Taken ℤ) : Type 0 where
  pub writable : is_report r.value ≡ true
  pub three : r.next ≡ at + 3
  pub bytes : Stands s at (spell_report r.value) ⊎ (Stands s at (32 ∷ 32 ∷ 32 ∷ []) × (r.value ≡ pos 0))

-- three bytes stand where they are read
stands-three : (s : List ℕ) (at a b c : ℕ) → at + 2 < length s → a ≡ get_or s at 0 → b ≡ get_or s (at + 1) 0 → c ≡ get_or s (at + 2) 0 → Stands s at (a ∷ b ∷ c ∷ [])
stands-three s at a b c h ea eb ec = record { room = omega arith; same = same }
  where
    same : (i : ℕ) → i < 3 → get_or s (at + i) 0 ≡ get_or (a ∷ b ∷ c ∷ []) i 0
    same zero l = let z : at + 0 ≡ at = omega arith in ap (λ (k : ℕ). get_or s k 0) z ∙ sym ea
    same (suc zero) l = sym eb
    same (suc (suc zero)) l = sym ec
    same (suc (suc (suc i))) l = absurd (omega arith)

module _ (a b c : ℕ) (la : 32 ≤ a) (ha : a ≤ 95) (lb : 32 ≤ b) (hb : b ≤ 95) (lc : 32 ≤ c) (hc : c ≤ 63) where
  abbrev m : ℕ
  m = (a - 32) * 1024 + (b - 32) * 16 + c % 16

  most : m ≤ 65535
  most = omega arith

  first : 32 + m / 1024 ≡ a
  first = omega arith

  second : 32 + m / 16 % 64 ≡ b
  second = omega arith

  low : (t : Bool) → ltb c 48 ≡ t → low_of m t ≡ c
  low true e = let h = ltb-true c 48 e in omega arith
  low false e = let h = ltb-false c 48 e in omega arith

  spelled : (t : Bool) → ltb c 48 ≡ t → spell_report_of m t ≡ a ∷ b ∷ c ∷ []
  spelled t e = rw (first, second, low t e)

  zero_true : m ≡ 0 → c < 48 → (a ≡ 32) × ((b ≡ 32) × (c ≡ 32))
  zero_true e h = (omega arith, (omega arith, omega arith))

  -- the bytes are those of the number, or those of minus nought
  bytes_of : (s : List ℕ) (at : ℕ) (t : Bool) → ltb c 48 ≡ t → Stands s at (a ∷ b ∷ c ∷ []) → Stands s at (spell_report (signed_of m t)) ⊎ (Stands s at (32 ∷ 32 ∷ 32 ∷ []) × (signed_of m t ≡ pos 0))
  bytes_of s at false e st = inl (rw (spelled false e) st)
  bytes_of s at true e st = by (ℕ_discrete m 0)
    where
      by : Dec (m ≡ 0) → Stands s at (spell_report (signed_of m true)) ⊎ (Stands s at (32 ∷ 32 ∷ 32 ∷ []) × (signed_of m true ≡ pos 0))
      by (yes z) =
          let q = zero_true z (ltb-true c 48 e) in
          inr (rw (q.0, q.1.0, q.1.1) at st, ap (λ (k : ℕ). signed_of k true) z)
      by (no z) =
          let q = sign_kept m true (λ w. absurd (z w)) in
          inl (rw (q.0, q.1, spelled true e) st)

report_good : (s : List ℕ) (at : ℕ) → Done (Shown s at) (report_at s at)
unfolding report_at report_from
report_good s at =
    by_pick (Done (Shown s at)) (ltb (length s) at) _ _
    (λ t. not_done (Shown s at) 8 0)
    (λ t. by_then (Done (Shown s at)) (byte_within 32 95 s at) _
    (λ a f. by_then (Done (Shown s at)) (byte_within 32 95 s a.next) _
    (λ b g. by_then (Done (Shown s at)) (byte_within 32 63 s b.next) _
    (λ c h.
    let x = stood_of 32 95 s at f in
    let y = stood_of 32 95 s a.next g in
    let z = stood_of 32 63 s b.next h in
    let n : b.next ≡ at + 2 = omega (arith, x.next-is, y.next-is) in
    let eb : b.value ≡ get_or s (at + 1) 0 = y.here ∙ ap (λ (k : ℕ). get_or s k 0) x.next-is in
    let ec : c.value ≡ get_or s (at + 2) 0 = z.here ∙ ap (λ (k : ℕ). get_or s k 0) n in
    let st = stands-three s at a.value b.value c.value (omega (arith, n, z.inside)) x.here eb ec in
    is-done (Shown s at) (record {
      writable = rw (size-kept (m a.value b.value c.value x.low x.high y.low y.high z.low z.high) (ltb c.value 48)) (le-leb _ 65535 (most a.value b.value c.value x.low x.high y.low y.high z.low z.high));
      three = omega (arith, n, z.next-is);
      bytes = bytes_of a.value b.value c.value x.low x.high y.low y.high z.low z.high s at (ltb c.value 48) refl st;
    }))
    (λ e p h. not_done (Shown s at) e p))
    (λ e p g. not_done (Shown s at) e p))
    (λ e p f. not_done (Shown s at) e p))

pub report_shown : (s : List ℕ) (at : ℕ) {r : Taken ℤ} → report_at s at ≡ done r → Shown s at r
report_shown s at e = done-of (Shown s at) (report_good s at) e

-- ---- string reports

characters-of : (n : ℕ) → 32 ≤ n → n ≤ 127 → is_character (pos n) ≡ true
characters-of n l h = rw (le-leb 32 n l, le-leb n 127 h)

abbrev AllCharacters : List ℕ → ℕ → ℕ → ℕ → Type 0
AllCharacters s k at n = are_characters (entries_at k s at) ≡ true

run-characters : (k : ℕ) (s : List ℕ) (at : ℕ) → Done (AllCharacters s k at) (characters_end k s at)
unfolding ends_after every
run-characters zero s at = is-done (AllCharacters s 0 at) refl
run-characters (suc k) s at =
    by_then (Done (AllCharacters s (suc k) at)) (byte_within 32 127 s at) _
    (λ c g.
    let x = stood_of 32 127 s at g in
    let e : get_or s at 0 ≡ c.value = sym x.here in
    let ok : is_character (pos (get_or s at 0)) ≡ true = rw e (characters-of c.value x.low x.high) in
    done-map (λ n q. rw (next-entry k s at x.inside, ok, ← x.next-is) q) (characters_end k s c.next) (run-characters k s c.next))
    (λ e p g. not_done (AllCharacters s (suc k) at) e p)

part-stands : (k : ℕ) (s : List ℕ) (at : ℕ) → at + k ≤ length s → Stands s at (take k (drop at s))
part-stands k s at h =
    let l : length (take k (drop at s)) ≡ k = length-take-le k (drop at s) (omega (arith, length-drop at s)) in
    record {
      room = rw l h;
      same = λ i q. sym (get_or-take k (drop at s) i 0 (omega arith) ∙ get_or-drop at s i 0);
    }

same_bytes : (l : List ℕ) → as_bytes (map pos l) ≡ l
same_bytes [] = refl
same_bytes (b ∷ l) = ap (λ (m : List ℕ). b ∷ m) (same_bytes l)

-- what reads as a string: its entries can be written, and stand as they are written behind a length that is written so, or is minus nought
pub record Text (s : List ℕ) (at : ℕ) (r : TakenString) : Type 0 where
  pub heading : Stands s at (spell_report (pos r.count)) ⊎ (Stands s at (32 ∷ 32 ∷ 32 ∷ []) × (r.count ≡ 0))
  pub writable : is_string (entries_at r.count s (at + 3)) ≡ true
  pub number : length (entries_at r.count s (at + 3)) ≡ r.count
  pub stand : Stands s (at + 3) (as_bytes (entries_at r.count s (at + 3)))
  pub next-is : r.next ≡ at + 3 + r.count

count_most : (most : ℕ) (a : Answer (Taken ℤ)) → Done (λ (r : Taken ℕ). r.value ≤ most) (count_in most a)
unfolding count_in
count_most most a =
    by_then Few a (as_count most)
    (λ i e. by_pick Few (is_negative i.value) _ _
    (λ t. not_done (λ (r : Taken ℕ). r.value ≤ most) 5 i.place)
    (λ t. by_pick Few (leb (nat_abs i.value) most) _ _
    (λ u. is-done (λ (r : Taken ℕ). r.value ≤ most) (leb-true (nat_abs i.value) most u))
    (λ u. not_done (λ (r : Taken ℕ). r.value ≤ most) 5 i.place)))
    (λ x p e. not_done (λ (r : Taken ℕ). r.value ≤ most) x p)
  where
    Few : Answer (Taken ℕ) → Type 0
    Few = Done (λ (r : Taken ℕ). r.value ≤ most)

-- a count was read as that integer
count_of : (most : ℕ) (a : Answer (Taken ℤ)) → Done (λ (c : Taken ℕ). (i : Taken ℤ) × ((a ≡ done i) × (i.value ≡ pos c.value))) (count_in most a)
unfolding count_in
count_of most (done i) =
    by_pick (Done P) (is_negative i.value) _ _
    (λ t. not_done P 5 i.place)
    (λ t. by_pick (Done P) (leb (nat_abs i.value) most) _ _
    (λ u. is-done P (i, (refl, plain i.value t)))
    (λ u. not_done P 5 i.place))
  where
    P : Taken ℕ → Type 0
    P c = (j : Taken ℤ) × ((done i ≡ done j) × (j.value ≡ pos c.value))

    plain : (v : ℤ) → is_negative v ≡ false → v ≡ pos (nat_abs v)
    plain (pos n) e = refl
    plain (negsuc n) e = let k : ◌≡◌ {A = ℕ} 0 1 = cc in absurd (zero_one k)
count_of most (refused e p) = not_done (λ (c : Taken ℕ). (i : Taken ℤ) × ((refused e p ≡ done i) × (i.value ≡ pos c.value))) e p

heading_of : (s : List ℕ) (at : ℕ) {c : Taken ℕ} → count_in 256 (report_at s at) ≡ done c → Stands s at (spell_report (pos c.value)) ⊎ (Stands s at (32 ∷ 32 ∷ 32 ∷ []) × (c.value ≡ 0))
heading_of s at {c} e = from (done-of (λ (c : Taken ℕ). (i : Taken ℤ) × ((report_at s at ≡ done i) × (i.value ≡ pos c.value))) (count_of 256 (report_at s at)) e)
  where
    from : (i : Taken ℤ) × ((report_at s at ≡ done i) × (i.value ≡ pos c.value)) → Stands s at (spell_report (pos c.value)) ⊎ (Stands s at (32 ∷ 32 ∷ 32 ∷ []) × (c.value ≡ 0))
    from (i, (q, v)) =
        ⊎_elim
        (λ (st : Stands s at (spell_report i.value)). inl (rw v at st))
        (λ (z : Stands s at (32 ∷ 32 ∷ 32 ∷ []) × (i.value ≡ pos 0)). inr (z.0, let w : pos c.value ≡ pos 0 = sym v ∙ z.1 in cc))
        (report_shown s at q).bytes

module _ (s : List ℕ) (at k n : ℕ) (head : Stands s at (spell_report (pos k)) ⊎ (Stands s at (32 ∷ 32 ∷ 32 ∷ []) × (k ≡ 0))) (few : k ≤ 256) (fit : at + 3 ≤ length s) (e : characters_end k s (at + 3) ≡ done n) where
  ends : (n ≡ at + 3 + k) × (at + 3 + k ≤ length s)
  ends = run-within k s (at + 3) n fit e

  long : length (entries_at k s (at + 3)) ≡ k
  long =
      length-map (take k (drop (at + 3) s)) pos
      ∙ length-take-le k (drop (at + 3) s) (let h = ends in omega (arith, h.1, length-drop (at + 3) s))

  text : Text s at (record { count = k; next = n })
  unfolding is_string
  text = record {
    heading = head;
    writable = rw (long, le-leb k 256 few) (done-of (AllCharacters s k (at + 3)) (run-characters k s (at + 3)) e);
    number = long;
    stand = rw (same_bytes (take k (drop (at + 3) s))) (part-stands k s (at + 3) ends.1);
    next-is = ends.0;
  }

string_good : (s : List ℕ) (at room : ℕ) → Done (Text s at) (string_at s at room)
unfolding string_at Three
string_good s at room =
    by_then (Done (Text s at)) (count_in 256 (report_at s at)) _
    (λ c e.
    let q = done-of (λ (r : Taken ℕ). (r.next ≡ at + 3) × (at + 3 ≤ length s)) (behind 256 (λ m. (m ≡ at + 3) × (at + 3 ≤ length s)) (report_at s at) (three s at)) e in
    let few = done-of (λ (r : Taken ℕ). r.value ≤ 256) (count_most 256 (report_at s at)) e in
    by_then (Done (Text s at)) (characters_end c.value s c.next) _
    (λ n g. by_pick (Done (Text s at)) (leb c.value room) _ _
    (λ t. is-done (Text s at) (text s at c.value n (heading_of s at e) few q.1 (rw q.0 at g)))
    (λ t. not_done (Text s at) 7 at))
    (λ x p g. not_done (Text s at) x p))
    (λ x p e. not_done (Text s at) x p)

pub string_shown : (s : List ℕ) (at room : ℕ) {r : TakenString} → string_at s at room ≡ done r → Text s at r
string_shown s at room e = done-of (Text s at) (string_good s at room) e
