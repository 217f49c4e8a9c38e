-- The functions that read a store, by what their parts gave.
use Prim.Native.Nat.{ℕ, ◌+◌, ◌-◌, ◌*◌, ◌/◌, ◌%◌, ◌≤◌, ◌<◌}
use mathlib.Core.Path.{◌≡◌, refl, sym, ◌∙◌, ap, subst}
use mathlib.Core.Bool.{Bool, true, false, ◌&&◌}
use mathlib.Core.List.{List, [], ◌∷◌}
use native.Mathlib.Nat.{add-zero}
use native.Mathlib.Omega.{arith}
use borrow.Author.Tests.{le-leb, lt-leb, ltb-true, ltb-false}
use borrow.Author.Rules.{Fits-under}
use mir.Syntax.{w64}
use mir.Val.{Fits}
use lib.Dec.{leb, ltb}
use lib.ListN.{length, get_or, take, drop, length-drop}
use lib.Seq.{get_or-drop, drop-drop, take_all}
use Rattle.refusals.specs.Answers.{every, pick}
use Rattle.refusals.proofs.Cases.{by_pick, bool_apart}
use Rattle.macros.specs.declared.EntryAt.{EntryAt}
use Rattle.macros.specs.declared.Gap.{Gap}
use Rattle.std.specs.Prelude.{Option, Some, None}
use Rattle.macros.specs.Store.{Entry, Layout, three_in, three_bytes, size_of, at_most, are_body, body_in, is_store_entry, entries, below, well_formed, has_body}
use Rattle.macros.specs.Fronts.{Bytes, LengthIs, EntryIs, FrontIs, GapIs, FormedIs, SurveyIs, gap_behind}
use Rattle.macros.proofs.Layouts.{Lawful, three-size, three-longest, three-lawful}
use Rattle.macros.proofs.Reading.{stands, body-long, entry_in, rest_from, rest_all, rest_none, rest_one, size-cons, size-nil, keep-yes, keep-no, keep-nil, and_no}

-- ---- a header

-- the number in the header at the front of the bytes d
pub record NumberIs (L : Layout) (d : List ℕ) (n : ℕ) : Type 0 where
  pub number : n ≡ L.number_in d
  pub spare : L.spare_zero d ≡ true
  pub small : n ≤ 32767

three-at : (s : List ℕ) (at : ℕ) → get_or s at 0 * 65536 + get_or s (at + 1) 0 * 256 + get_or s (at + 2) 0 ≡ three_in (drop at s)
three-at s at = rw (get_or-drop at s 0 0, add-zero at, get_or-drop at s 1 0, get_or-drop at s 2 0)

pub number-so : (s : List ℕ) (at : ℕ) {a b : ℕ} → Bytes s → a ≡ get_or s at 0 → b ≡ get_or s (at + 1) 0 → NumberIs three_bytes (drop at s) (a * 128 + b / 2)
unfolding three_bytes Bytes
number-so s at {a} {b} bytes ea eb =
    let n : a * 128 + b / 2 ≡ three_in (drop at s) / 512 = omega (arith, three-at s at, ea, eb, bytes at, bytes (at + 1), bytes (at + 2)) in
    record { number = n; spare = refl; small = omega (arith, ea, eb, bytes at, bytes (at + 1)) }

pub ninth_bit : (s : List ℕ) (at : ℕ) {b c : ℕ} → 0 < b % 2 → b ≡ get_or s (at + 1) 0 → c ≡ get_or s (at + 2) 0 → c ≤ 255 → LengthIs three_bytes (drop at s) (256 + c)
unfolding three_bytes
ninth_bit s at h eb ec hc = record { long = omega (arith, three-at s at, eb, ec, hc, h) }

pub eight_bits : (s : List ℕ) (at : ℕ) {b c : ℕ} → b % 2 ≤ 0 → b ≡ get_or s (at + 1) 0 → c ≡ get_or s (at + 2) 0 → c ≤ 255 → LengthIs three_bytes (drop at s) c
unfolding three_bytes
eight_bits s at h eb ec hc = record { long = omega (arith, three-at s at, eb, ec, hc, h) }

-- ---- a header with room for its body, test by test

module _ (L : Layout) (s : List ℕ) (at : ℕ) where
  -- bytes for a header that are not there
  pub no_room : {size : ℕ} → size ≡ L.size → length s - at < size → FrontIs L (has_body L) s at None
  unfolding FrontIs has_body
  no_room e h = rw (lt-leb L.size (length (drop at s)) (omega (arith, e, length-drop at s)))

  module _ {k : ℕ} (body : LengthIs L (drop at s) k) where
    pub no_body : k < 1 → FrontIs L (has_body L) s at None
    unfolding FrontIs has_body
    no_body h = rw (lt-leb 1 (L.length_in (drop at s)) (omega (arith, body.long))) (simp and_no)

    pub cut_off : {size : ℕ} → size ≡ L.size → at + size ≤ length s → length s - at - size < k → FrontIs L (has_body L) s at None
    unfolding FrontIs has_body
    cut_off e g h = rw (lt-leb (L.size + L.length_in (drop at s)) (length (drop at s)) (omega (arith, e, body.long, length-drop at s))) (simp and_no)

    pub a_head : {n size : ℕ} → NumberIs L (drop at s) n → size ≡ L.size → at + size ≤ length s → 1 ≤ k → k ≤ length s - at - size → FrontIs L (has_body L) s at (Some (record { number = n; from = at + size; to = at + size + k }))
    unfolding FrontIs has_body
    a_head is e h₁ h₂ h₃ =
        let d = drop at s in
        let l = body.long in
        let m = length-drop at s in
        record {
          is = simp (
            le-leb L.size (length d) (omega (arith, e, m)),
            le-leb 1 (L.length_in d) (omega (arith, l)),
            le-leb (L.size + L.length_in d) (length d) (omega (arith, e, l, m)),
          );
          here = is.number;
          begins = omega (arith, e);
          ends = omega (arith, l);
          spare = is.spare;
          some = omega (arith, h₂);
          small = is.small;
          inside = omega (arith, h₃, h₁);
        }

pub ruleset headers = (three-size, no_room, ninth_bit, eight_bits)

pub ruleset heads = (three-size, no_body, cut_off, a_head, number-so)

-- ---- what passes a test at a place

module _ (L : Layout) (passes : List ℕ → Bool) (s : List ℕ) (at : ℕ) (r : Option EntryAt) (is : FrontIs L passes s at r) where
  pub entry_of : {x : EntryAt} → r ≡ Some x → EntryIs L passes s at x.number x.from x.to
  unfolding FrontIs
  entry_of g = rw g at is

  pub none_of : r ≡ None → passes (drop at s) ≡ false
  unfolding FrontIs
  none_of g = rw g at is

  module _ {x : EntryAt} (g : r ≡ Some x) where
    pub closer : length s - x.to < length s - at
    closer = let y = entry_of g in omega (arith, y.begins, y.some, y.inside)

    pub inside_of : x.to ≤ length s
    inside_of = (entry_of g).inside

    pub next_of : Fits w64 (x.number + 1)
    next_of = Fits-under w64 (x.number + 1) 32769 (omega (arith, (entry_of g).small)) tt

    pub from-of : x.from ≤ x.to
    from-of = omega (arith, (entry_of g).some)

    pub body_of : take (x.to - x.from) (drop x.from s) ≡ body_in L (drop at s)
    body_of =
        let y = entry_of g in
        let l : x.to - x.from ≡ L.length_in (drop at s) = omega (arith, y.ends) in
        rw (l, y.begins, drop-drop)

pub ruleset passings = (closer, inside_of, next_of, from-of)

-- ---- an entry, by its header and two tests more

headless : (a b c more rest : Bool) → a && (b && c) ≡ false → a && (b && (more && (c && rest))) ≡ false
headless true true true more rest e = absurd (bool_apart (sym e))
headless true true false more rest e = and_no more
headless true false c more rest e = refl
headless false b c more rest e = refl

module _ (L : Layout) (s : List ℕ) (at least : ℕ) (r : Option EntryAt) (is : FrontIs L (has_body L) s at r) where
  pub no_head : r ≡ None → FrontIs L (is_store_entry L least) s at None
  unfolding FrontIs is_store_entry has_body
  no_head e =
      let d = drop at s in
      headless (leb L.size (length d)) (leb 1 (L.length_in d)) (leb (L.size + L.length_in d) (length d)) (leb (L.length_in d) L.longest) (L.spare_zero d && (leb least (L.number_in d) && are_body (body_in L d)))
      (none_of L (has_body L) s at r is e)

  module _ {x : EntryAt} (g : r ≡ Some x) where
    head : EntryIs L (has_body L) s at x.number x.from x.to
    head = entry_of L (has_body L) s at r is g

    pub too_long : {longest : ℕ} → longest ≡ L.longest → longest < x.to - x.from → FrontIs L (is_store_entry L least) s at None
    unfolding FrontIs is_store_entry
    too_long e h = rw (lt-leb (L.length_in (drop at s)) L.longest (omega (arith, e, h, head.ends))) (simp and_no)

    pub too_low : x.number < least → FrontIs L (is_store_entry L least) s at None
    unfolding FrontIs is_store_entry
    too_low h = rw (lt-leb least (L.number_in (drop at s)) (omega (arith, h, head.here))) (simp and_no)

    module _ {b : Bool} (eb : b ≡ every (at_most 127) (take (x.to - x.from) (drop x.from s))) where
      body-there : b ≡ are_body (body_in L (drop at s))
      body-there = eb ∙ ap (every (at_most 127)) (body_of L (has_body L) s at r is g)

      pub not_body : b ≡ false → FrontIs L (is_store_entry L least) s at None
      unfolding FrontIs is_store_entry
      not_body t = rw (sym body-there ∙ t) (simp and_no)

      pub an_entry : b ≡ true → {longest : ℕ} → longest ≡ L.longest → x.to - x.from ≤ longest → least ≤ x.number → FrontIs L (is_store_entry L least) s at (Some x)
      unfolding FrontIs is_store_entry
      an_entry t el h₁ h₂ =
          let d = drop at s in
          let y = head in
          let m = length-drop at s in
          record {
            is = simp (
              le-leb L.size (length d) (omega (arith, m, y.begins, y.some, y.inside)),
              le-leb 1 (L.length_in d) (omega (arith, y.ends, y.some)),
              le-leb (L.length_in d) L.longest (omega (arith, y.ends, el, h₁)),
              le-leb (L.size + L.length_in d) (length d) (omega (arith, m, y.begins, y.ends, y.some, y.inside)),
              y.spare,
              le-leb least (L.number_in d) (omega (arith, h₂, y.here)),
              sym body-there ∙ t,
            );
            here = y.here;
            begins = y.begins;
            ends = y.ends;
            spare = y.spare;
            some = y.some;
            small = y.small;
            inside = y.inside;
          }

pub ruleset fronts = (three-longest, from-of, inside_of, no_head, too_long, too_low, not_body, an_entry)

-- ---- passing entries

module _ (L : Layout) (s : List ℕ) (at least : ℕ) (r : Option EntryAt) (is : FrontIs L (is_store_entry L least) s at r) {x : EntryAt} (g : r ≡ Some x) where
  here : EntryIs L (is_store_entry L least) s at x.number x.from x.to
  here = entry_of L (is_store_entry L least) s at r is g

  -- what is left of the store from here on: this entry, and what is left behind it
  pub rest_of : rest_from L s at least ≡ entry_in L (drop at s) ∷ rest_from L s x.to (x.number + 1)
  rest_of =
      let p : at + L.size + L.length_in (drop at s) ≡ x.to = omega (arith, here.begins, here.ends) in
      rest_one L s at least here.is ∙ rw (p, ← here.here)

  pub long_of : length (body_in L (drop at s)) ≡ x.to - x.from
  long_of = body-long L least (drop at s) here.is ∙ omega (arith, here.ends)

-- ---- where a macro stands among the entries passed

-- the bytes of the entries below a number are those passed, and those of what is left; all passed are below it, as long as the next may be
pub record Passing (L : Layout) (s : List ℕ) (number least at end : ℕ) : Type 0 where
  pub left : at + size_of L (below number (rest_from L s end least)) ≡ size_of L (below number (entries L s))
  pub here : least ≤ number → at ≡ end

pub record Surveying (L : Layout) (s : List ℕ) (number : ℕ) (g : Gap) (least : ℕ) : Type 0 where
  pub inside : g.end ≤ length s
  pub low : Passing L s number least g.at g.end
  pub upto : Passing L s (number + 1) least g.old g.end
  pub all : g.end + size_of L (rest_from L s g.end least) ≡ size_of L (entries L s)
  pub forth : g.at ≤ g.old
  pub further : g.old ≤ g.end

passing : (L : Layout) (s : List ℕ) (number : ℕ) → Passing L s number 0 0 0
passing L s number = record { left = rw (rest_all L s) (omega arith); here = λ h. refl }

pub surveying : (L : Layout) (s : List ℕ) (number : ℕ) → Surveying L s number (record { at = 0; old = 0; end = 0 }) 0
surveying L s number = record {
  inside = omega arith;
  low = passing L s number;
  upto = passing L s (number + 1);
  all = rw (rest_all L s) (omega arith);
  forth = omega arith;
  further = omega arith;
}

-- none is left
module _ (L : Layout) (s : List ℕ) (at least : ℕ) (none : rest_from L s at least ≡ []) where
  passed_all : (number x : ℕ) → Passing L s number least x at → x ≡ size_of L (below number (entries L s))
  passed_all number x p =
      let e : size_of L (below number (rest_from L s at least)) ≡ 0 = ap (λ (es : List Entry). size_of L (below number es)) none ∙ ap (size_of L) (keep-nil _) ∙ size-nil L in
      omega (arith, e, p.left)

-- one more
module _ (L : Layout) (lawful : Lawful L) (s : List ℕ) (at least : ℕ) (r : Option EntryAt) (is : FrontIs L (is_store_entry L least) s at r) {en : EntryAt} (g : r ≡ Some en) where
  passed : EntryIs L (is_store_entry L least) s at en.number en.from en.to
  passed = entry_of L (is_store_entry L least) s at r is g

  abbrev first : Entry
  first = entry_in L (drop at s)

  abbrev rest : List Entry
  rest = rest_from L s en.to (en.number + 1)

  behind-it : en.to ≡ at + L.size + length first.body
  behind-it = omega (arith, long_of L s at least r is g, passed.begins, passed.ends, passed.some)

  passed_one : (number x : ℕ) → Passing L s number least x at → Passing L s number (en.number + 1) (pick (ltb en.number number) en.to x) en.to
  passed_one number x p =
      by_pick (λ (y : ℕ). Passing L s number (en.number + 1) y en.to) (ltb en.number number) en.to x
      (λ t.
      let e : size_of L (below number (rest_from L s at least)) ≡ L.size + length first.body + size_of L (below number rest)
      = ap (λ (es : List Entry). size_of L (below number es)) (rest_of L s at least r is g)
      ∙ ap (size_of L) (keep-yes _ first rest (ap (λ (m : ℕ). ltb m number) (sym passed.here) ∙ t))
      ∙ size-cons L lawful first (below number rest) in
      let y = stands L least (drop at s) passed.is in
      let h : x ≡ at = p.here (omega (arith, y.rising, passed.here, ltb-true en.number number t)) in
      record { left = omega (arith, e, p.left, behind-it, h); here = λ q. refl })
      (λ t.
      let e : size_of L (below number (rest_from L s at least)) ≡ size_of L (below number rest)
      = ap (λ (es : List Entry). size_of L (below number es)) (rest_of L s at least r is g)
      ∙ ap (size_of L) (keep-no _ first rest (ap (λ (m : ℕ). ltb m number) (sym passed.here) ∙ t)) in
      record { left = omega (arith, e, p.left); here = λ q. absurd (omega (arith, q, ltb-false en.number number t)) })

  passed_size : size_of L (rest_from L s at least) ≡ L.size + length first.body + size_of L rest
  passed_size = ap (size_of L) (rest_of L s at least r is g) ∙ size-cons L lawful first rest

module _ (L : Layout) (lawful : Lawful L) (s : List ℕ) (number : ℕ) (g : Gap) (least : ℕ) (inv : Surveying L s number g least) (r : Option EntryAt) (is : FrontIs L (is_store_entry L least) s g.end r) where
  pub surveyed-end : r ≡ None → Bytes s → GapIs L s number g
  surveyed-end e bytes =
      let none = rest_none L s g.end least (none_of L (is_store_entry L least) s g.end r is e) in
      record {
        at = passed_all L s g.end least none number g.at inv.low;
        old = passed_all L s g.end least none (number + 1) g.old inv.upto;
        end = omega (arith, inv.all, ap (size_of L) none, size-nil L);
        forth = inv.forth;
        further = inv.further;
        inside = inv.inside;
        bytes = bytes;
      }

  module _ {x : EntryAt} (e : r ≡ Some x) where
    forth-on : (a b : Bool) → ltb x.number number ≡ a → ltb x.number (number + 1) ≡ b → g.end ≤ x.to → pick a x.to g.at ≤ pick b x.to g.old
    forth-on true true ea eb h = omega arith
    forth-on true false ea eb h = absurd (omega (arith, ltb-true x.number number ea, ltb-false x.number (number + 1) eb))
    forth-on false true ea eb h = omega (arith, inv.forth, inv.further, h)
    forth-on false false ea eb h = inv.forth

    pub surveyed-less : {g' : Gap} → g' ≡ gap_behind g number x.number x.to → length s - g'.end < length s - g.end
    unfolding gap_behind
    surveyed-less q = rw q (closer L (is_store_entry L least) s g.end r is e)

    pub surveyed-on : {g' : Gap} → g' ≡ gap_behind g number x.number x.to → Surveying L s number g' (x.number + 1)
    unfolding gap_behind
    surveyed-on q =
        let h : g.end ≤ x.to = omega (arith, behind-it L lawful s g.end least r is e) in
        subst (λ (y : Gap). Surveying L s number y (x.number + 1)) (sym q)
        (record {
          inside = inside_of L (is_store_entry L least) s g.end r is e;
          low = passed_one L lawful s g.end least r is e number g.at inv.low;
          upto = passed_one L lawful s g.end least r is e (number + 1) g.old inv.upto;
          all = omega (arith, inv.all, passed_size L lawful s g.end least r is e, behind-it L lawful s g.end least r is e);
          forth = forth-on (ltb x.number number) (ltb x.number (number + 1)) refl refl h;
          further = by_pick (λ (y : ℕ). y ≤ x.to) (ltb x.number (number + 1)) x.to g.old (λ t. omega arith) (λ t. omega (arith, inv.further, h));
        })

pub ruleset surveyings = (three-lawful, surveying, surveyed-less, surveyed-on)

-- ---- a well-formed store

module _ (L : Layout) (s : List ℕ) (number : ℕ) {g : Gap} (gap : GapIs L s number g) {b : Bool} (eb : b ≡ every (at_most 0) (take (length s - g.end) (drop g.end s))) where
  zeros_behind : b ≡ well_formed L s
  unfolding well_formed
  zeros_behind = eb ∙ ap (every (at_most 0)) (take_all (length s - g.end) (drop g.end s) (omega (arith, length-drop g.end s))) ∙ ap (λ (k : ℕ). every (at_most 0) (drop k s)) gap.end

  pub is-formed : b ≡ true → SurveyIs L s number (Some g)
  unfolding SurveyIs
  is-formed t = record { formed = sym zeros_behind ∙ t; gap = gap }

  pub is-malformed : b ≡ false → SurveyIs L s number None
  unfolding SurveyIs
  is-malformed t = sym zeros_behind ∙ t

pub ruleset surveys = (is-formed, is-malformed)

module _ (L : Layout) (s : List ℕ) (number : ℕ) {r : Option Gap} (is : SurveyIs L s number r) where
  pub formed-of : {g : Gap} → r ≡ Some g → FormedIs L s number g
  unfolding SurveyIs
  formed-of e = rw e at is

  pub malformed_of : r ≡ None → well_formed L s ≡ false
  unfolding SurveyIs
  malformed_of e = rw e at is

  pub says_formed : {g : Gap} → r ≡ Some g → true ≡ well_formed L s
  says_formed e = sym (formed-of e).formed

  pub says_malformed : r ≡ None → false ≡ well_formed L s
  says_malformed e = sym (malformed_of e)

pub ruleset saids = (says_formed, says_malformed)
