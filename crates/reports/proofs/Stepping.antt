-- Reading a report, by what its parts gave.
use Prim.Native.Nat.{ℕ, zero, suc, ◌+◌, ◌-◌, ◌≤◌, ◌<◌}
use mathlib.Core.Path.{◌≡◌, refl, sym, ◌∙◌, ap}
use mathlib.Core.List.{List}
use native.Mathlib.Omega.{arith}
use borrow.Author.Tests.{le-leb, lt-leb, ltb-true, ltb-false}
use lib.Dec.{ltb, leb}
use lib.ListN.{length, get_or}
use lib.Seq.{sets}
use lib.IntN.{ℤ, nat_abs}
use Rattle.refusals.specs.declared.Refusal.TheVariants.{TooShort}
use Rattle.refusals.specs.declared.RefusedAt.{RefusedAt}
use Rattle.refusals.specs.declared.Taken.{Taken}
use Rattle.refusals.specs.Answers.{Answer, done, refused, answer_at, ends_after}
use Rattle.refusals.proofs.Cases.{by_pick, by_then, Done, done-of, done-map, is-done, not_done}
use Rattle.refusals.proofs.Many.{passed_all, passed_one, passed_none}
use Rattle.std.specs.Prelude.{Result, Ok, Err}
use Rattle.signs.specs.Signs.{is_negative}
use Rattle.numbers.specs.Counts.{count_in}
use Rattle.reports.specs.declared.TakenString.{TakenString}
use Rattle.reports.specs.Reading.{byte_within, report_from, report_at, characters_end, string_at, entries_at, after_string}

-- ---- a byte within its bounds

pub record Stood (least most : ℕ) (s : List ℕ) (at : ℕ) (r : Taken ℕ) : Type 0 where
  pub low : least ≤ r.value
  pub high : r.value ≤ most
  pub inside : at < length s
  pub here : r.value ≡ get_or s at 0
  pub next-is : r.next ≡ at + 1

stood : (least most : ℕ) (s : List ℕ) (at : ℕ) → Done (Stood least most s at) (byte_within least most s at)
unfolding byte_within
stood least most s at =
    by_pick (Done P) (ltb at (length s)) _ _
    (λ t. by_pick (Done P) (ltb (get_or s at 0) least) _ _
    (λ u. not_done P 3 at)
    (λ u. by_pick (Done P) (ltb most (get_or s at 0)) _ _
    (λ v. not_done P 3 at)
    (λ v. is-done P (record {
      low = ltb-false (get_or s at 0) least u;
      high = ltb-false most (get_or s at 0) v;
      inside = ltb-true at (length s) t;
      here = refl;
      next-is = refl;
    }))))
    (λ t. not_done P 1 (length s))
  where
    P : Taken ℕ → Type 0
    P = Stood least most s at

pub stood_of : (least most : ℕ) (s : List ℕ) (at : ℕ) {r : Taken ℕ} → byte_within least most s at ≡ done r → Stood least most s at r
stood_of least most s at e = done-of (Stood least most s at) (stood least most s at) e

module _ (least most : ℕ) (s : List ℕ) (at : ℕ) {r : Result (Taken ℕ) RefusedAt} (e : answer_at r ≡ byte_within least most s at) {b : Taken ℕ} (g : r ≡ Ok b) where
  given : byte_within least most s at ≡ done b
  unfolding answer_at
  given = sym e ∙ rw g

  pub at_least : least ≤ b.value
  at_least = (stood_of least most s at given).low

  pub at_most : b.value ≤ most
  at_most = (stood_of least most s at given).high

-- ---- a run of characters, of which i have been read up to pos

pub record Running (k : ℕ) (s : List ℕ) (at i pos : ℕ) : Type 0 where
  pub left : characters_end (k - i) s pos ≡ characters_end k s at

module _ (k : ℕ) (s : List ℕ) (at : ℕ) where
  pub running_none : Running k s at 0 at
  running_none = let z : k - 0 ≡ k = omega arith in record { left = rw z }

  pub running_end : (i pos : ℕ) → Running k s at i pos → k ≤ i → answer_at (Ok pos) ≡ characters_end k s at
  unfolding answer_at
  running_end i pos f h = passed_all (byte_within 32 127 s) (k - i) pos (omega arith) f.left

  module _ (i pos : ℕ) {r : Result (Taken ℕ) RefusedAt} (f : Running k s at i pos) (h : i < k) (e : answer_at r ≡ byte_within 32 127 s pos) where
    pub running_more : {b : Taken ℕ} → r ≡ Ok b → Running k s at (i + 1) b.next
    running_more {b} g =
        let z : k - i - 1 ≡ k - (i + 1) = omega arith in
        let q = passed_one (byte_within 32 127 s) (k - i) pos (given 32 127 s pos e g) (omega arith) f.left in
        record { left = rw z at q }

    pub running_cut : {x : RefusedAt} → r ≡ Err x → answer_at {A = ℕ} (Err x) ≡ characters_end k s at
    unfolding answer_at
    running_cut g = passed_none (byte_within 32 127 s) (k - i) pos (sym e ∙ rw g) (omega arith) f.left

pub ruleset running = (running_none, running_end, running_more, running_cut)

-- where a run ends, and that it stays byte_within
Ends : List ℕ → ℕ → ℕ → ℕ → Type 0
Ends s k at n = (n ≡ at + k) × (at + k ≤ length s)

ends : (s : List ℕ) (k at : ℕ) → at ≤ length s → Done (Ends s k at) (characters_end k s at)
unfolding ends_after Ends
ends s zero at h = is-done (Ends s 0 at) (omega arith, omega arith)
ends s (suc k) at h =
    by_then (Done (Ends s (suc k) at)) (byte_within 32 127 s at) _
    (λ c g.
    let t = stood_of 32 127 s at g in
    done-map (λ n e. (omega (arith, e.0, t.next-is), omega (arith, e.1, t.next-is))) (characters_end k s c.next) (ends s k c.next (omega (arith, t.next-is, t.inside))))
    (λ x p g. not_done (Ends s (suc k) at) x p)

pub run-within : (k : ℕ) (s : List ℕ) (at n : ℕ) → at ≤ length s → characters_end k s at ≡ done n → (n ≡ at + k) × (at + k ≤ length s)
unfolding Ends
run-within k s at n h e = done-of (Ends s k at) (ends s k at h) e

-- a report that was read took three bytes
unfoldable pub Three : List ℕ → ℕ → Taken ℤ → Type 0
Three s at r = (r.next ≡ at + 3) × (at + 3 ≤ length s)

pub three : (s : List ℕ) (at : ℕ) → Done (Three s at) (report_at s at)
unfolding report_at report_from Three
three s at =
    by_pick (Done (Three s at)) (ltb (length s) at) _ _
    (λ t. not_done (Three s at) 8 0)
    (λ t. by_then (Done (Three s at)) (byte_within 32 95 s at) _
    (λ a f. by_then (Done (Three s at)) (byte_within 32 95 s a.next) _
    (λ b g. by_then (Done (Three s at)) (byte_within 32 63 s b.next) _
    (λ c h.
    let x = stood_of 32 95 s at f in
    let y = stood_of 32 95 s a.next g in
    let z = stood_of 32 63 s b.next h in
    is-done (Three s at) (omega (arith, x.next-is, y.next-is, z.next-is), omega (arith, x.next-is, y.next-is, z.inside)))
    (λ e p h. not_done (Three s at) e p))
    (λ e p g. not_done (Three s at) e p))
    (λ e p f. not_done (Three s at) e p))

-- a count keeps the place behind its integer
pub behind : (most : ℕ) (P : ℕ → Type 0) (a : Answer (Taken ℤ)) → Done (λ r. P r.next) a → Done (λ r. P r.next) (count_in most a)
unfolding count_in Done
behind most P (done i) h =
    by_pick (Done (λ r. P r.next)) (is_negative i.value) _ _
    (λ t. tt)
    (λ t. by_pick (Done (λ r. P r.next)) (leb (nat_abs i.value) most) _ _ (λ u. h) (λ u. tt))
behind most P (refused e p) h = tt

-- ---- a string report

module _ (s : List ℕ) (at : ℕ) {i : Answer (Taken ℤ)} (c : Result (Taken ℕ) RefusedAt) (ei : i ≡ report_at s at) (ec : answer_at c ≡ count_in 256 i) where
  counted : count_in 256 (report_at s at) ≡ answer_at c
  counted = rw (← ei) (sym ec)

  pub string_no : (room : ℕ) {x : RefusedAt} → c ≡ Err x → answer_at {A = TakenString} (Err x) ≡ string_at s at room
  unfolding string_at answer_at
  string_no room g = rw (counted, g)

  module _ {t : Taken ℕ} (g : c ≡ Ok t) where
    found : count_in 256 (report_at s at) ≡ done t
    unfolding answer_at
    found = counted ∙ rw g

    next-three : (t.next ≡ at + 3) × (at + 3 ≤ length s)
    unfolding Three
    next-three = done-of (λ (r : Taken ℕ). (r.next ≡ at + 3) × (at + 3 ≤ length s)) (behind 256 (λ m. (m ≡ at + 3) × (at + 3 ≤ length s)) (report_at s at) (three s at)) found

    module _ {e : Result ℕ RefusedAt} (ee : answer_at e ≡ characters_end t.value s t.next) where
      pub characters-refused : (room : ℕ) {x : RefusedAt} → e ≡ Err x → answer_at {A = TakenString} (Err x) ≡ string_at s at room
      unfolding string_at answer_at
      characters-refused room h = rw (found, ← ee, h)

      module _ {m : ℕ} (h : e ≡ Ok m) where
        pub string_short : (room : ℕ) {x : RefusedAt} → x ≡ record { refusal = TooShort; place = at } → room < t.value → answer_at {A = TakenString} (Err x) ≡ string_at s at room
        unfolding string_at answer_at
        string_short room j l = rw (found, ← ee, h, j, lt-leb t.value room l)

        pub string_held : (room : ℕ) → t.value ≤ room → answer_at (Ok (record { count = t.value; next = m })) ≡ string_at s at room
        unfolding string_at answer_at
        string_held room l = rw (found, ← ee, h, le-leb t.value room l)

        pub run_fits : t.next + t.value ≤ length s
        unfolding answer_at
        run_fits = let h₃ = next-three in (run-within t.value s t.next m (omega (arith, h₃.0, h₃.1)) (sym ee ∙ rw h)).1

        pub string_stands : (l : List ℤ) {o : List ℤ} → o ≡ sets l 0 (entries_at t.value s t.next) → o ≡ after_string (answer_at (Ok (record { count = t.value; next = m }))) s at l
        unfolding after_string answer_at
        string_stands l j = j ∙ ap (λ (a : ℕ). sets l 0 (entries_at t.value s a)) next-three.0

pub string_kept : (x : RefusedAt) (s : List ℕ) (at : ℕ) (l : List ℤ) → l ≡ after_string (answer_at (Err x)) s at l
unfolding after_string answer_at
string_kept x s at l = refl

pub ruleset strings = (string_no, characters-refused, string_short, string_held, run_fits, string_stands, string_kept)
