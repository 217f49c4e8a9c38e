-- What `take` gives, one byte after the other. The laws of a parameter go by this and say nothing of how a byte is sent.
use Prim.Native.Nat.{ℕ, ◌+◌, ◌≤◌, ◌<◌}
use mathlib.Core.Path.{◌≡◌, refl, sym, ◌∙◌, ap}
use mathlib.Core.Bool.{Bool, true, false}
use mathlib.Core.List.{List, [], ◌∷◌, ◌++◌}
use native.Mathlib.Omega.{arith}
use borrow.Author.Tests.{lt-ltb, le-ltb, le-leb, ne_eqb, ltb-true, ltb-false, leb-true, eqb-true, eqb-false}
use lib.Dec.{leb, ltb, eqb}
use lib.ListN.{length, get_or, length-append, get_or-append}
use lib.Seq.{get_or-append-add}
use Rattle.memory.specs.declared.DelMode.{DelMode}
use Rattle.memory.specs.declared.DelMode.TheVariants.{Data, Filler}
use Rattle.memory.specs.declared.Remembered.{Remembered}
use Rattle.refusals.specs.declared.RefusedAt.{RefusedAt}
use Rattle.refusals.specs.Refusals.{number_of}
use Rattle.refusals.specs.declared.Taken.{Taken}
use Rattle.refusals.specs.Answers.{done, refused, answer_at, pick, past_front}
use Rattle.refusals.proofs.Cases.{by_pick, and_left, and_right, Done, done-of, done-map, is-done, not_done}
use Rattle.refusals.proofs.Passing.{past_here, past_on, past_within, past_stops}
use Rattle.std.specs.Prelude.{Result, Ok, Err}
use Rattle.wire.specs.Taking.{is_del, past_dels, pair_at, found_at, byte_at, most_itself, is_itself}
use Rattle.wire.specs.Sending.{sent_in, sent}
use Rattle.wire.proofs.Sendings.{sent-append, sent-none, sent-long, sent-long_in, one_size}

-- w stands in s from at on
pub record Stands (s : List ℕ) (at : ℕ) (w : List ℕ) : Type 0 where
  pub room : at + length w ≤ length s
  pub same : (i : ℕ) → i < length w → get_or s (at + i) 0 ≡ get_or w i 0

pub stands-between : (before w after : List ℕ) → Stands (before ++ (w ++ after)) (length before) w
stands-between before w after = record {
  room = omega (arith, length-append before (w ++ after), length-append w after);
  same = λ i h. get_or-append-add before (w ++ after) i 0 ∙ get_or-append w after 0 i h;
}

pub stands-left : (s : List ℕ) (at : ℕ) (a w : List ℕ) → Stands s at (a ++ w) → Stands s at a
stands-left s at a w st = record {
  room = omega (arith, st.room, length-append a w);
  same = λ i h. st.same i (omega (arith, length-append a w)) ∙ get_or-append a w 0 i h;
}

pub stands-right : (s : List ℕ) (at : ℕ) (a w : List ℕ) → Stands s at (a ++ w) → Stands s (at + length a) w
stands-right s at a w st = record {
  room = omega (arith, st.room, length-append a w);
  same = λ i h.
      let e : at + length a + i ≡ at + (length a + i) = omega arith in
      ap (λ (k : ℕ). get_or s k 0) e ∙ st.same (length a + i) (omega (arith, length-append a w)) ∙ get_or-append-add a w i 0;
}

-- what a caller of `take` has in hand
pub byte_given : (kept : Remembered) (s : List ℕ) (at : ℕ) {r : Result (Taken ℕ) RefusedAt} {b : Taken ℕ} → answer_at r ≡ byte_at kept s at → r ≡ Ok b → byte_at kept s at ≡ done b
unfolding answer_at
byte_given kept s at e g = sym e ∙ rw g

pub none_given : (kept : Remembered) (s : List ℕ) (at : ℕ) {r : Result (Taken ℕ) RefusedAt} {e : RefusedAt} → answer_at r ≡ byte_at kept s at → r ≡ Err e → byte_at kept s at ≡ refused (number_of e.refusal) e.place
unfolding answer_at
none_given kept s at j g = sym j ∙ rw g

-- from at on the bytes w are taken, up to n
abbrev pub Feeds : Remembered → List ℕ → ℕ → List ℕ → ℕ → Type 0
Feeds kept s at [] n = at ≡ n
Feeds kept s at (b ∷ w) n = (p : ℕ) × ((m : ℕ) × ((byte_at kept s at ≡ done (record { value = b; place = p; next = m })) × Feeds kept s m w n))

-- every byte is one that a parameter may hold
abbrev pub Plain : List ℕ → Type 0
Plain [] = Unit {0}
Plain (b ∷ w) = ((32 ≤ b) × (b ≤ 127)) × Plain w

-- ---- where the next byte stands

-- no DEL is passed over where none stands
pub past_no_del : (m : DelMode) (s : List ℕ) (at : ℕ) → at < length s → (get_or s at 0 ≡ 127 → ⊥) → past_dels m s at ≡ at
unfolding past_dels
past_no_del Data s at i e = refl
past_no_del Filler s at i e = past_here is_del s at i (ne_eqb (get_or s at 0) 127 e)

-- and where a DEL is data none is
past_stays : (s : List ℕ) (at : ℕ) → past_dels Data s at ≡ at
unfolding past_dels
past_stays s at = refl

-- passing over goes forward, and no farther than the end
pub dels_on : (m : DelMode) (s : List ℕ) (at : ℕ) → at ≤ past_dels m s at
unfolding past_dels
dels_on Data s at = omega arith
dels_on Filler s at = past_on is_del s at

pub dels_within : (m : DelMode) (s : List ℕ) (at : ℕ) → at ≤ length s → past_dels m s at ≤ length s
unfolding past_dels
dels_within Data s at h = h
dels_within Filler s at h = past_within is_del s at h

-- ---- a byte that stands as it is taken

found_plain : (m : DelMode) (s : List ℕ) (at b : ℕ) → at < length s → get_or s at 0 ≡ b → 32 ≤ b → b ≤ 127 → found_at m s at ≡ done (record { value = b; place = at; next = at + 1 })
unfolding found_at
found_plain m s at b i e l h = simp (e, lt-ltb at (length s) i, ne_eqb b 27 (λ q. omega arith), le-ltb b 32 l, le-ltb 127 b h)

found_pair : (m : DelMode) (s : List ℕ) (at : ℕ) → at + 1 < length s → get_or s at 0 ≡ 27 → get_or s (at + 1) 0 ≡ 63 → found_at m s at ≡ done (record { value = 127; place = at + 1; next = at + 1 + 1 })
unfolding found_at pair_at
found_pair m s at i e f =
    let g : past_dels m s (at + 1) ≡ at + 1 = past_no_del m s (at + 1) i (λ q. let z : ◌≡◌ {A = ℕ} 63 127 = sym f ∙ q in omega (arith, z)) in
    simp (e, g, f, lt-ltb at (length s) (omega arith), lt-ltb (at + 1) (length s) i)

-- ---- the bytes that are taken as they stand

-- whatever is remembered
pub itself_any : (m : DelMode) (b : ℕ) → 32 ≤ b → b < 127 → is_itself m b ≡ true
unfolding is_itself most_itself
itself_any Data b l h = rw (le-leb 32 b l, le-leb b 127 (omega arith))
itself_any Filler b l h = rw (le-leb 32 b l, le-leb b 126 (omega arith))

itself_found : (m : DelMode) (s : List ℕ) (at : ℕ) → at < length s → 32 ≤ get_or s at 0 → get_or s at 0 ≤ most_itself m → found_at m s (past_dels m s at) ≡ done (record { value = get_or s at 0; place = at; next = at + 1 })
unfolding most_itself
itself_found Data s at i l h =
    rw (past_stays s at) (found_plain Data s at (get_or s at 0) i refl l h)
itself_found Filler s at i l h =
    let g : past_dels Filler s at ≡ at = past_no_del Filler s at i (λ q. omega (arith, q, h)) in
    rw g (found_plain Filler s at (get_or s at 0) i refl l (omega arith))

pub itself_taken : (kept : Remembered) (s : List ℕ) (at : ℕ) → at < length s → is_itself kept.mode (get_or s at 0) ≡ true → byte_at kept s at ≡ done (record { value = get_or s at 0; place = at; next = at + 1 })
unfolding byte_at is_itself
itself_taken kept s at h e =
    let m = most_itself kept.mode in
    let b = get_or s at 0 in
    itself_found kept.mode s at h (leb-true 32 b (and_left (leb 32 b) (leb b m) e)) (leb-true b m (and_right (leb 32 b) (leb b m) e))

-- ---- what is sent is taken

-- one byte: as itself, or as the pair
abbrev OneTaken : DelMode → List ℕ → ℕ → ℕ → Type 0
OneTaken m s at b =
    (p : ℕ) × (found_at m s (past_dels m s at) ≡ done (record { value = b; place = p; next = at + length (sent_in m (b ∷ [])) }))

byte_here : (s : List ℕ) (at : ℕ) (w : List ℕ) → Stands s at w → 0 < length w → get_or s at 0 ≡ get_or w 0 0
byte_here s at w st h = let z : at ≡ at + 0 = omega arith in ap (λ (k : ℕ). get_or s k 0) z ∙ st.same 0 h

one-data : (s : List ℕ) (at b : ℕ) → 32 ≤ b → b ≤ 127 → Stands s at (b ∷ []) → OneTaken Data s at b
unfolding past_dels sent_in
one-data s at b l h st = (at, found_plain Data s at b (omega (arith, st.room)) (byte_here s at (b ∷ []) st (omega arith)) l h)

one-filler : (s : List ℕ) (at b : ℕ) → 32 ≤ b → b ≤ 127 → (t : Bool) → eqb b 127 ≡ t → Stands s at (pick t (27 ∷ 63 ∷ []) (b ∷ [])) → OneTaken Filler s at b
unfolding sent_in
one-filler s at b l h true e st =
    let v : b ≡ 127 = eqb-true b 127 e in
    let n : at + 1 + 1 ≡ at + 2 = omega arith in
    let f : get_or s at 0 ≡ 27 = byte_here s at (27 ∷ 63 ∷ []) st (omega arith) in
    let g : past_dels Filler s at ≡ at = past_no_del Filler s at (omega (arith, st.room)) (λ q. let z : ◌≡◌ {A = ℕ} 27 127 = sym f ∙ q in omega (arith, z)) in
    (at + 1, rw (g, e, v, ← n) (found_pair Filler s at (omega (arith, st.room)) f (st.same 1 (omega arith))))
one-filler s at b l h false e st =
    let f : get_or s at 0 ≡ b = byte_here s at (b ∷ []) st (omega arith) in
    let g : past_dels Filler s at ≡ at = past_no_del Filler s at (omega (arith, st.room)) (λ q. eqb-false b 127 e (sym f ∙ q)) in
    (at, rw (g, e) (found_plain Filler s at b (omega (arith, st.room)) f l h))

one-taken : (m : DelMode) (s : List ℕ) (at b : ℕ) → 32 ≤ b → b ≤ 127 → Stands s at (sent_in m (b ∷ [])) → OneTaken m s at b
unfolding sent_in
one-taken Data s at b l h st = one-data s at b l h st
one-taken Filler s at b l h st = one-filler s at b l h (eqb b 127) refl (stands-left s at (pick (eqb b 127) (27 ∷ 63 ∷ []) (b ∷ [])) [] st)

pub sent-taken : (kept : Remembered) (s : List ℕ) (at : ℕ) (w : List ℕ) → Plain w → Stands s at (sent kept w) → Feeds kept s at w (at + length (sent kept w))
unfolding sent byte_at
sent-taken kept s at [] pl st = rw (sent-none kept) (omega arith)
sent-taken kept s at (b ∷ w) pl st =
    let v = sent kept (b ∷ []) in
    let e : sent kept (b ∷ w) ≡ v ++ sent kept w = sent-append kept (b ∷ []) w in
    let st' : Stands s at (v ++ sent kept w) = rw e at st in
    let (p, q) = one-taken kept.mode s at b pl.0.0 pl.0.1 (stands-left s at v (sent kept w) st') in
    let n : at + length v + length (sent kept w) ≡ at + length (sent kept (b ∷ w)) = omega (arith, ap length e, length-append v (sent kept w)) in
    (p, (at + length v, (q, rw n at (sent-taken kept s (at + length v) w pl.1 (stands-right s at v (sent kept w) st')))))

-- ---- a byte that is taken

pub record Took (s : List ℕ) (at : ℕ) (r : Taken ℕ) : Type 0 where
  pub forward : at < r.next
  pub within : r.next ≤ length s
  pub least : 32 ≤ r.value
  pub most : r.value ≤ 127
  pub from : at ≤ r.place
  pub behind : r.place < r.next

pair-took : (s : List ℕ) (at place : ℕ) → at < place → Done (Took s at) (pair_at s at place)
unfolding pair_at
pair-took s at place f =
    by_pick (Done (Took s at)) (ltb place (length s)) _ _
    (λ t. by_pick (Done (Took s at)) (eqb (get_or s place 0) 63) _ _
    (λ u. let h : place < length s = ltb-true place (length s) t in
    is-done (Took s at) (record { forward = omega arith; within = omega arith; least = omega arith; most = omega arith; from = omega arith; behind = omega arith }))
    (λ u. not_done (Took s at) 6 at))
    (λ t. not_done (Took s at) 1 (length s))

found_took : (m : DelMode) (s : List ℕ) (at : ℕ) → Done (Took s at) (found_at m s at)
unfolding found_at
found_took m s at =
    by_pick (Done (Took s at)) (ltb at (length s)) _ _
    (λ t. by_pick (Done (Took s at)) (eqb (get_or s at 0) 27) _ _
    (λ u. pair-took s at (past_dels m s (at + 1)) (omega (arith, dels_on m s (at + 1))))
    (λ u. by_pick (Done (Took s at)) (ltb (get_or s at 0) 32) _ _
    (λ v. not_done (Took s at) 3 at)
    (λ v. by_pick (Done (Took s at)) (ltb 127 (get_or s at 0)) _ _
    (λ x. not_done (Took s at) 3 at)
    (λ x.
    let h : at < length s = ltb-true at (length s) t in
    let l : 32 ≤ get_or s at 0 = ltb-false (get_or s at 0) 32 v in
    let m : get_or s at 0 ≤ 127 = ltb-false 127 (get_or s at 0) x in
    is-done (Took s at) (record { forward = omega arith; within = omega arith; least = l; most = m; from = omega arith; behind = omega arith })))))
    (λ t. not_done (Took s at) 1 (length s))

-- what is taken behind DELs is taken from before them
farther_took : (s : List ℕ) (at from : ℕ) → at ≤ from → (r : Taken ℕ) → Took s from r → Took s at r
farther_took s at from h r t = record {
  forward = omega (arith, t.forward);
  within = t.within;
  least = t.least;
  most = t.most;
  from = omega (arith, t.from);
  behind = t.behind;
}

byte_took : (kept : Remembered) (s : List ℕ) (at : ℕ) → Done (Took s at) (byte_at kept s at)
unfolding byte_at
byte_took kept s at =
    let from = past_dels kept.mode s at in
    done-map (farther_took s at from (dels_on kept.mode s at)) (found_at kept.mode s from) (found_took kept.mode s from)

pub took : (kept : Remembered) (s : List ℕ) (at : ℕ) {r : Taken ℕ} → byte_at kept s at ≡ done r → Took s at r
took kept s at e = done-of (Took s at) (byte_took kept s at) e

-- ---- what was taken was not sent in fewer bytes

-- what one byte costs
pub one-most : (kept : Remembered) (b : ℕ) → length (sent kept (b ∷ [])) ≤ 2
one-most kept b = sent-long kept (b ∷ [])

one-least_in : (m : DelMode) (b : ℕ) → 1 ≤ length (sent_in m (b ∷ []))
unfolding sent_in
one-least_in Data b = omega arith
one-least_in Filler b = by_pick (λ (w : List ℕ). 1 ≤ length (w ++ [])) (eqb b 127) _ _ (λ t. omega arith) (λ t. omega arith)

pub one-least : (kept : Remembered) (b : ℕ) → 1 ≤ length (sent kept (b ∷ []))
unfolding sent
one-least kept b = one-least_in kept.mode b

pub one-cheap : (kept : Remembered) (b : ℕ) → (b ≡ 127 → ⊥) → length (sent kept (b ∷ [])) ≡ 1
one-cheap kept b e = sym (one_size kept b e)

record Cost (m : DelMode) (at : ℕ) (r : Taken ℕ) : Type 0 where
  paid : at + length (sent_in m (r.value ∷ [])) ≤ r.next

pair-cost : (m : DelMode) (s : List ℕ) (at place : ℕ) → at < place → Done (Cost m at) (pair_at s at place)
unfolding pair_at
pair-cost m s at place f =
    by_pick (Done (Cost m at)) (ltb place (length s)) _ _
    (λ t. by_pick (Done (Cost m at)) (eqb (get_or s place 0) 63) _ _
    (λ u. is-done (Cost m at) (record { paid = omega (arith, f, sent-long_in m (127 ∷ [])) }))
    (λ u. not_done (Cost m at) 6 at))
    (λ t. not_done (Cost m at) 1 (length s))

plain_cost : (m : DelMode) (s : List ℕ) (at : ℕ) → (m ≡ Filler → get_or s at 0 ≡ 127 → ⊥) → at + length (sent_in m (get_or s at 0 ∷ [])) ≤ at + 1
unfolding sent_in
plain_cost Data s at e = omega arith
plain_cost Filler s at e = rw (ne_eqb (get_or s at 0) 127 (e refl)) (omega arith)

-- no filler stands where DELs were passed over
pub no_filler : (m : DelMode) (s : List ℕ) (at : ℕ) → past_dels m s at < length s → m ≡ Filler → get_or s (past_dels m s at) 0 ≡ 127 → ⊥
unfolding past_dels
no_filler Data s at h e q = let z : ◌≡◌ {A = ℕ} 0 1 = cc in omega arith
no_filler Filler s at h e q = eqb-false (get_or s (past_front is_del s at) 0) 127 (past_stops is_del s at h) q

found_cost : (m : DelMode) (s : List ℕ) (at : ℕ) → (at < length s → m ≡ Filler → get_or s at 0 ≡ 127 → ⊥) → Done (Cost m at) (found_at m s at)
unfolding found_at
found_cost m s at e =
    by_pick (Done (Cost m at)) (ltb at (length s)) _ _
    (λ t. by_pick (Done (Cost m at)) (eqb (get_or s at 0) 27) _ _
    (λ u. pair-cost m s at (past_dels m s (at + 1)) (omega (arith, dels_on m s (at + 1))))
    (λ u. by_pick (Done (Cost m at)) (ltb (get_or s at 0) 32) _ _
    (λ v. not_done (Cost m at) 3 at)
    (λ v. by_pick (Done (Cost m at)) (ltb 127 (get_or s at 0)) _ _
    (λ x. not_done (Cost m at) 3 at)
    (λ x. is-done (Cost m at) (record { paid = plain_cost m s at (e (ltb-true at (length s) t)) })))))
    (λ t. not_done (Cost m at) 1 (length s))

pub took_least : (kept : Remembered) (s : List ℕ) (at : ℕ) {r : Taken ℕ} → byte_at kept s at ≡ done r → at + length (sent kept (r.value ∷ [])) ≤ r.next
unfolding sent byte_at
took_least kept s at e =
    let m = kept.mode in
    let from = past_dels m s at in
    let q = done-of (Cost m from) (found_cost m s from (no_filler m s at)) e in
    omega (arith, q.paid, dels_on m s at)
