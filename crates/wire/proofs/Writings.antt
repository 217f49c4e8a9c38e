-- Writing bytes: whether there is room, and what then stands.
use Prim.Native.Nat.{ℕ, ◌+◌, ◌-◌, ◌*◌, ◌^◌, ◌≤◌, ◌<◌}
use mathlib.Core.Path.{◌≡◌, refl, sym, ◌∙◌, ap}
use mathlib.Core.Bool.{Bool, true, false}
use mathlib.Core.List.{List, [], ◌∷◌, ◌++◌}
use native.Mathlib.Omega.{arith}
use native.Mathlib.Numerals.{add-one}
use borrow.Author.Tests.{le-leb, lt-leb, leb-true, leb-false}
use lib.Dec.{leb}
use lib.ListN.{length, get_or, drop, set, length-set, length-append, drop_of_length-le}
use lib.Seq.{sets, drop-cons}
use borrow.Author.Rules.{Fits-under}
use mir.Syntax.{w64}
use mir.Val.{Fits}
use Rattle.memory.specs.declared.Remembered.{Remembered}
use Rattle.refusals.specs.Answers.{Answer, answer_of, number}
use Rattle.refusals.proofs.Many.{past_end, sets_append}
use Rattle.refusals.specs.declared.Refusal.{Refusal}
use Rattle.refusals.specs.declared.Refusal.TheVariants.{TooShort, NotValid}
use Rattle.std.specs.Prelude.{Result, Ok, Err}
use Rattle.wire.specs.Sending.{sent, room_for, in_room, write_at, write_if, after_write, poured}
use Rattle.wire.proofs.Sendings.{sent-append, sent-long}

-- whether there is room, with the tests as the code leaves them
module _ (size room at : ℕ) where
  pub at-past : room < at → answer_of (Err TooShort) ≡ room_for size room at
  unfolding answer_of room_for
  at-past h = rw (lt-leb (at + size) room (omega arith))

  pub no_room : at ≤ room → room - at < size → answer_of (Err TooShort) ≡ room_for size room at
  unfolding answer_of room_for
  no_room p h = rw (lt-leb (at + size) room (omega arith))

  pub has_room : at ≤ room → size ≤ room - at → answer_of (Ok (at + size)) ≡ room_for size room at
  unfolding answer_of room_for
  has_room p h = rw (le-leb (at + size) room (omega arith))

-- where there is an end there is room, and a place before it fits a machine word
found_room : (size room at : ℕ) {r : Result ℕ Refusal} {n : ℕ} → answer_of r ≡ room_for size room at → r ≡ Ok n → at + size ≤ room
unfolding answer_of room_for number
found_room size room at {r} {n} j g = go (leb (at + size) room) refl
  where
    go : (b : Bool) → leb (at + size) room ≡ b → at + size ≤ room
    go true e = leb-true (at + size) room e
    go false e = let k : ◌≡◌ {A = ℕ} 0 7 = ap number (rw (e, g) at j) in absurd (omega (arith, k))

pub before_end : (k m at : ℕ) (l : List ℕ) {r : Result ℕ Refusal} {n : ℕ} → answer_of r ≡ room_for (k + m) (length l) at → r ≡ Ok n → length l * 1 < 2 ^ 63 → Fits w64 (at + k)
before_end k m at l j g f = Fits-under w64 (at + k) (2 ^ 63) (omega (arith, found_room (k + m) (length l) at j g)) tt

-- the answers, by what `room_for` gave
module _ (w l : List ℕ) (at : ℕ) where
  pub written-so : (size : ℕ) {r q : Result ℕ Refusal} → size ≡ length w → answer_of r ≡ room_for size (length l) at → r ≡ q → answer_of q ≡ write_at w (length l) at
  unfolding write_at
  written-so size e j g = rw g at j ∙ rw e

  pub none_changed : (e : Refusal) → l ≡ after_write (answer_of (Err e)) w l at
  unfolding answer_of after_write
  none_changed e = refl

  pub all_changed : (n : ℕ) {o : List ℕ} → o ≡ sets l at w → o ≡ after_write (answer_of (Ok n)) w l at
  unfolding answer_of after_write
  all_changed n e = e

-- ---- what is inside its range is written, and nothing else

pub outside : (w : List ℕ) (room at : ℕ) {ok : Bool} → ok ≡ false → answer_of (Err NotValid) ≡ write_if ok w room at
unfolding answer_of write_if
outside w room at e = rw e

pub accepted : (w : List ℕ) (room at : ℕ) {ok : Bool} {v : List ℕ} {q : Answer ℕ} → ok ≡ true → v ≡ w → q ≡ write_at v room at → q ≡ write_if ok w room at
unfolding write_if
accepted w room at e f j = rw (e, ← f) j

pub standing : (w l : List ℕ) (at : ℕ) (q : Answer ℕ) {v o : List ℕ} → v ≡ w → o ≡ after_write q v l at → o ≡ after_write q w l at
standing w l at q f j = rw (← f) j

-- ---- as far as there is room, one by one; `characters` lays its bytes so too

-- what is left, laid from here, ends where the whole ends
pub record Copying (w out₀ out : List ℕ) (at i : ℕ) : Type 0 where
  pub upto : i ≤ length w
  pub long : length out ≡ length out₀
  pub whole : sets out (at + i) (drop i w) ≡ sets out₀ at w

pub copying_none : (w out : List ℕ) (at : ℕ) → Copying w out out at 0
copying_none w out at =
    let z : at + 0 ≡ at = omega arith in
    record { upto = omega arith; long = refl; whole = ap (λ (k : ℕ). sets out k w) z }

pub copying_more : (w out₀ out : List ℕ) (at i : ℕ) {count : ℕ} → Copying w out₀ out at i → count ≡ in_room (length w) (length out₀) at → i < count → Copying w out₀ (set out (at + i) (get_or w i 0)) at (i + 1)
copying_more w out₀ out at i f e k =
    let h : i < length w = omega (arith, e, k) in
    let b = get_or w i 0 in
    let d : drop i w ≡ b ∷ drop (i + 1) w = drop-cons w i 0 h ∙ rw (add-one i) in
    let z : at + (i + 1) ≡ at + i + 1 = omega arith in
    record {
      upto = omega arith;
      long = length-set out (at + i) b ∙ f.long;
      whole = rw (z, add-one (at + i)) (rw d at f.whole);
    }

-- where room was wanting, what is left lies behind the end
pub copying_end : (w out₀ out : List ℕ) (at i : ℕ) {count : ℕ} → Copying w out₀ out at i → count ≡ in_room (length w) (length out₀) at → count ≤ i → out ≡ sets out₀ at w
copying_end w out₀ out at i f e h = go (leb (length w) i) refl
  where
    go : (t : Bool) → leb (length w) i ≡ t → out ≡ sets out₀ at w
    go true g = let d : drop i w ≡ [] = drop_of_length-le w (leb-true (length w) i g) in rw d at f.whole
    go false g = sym (past_end out (at + i) (drop i w) (omega (arith, e, h, f.long, leb-false (length w) i g))) ∙ f.whole

pub ruleset copyings = (copying_none, copying_more, copying_end)

-- ---- byte by byte

sum_fits : (kept : Remembered) (v w : List ℕ) {n m : ℕ} → length v + length w ≤ 8 → n ≡ length (sent kept v) → m ≡ length (sent kept w) → Fits w64 (n + m)
sum_fits kept v w {n} {m} h e f = Fits-under w64 (n + m) 17 (omega (arith, e, f, sent-long kept v, sent-long kept w)) tt

pub two-fit : (kept : Remembered) (a b : ℕ) {n m : ℕ} → n ≡ length (sent kept (a ∷ [])) → m ≡ length (sent kept (b ∷ [])) → Fits w64 (n + m)
two-fit kept a b = sum_fits kept (a ∷ []) (b ∷ []) (omega arith)

pub three-fit : (kept : Remembered) (a b d : ℕ) {n m : ℕ} → n ≡ length (sent kept (a ∷ b ∷ [])) → m ≡ length (sent kept (d ∷ [])) → Fits w64 (n + m)
three-fit kept a b d = sum_fits kept (a ∷ b ∷ []) (d ∷ []) (omega arith)

-- what is sent behind v
pub more_size : (kept : Remembered) (v w : List ℕ) {n m : ℕ} → n ≡ length (sent kept v) → m ≡ length (sent kept w) → n + m ≡ length (sent kept (v ++ w))
more_size kept v w e f = rw (e, f) (sym (ap length (sent-append kept v w) ∙ length-append (sent kept v) (sent kept w)))

pub more_stands : (kept : Remembered) (v w l : List ℕ) (at : ℕ) {n : ℕ} {m o : List ℕ} → n ≡ length (sent kept v) → m ≡ sets l at (sent kept v) → o ≡ sets m (at + n) (sent kept w) → o ≡ sets l at (sent kept (v ++ w))
more_stands kept v w l at {n} {m} {o} e f g =
    g ∙ rw (f, e) (sets_append (sent kept v) (sent kept w) l at) ∙ ap (λ (x : List ℕ). sets l at x) (sym (sent-append kept v w))

pub two_size : (kept : Remembered) (a b : ℕ) {n m : ℕ} → n ≡ length (sent kept (a ∷ [])) → m ≡ length (sent kept (b ∷ [])) → n + m ≡ length (sent kept (a ∷ b ∷ []))
two_size kept a b = more_size kept (a ∷ []) (b ∷ [])

pub two-stand : (kept : Remembered) (a b : ℕ) (l : List ℕ) (at : ℕ) {n : ℕ} {m o : List ℕ} → n ≡ length (sent kept (a ∷ [])) → m ≡ sets l at (sent kept (a ∷ [])) → o ≡ sets m (at + n) (sent kept (b ∷ [])) → o ≡ sets l at (sent kept (a ∷ b ∷ []))
two-stand kept a b = more_stands kept (a ∷ []) (b ∷ [])

pub three-size : (kept : Remembered) (a b d : ℕ) {n m : ℕ} → n ≡ length (sent kept (a ∷ b ∷ [])) → m ≡ length (sent kept (d ∷ [])) → n + m ≡ length (sent kept (a ∷ b ∷ d ∷ []))
three-size kept a b d = more_size kept (a ∷ b ∷ []) (d ∷ [])

pub three-stand : (kept : Remembered) (a b d : ℕ) (l : List ℕ) (at : ℕ) {n : ℕ} {m o : List ℕ} → n ≡ length (sent kept (a ∷ b ∷ [])) → m ≡ sets l at (sent kept (a ∷ b ∷ [])) → o ≡ sets m (at + n) (sent kept (d ∷ [])) → o ≡ sets l at (sent kept (a ∷ b ∷ d ∷ []))
three-stand kept a b d = more_stands kept (a ∷ b ∷ []) (d ∷ [])

pub ruleset more = (two-fit, three-fit, two_size, two-stand, three-size, three-stand)

-- ---- what is inside its range

pub not_poured : (w : List ℕ) {ok : Bool} → ok ≡ false → [] ≡ poured ok w
unfolding poured
not_poured w e = rw e

pub all_poured : (w : List ℕ) {ok : Bool} {v : List ℕ} → ok ≡ true → v ≡ w → v ≡ poured ok w
unfolding poured
all_poured w e f = rw e f

pub pours_size : (w : List ℕ) {ok : Bool} {v : List ℕ} {n : ℕ} → ok ≡ true → v ≡ w → n ≡ length v → n ≡ length (poured ok w)
pours_size w e f g = g ∙ ap length (all_poured w e f)

pub pours_stand : (w l : List ℕ) (at : ℕ) {ok : Bool} {v o : List ℕ} → ok ≡ true → v ≡ w → o ≡ sets l at v → o ≡ sets l at (poured ok w)
pours_stand w l at e f g = g ∙ ap (λ (x : List ℕ). sets l at x) (all_poured w e f)

pub none_size : (w : List ℕ) {ok : Bool} → ok ≡ false → 0 ≡ length (poured ok w)
none_size w e = ap length (not_poured w e)

pub none_stand : (w l : List ℕ) (at : ℕ) {ok : Bool} → ok ≡ false → l ≡ sets l at (poured ok w)
none_stand w l at e = ap (λ (x : List ℕ). sets l at x) (not_poured w e)

-- ---- written by pouring, once it is known that there is room

module _ (w l : List ℕ) (at : ℕ) {ok : Bool} (t : ok ≡ true) where
  pub poured-so : (size : ℕ) {r q : Result ℕ Refusal} → size ≡ length (poured ok w) → answer_of r ≡ room_for size (length l) at → r ≡ q → answer_of q ≡ write_if ok w (length l) at
  unfolding poured write_if
  poured-so size e j g = rw t (written-so w l at size (rw t at e) j g)

  pub poured-stands : (n : ℕ) {o : List ℕ} → o ≡ sets l at (poured ok w) → o ≡ after_write (answer_of (Ok n)) w l at
  unfolding poured
  poured-stands n j = all_changed w l at n (rw t at j)

pub ruleset rooms = (at-past, no_room, has_room)

pub ruleset ranged = (none_size, none_stand, pours_size, pours_stand)

pub ruleset writings = (written-so, all_changed, none_changed)
