-- What the calls that set a record take from their parts: sizes from 1 on, and RU's third integer.
use Prim.Native.Nat.{ℕ, ◌≤◌}
use mathlib.Core.Path.{◌≡◌, refl, sym, ◌∙◌, ap}
use mathlib.Core.Bool.{Bool, true, false, ◌&&◌}
use borrow.Author.Tests.{leb-true}
use lib.Dec.{leb}
use lib.IntN.{ℤ, pos, negsuc, nat_abs}
use mir.Syntax.{w32}
use mir.Val.{SFits, to_z, of_z}
use mir.Facts.{to_z-of_z}
use Rattle.std.specs.Prelude.{Ok, Err}
use Rattle.refusals.specs.declared.Refusal.TheVariants.{NotValid, SurfaceSize}
use Rattle.refusals.proofs.Cases.{zero_one, and_left, and_right}
use Rattle.signs.specs.Signs.{is_negative}
use Rattle.beam.specs.declared.Beam.{Beam}
use Rattle.beam.specs.Validity.{is_size, is_bits, is_valid}
use Rattle.beam.specs.Settings.{settled_by, settled, Settled, fresh_by, fresh_beam, no_beam, make_fresh, bits_from, with_bits, set_bits}

-- ---- a size

pub size_w : (w h : ℕ) → is_size w h ≡ true → 1 ≤ w
unfolding is_size
size_w w h e = leb-true 1 w (and_left (leb 1 w) _ e)

pub size_h : (w h : ℕ) → is_size w h ≡ true → 1 ≤ h
unfolding is_size
size_h w h e =
    leb-true 1 h (and_left (leb 1 h) (leb h 512) (and_right (leb w 512) (leb 1 h && leb h 512) (and_right (leb 1 w) (leb w 512 && (leb 1 h && leb h 512)) e)))

-- ---- 8 for the record, 8 for the values

module _ (w h : ℕ) (came : Beam) (allowed : Bool) (new : Beam) {s : Bool} (es : s ≡ is_size w h) (t : s ≡ true) {v : Bool} (ev : v ≡ is_valid w h came) where
  pub wrong_record : v ≡ false → settled_by came (Err NotValid) ≡ settled w h came allowed new
  unfolding settled_by settled
  wrong_record u = rw (sym es ∙ t, sym ev ∙ u)

  pub wrong_values : v ≡ true → allowed ≡ false → settled_by came (Err NotValid) ≡ settled w h came allowed new
  unfolding settled_by settled
  wrong_values u e = rw (sym es ∙ t, sym ev ∙ u, e)

-- ---- a fresh record

module _ (w h : ℕ) {s : Bool} (es : s ≡ is_size w h) where
  pub made_fresh : s ≡ true → fresh_by (Ok (fresh_beam w h)) ≡ make_fresh w h
  unfolding fresh_by make_fresh
  made_fresh t = rw (sym es ∙ t)

  pub not_fresh : s ≡ false → fresh_by (Err (record { refusal = SurfaceSize; beam = no_beam })) ≡ make_fresh w h
  unfolding fresh_by make_fresh
  not_fresh t = rw (sym es ∙ t)

-- ---- RU's third integer: a signed argument comes back from a callee's contract as the machine reads it

bits-minus : (v : ℤ) → is_negative v ≡ true → false ≡ bits_from v
unfolding bits_from
bits-minus (pos n) e = let k : ◌≡◌ {A = ℕ} 0 1 = cc in absurd (zero_one k)
bits-minus (negsuc n) e = refl

bits-plus : (v : ℤ) → is_negative v ≡ false → is_bits (nat_abs v) ≡ bits_from v
unfolding bits_from
bits-plus (pos n) e = refl
bits-plus (negsuc n) e = let k : ◌≡◌ {A = ℕ} 0 1 = cc in absurd (zero_one k)

module _ (v : ℤ) (f : SFits w32 v) {s : Bool} (es : s ≡ is_negative (to_z w32 (of_z w32 v))) where
  sign : {t : Bool} → s ≡ t → is_negative v ≡ t
  sign q = sym (rw (to_z-of_z f) at es) ∙ q

  pub minus_bits : s ≡ true → false ≡ bits_from v
  minus_bits t = bits-minus v (sign t)

  pub plus_bits : s ≡ false → {m : ℕ} → m ≡ nat_abs (to_z w32 (of_z w32 v)) → {q : Bool} → q ≡ is_bits m → q ≡ bits_from v
  plus_bits t em j = j ∙ ap is_bits (rw (to_z-of_z f) at em) ∙ bits-plus v (sign t)

pub bits_so : (w h : ℕ) (beam : Beam) {q : Settled} (first second v : ℤ) {m : ℕ} {ok : Bool} → SFits w32 v → m ≡ nat_abs (to_z w32 (of_z w32 v)) → ok ≡ bits_from (to_z w32 (of_z w32 v))
    → q ≡ settled w h beam ok (with_bits m beam) → q ≡ set_bits w h beam first second v
unfolding set_bits
bits_so w h beam first second v f em eo j = j ∙ rw (rw (to_z-of_z f) at em, rw (to_z-of_z f) at eo)
