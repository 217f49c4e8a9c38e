-- A point that is written reads back from the same remembered point, whatever stands before and after.
use Prim.Native.Nat.{ℕ, ◌+◌, ◌*◌, ◌/◌, ◌%◌, ◌≤◌, ◌<◌}
use mathlib.Core.Path.{◌≡◌, refl, ◌∙◌, ap}
use mathlib.Core.Bool.{Bool, true, false, ◌&&◌}
use mathlib.Core.List.{List, [], ◌∷◌, ◌++◌, append_assoc}
use native.Mathlib.Omega.{arith}
use borrow.Author.Tests.{eqb-true}
use lib.Dec.{eqb}
use lib.ListN.{length}
use Rattle.memory.specs.declared.Point.{Point}
use Rattle.memory.specs.declared.Remembered.{Remembered}
use Rattle.memory.specs.Memory.{inside}
use Rattle.refusals.specs.declared.Taken.{Taken}
use Rattle.refusals.specs.Answers.{Answer, Reads}
use Rattle.wire.specs.Sending.{sent}
use Rattle.wire.proofs.Feeds.{Feeds, Plain, Stands, stands-between, sent-taken}
use Rattle.points.specs.declared.PointBytes.{PointBytes}
use Rattle.points.specs.Layout.{Inside, bytes_of, coordinates}
use Rattle.points.specs.Reading.{by_kind, with_hi_y, with_extra, with_lo_y, with_hi_x, with_lo_x, ends_at, lo_x, last_at, after_lo_y, after_upper, after_hi_y, point_from, point_at}
use Rattle.points.specs.Writing.{part, spell_bytes, spell_point}
use Rattle.points.proofs.Insides.{insides}
use Rattle.points.proofs.ByKind.{is-hi, is-lo, is-upper}

-- bytes that a point can have
pub record From (least most v : ℕ) : Type 0 where
  pub low : least ≤ v
  pub high : v < most

pub record Kinds (b : PointBytes) : Type 0 where
  pub of_hiy : From 32 64 b.hiy
  pub of_extra : From 96 128 b.extra
  pub of_loy : From 96 128 b.loy
  pub of_hix : From 32 64 b.hix
  pub of_lox : From 64 96 b.lox

pub kinds_of : (p : Point) → Inside p → Kinds (bytes_of p)
kinds_of p h = record {
  of_hiy = record { low = omega arith; high = omega (arith, h.y-inside) };
  of_extra = record { low = omega arith; high = omega arith };
  of_loy = record { low = omega arith; high = omega arith };
  of_hix = record { low = omega arith; high = omega (arith, h.x-inside) };
  of_lox = record { low = omega arith; high = omega arith };
}

-- a coordinate of its high, its low and its lowest bits
whole : (v low lowest : ℕ) → v ≤ 4095 → low ≡ v / 4 % 32 → lowest ≡ v % 4 → (32 + v / 128) % 32 * 128 + low * 4 + lowest ≡ v
whole v low lowest h e f = omega arith

-- Extra gives back the lowest bits of both
extra_x : (a b : ℕ) → a < 4 → b < 4 → (96 + a * 4 + b) % 4 ≡ b
extra_x a b h l = omega arith

extra_y : (a b : ℕ) → a < 4 → b < 4 → (96 + a * 4 + b) / 4 % 4 ≡ a
extra_y a b h l = omega arith

pub bytes_back : (p : Point) → Inside p → coordinates (bytes_of p) ≡ p
bytes_back p h =
    let x = whole p.x ((64 + p.x / 4 % 32) % 32) ((96 + p.y % 4 * 4 + p.x % 4) % 4) h.x-inside (omega arith) (extra_x (p.y % 4) (p.x % 4) (omega arith) (omega arith)) in
    let y = whole p.y ((96 + p.y / 4 % 32) % 32) ((96 + p.y % 4 * 4 + p.x % 4) / 4 % 4) h.y-inside (omega arith) (extra_y (p.y % 4) (p.x % 4) (omega arith) (omega arith)) in
    ap (λ (v : ℕ). record { x = v; y = (coordinates (bytes_of p)).y }) x ∙ ap (λ (v : ℕ). record { x = p.x; y = v }) y

same_point : (a b : PointBytes) → a.hiy ≡ b.hiy → a.extra ≡ b.extra → a.loy ≡ b.loy → a.hix ≡ b.hix → coordinates (with_lo_x a b.lox) ≡ coordinates b
same_point a b e f g h = rw (e, f, g, h)

-- the parts of a spelling, y, u, l and t saying which are left out
abbrev pub parts : (y u l t : Bool) → PointBytes → List ℕ
parts y u l t b = part y b.hiy ++ (part u b.extra ++ (part (l && (u && t)) b.loy ++ (part t b.hix ++ (b.lox ∷ []))))

-- ---- the bytes of the point b, taken one by one; a are those in force

module _ (kept : Remembered) (s : List ℕ) (b : PointBytes) (k : Kinds b) (n : ℕ) where
  abbrev Back : Answer (Taken Point) → Type 0
  Back = Reads (coordinates b) n

  -- LoX ends the point in every state
  fed_end : (a : PointBytes) (at : ℕ) (hi upper : Taken ℕ → Answer (Taken Point)) → a.hiy ≡ b.hiy → a.extra ≡ b.extra → a.loy ≡ b.loy → a.hix ≡ b.hix → Feeds kept s at (b.lox ∷ []) n → Back (by_kind kept s at hi (lo_x a) upper)
  unfolding Reads ends_at
  fed_end a at hi upper e f g h (p, (m, (x, z))) =
      rw (is-lo kept s at hi (lo_x a) upper x k.of_lox.low k.of_lox.high) (same_point a b e f g h, z)

  fed_last : (a : PointBytes) (at : ℕ) → a.hiy ≡ b.hiy → a.extra ≡ b.extra → a.loy ≡ b.loy → a.hix ≡ b.hix → Feeds kept s at (b.lox ∷ []) n → Back (last_at kept a s at)
  unfolding last_at
  fed_last a at e f g h x = fed_end a at _ _ e f g h x

  -- HiX where it is not left out, then LoX
  fed_x : (t : Bool) (a : PointBytes) (at : ℕ) → a.hiy ≡ b.hiy → a.extra ≡ b.extra → a.loy ≡ b.loy → (t ≡ true → a.hix ≡ b.hix) → Feeds kept s at (part t b.hix ++ (b.lox ∷ [])) n → Back (after_lo_y kept a s at)
  unfolding after_lo_y
  fed_x true a at e f g h x = fed_end a at _ _ e f g (h refl) x
  fed_x false a at e f g h (p, (m, (x, z))) =
      rw (is-hi kept s at _ _ _ x k.of_hix.high) (fed_last (with_hi_x a b.hix) m e f g refl z)

  -- behind a single byte 96..127, LoY
  fed_lo : (t : Bool) (a : PointBytes) (at : ℕ) → a.hiy ≡ b.hiy → a.extra ≡ b.extra → (t ≡ true → a.hix ≡ b.hix) → Feeds kept s at (part t b.hix ++ (b.lox ∷ [])) n → Back (after_upper kept a b.loy s at)
  unfolding after_upper
  fed_lo true a at e f h x = fed_end (with_lo_y a b.loy) at _ _ e f refl (h refl) x
  fed_lo false a at e f h (p, (m, (x, z))) =
      rw (is-hi kept s at _ _ _ x k.of_hix.high) (fed_last (with_hi_x (with_lo_y a b.loy) b.hix) m e f refl refl z)

  -- behind the first of two, Extra
  fed_extra : (t : Bool) (a : PointBytes) (at : ℕ) → a.hiy ≡ b.hiy → (t ≡ true → a.hix ≡ b.hix) → Feeds kept s at (b.loy ∷ (part t b.hix ++ (b.lox ∷ []))) n → Back (after_upper kept a b.extra s at)
  unfolding after_upper
  fed_extra t a at e h (p, (m, (x, z))) =
      rw (is-upper kept s at _ _ _ x k.of_loy.low) (fed_x t (with_lo_y (with_extra a b.extra) b.loy) m e refl refl h z)

  -- LoY alone, or Extra and LoY, where both may come
  module _ (a : PointBytes) (at : ℕ) (hi : Taken ℕ → Answer (Taken Point)) (e : a.hiy ≡ b.hiy) where
    abbrev here : Answer (Taken Point)
    here = by_kind kept s at hi (lo_x a) (λ c. after_upper kept a c.value s c.next)

    upper_lo : (t : Bool) → a.extra ≡ b.extra → (t ≡ true → a.hix ≡ b.hix) → Feeds kept s at (b.loy ∷ (part t b.hix ++ (b.lox ∷ []))) n → Back here
    upper_lo t f h (p, (m, (x, z))) = rw (is-upper kept s at hi (lo_x a) _ x k.of_loy.low) (fed_lo t a m e f h z)

    upper_extra : (t : Bool) → (t ≡ true → a.hix ≡ b.hix) → Feeds kept s at (b.extra ∷ b.loy ∷ (part t b.hix ++ (b.lox ∷ []))) n → Back here
    upper_extra t h (p, (m, (x, z))) = rw (is-upper kept s at hi (lo_x a) _ x k.of_extra.low) (fed_extra t a m e h z)

    -- all that stands behind HiY, or in its place
    fed_rest : (u l t : Bool) → (u ≡ true → a.extra ≡ b.extra) → (l ≡ true → a.loy ≡ b.loy) → (t ≡ true → a.hix ≡ b.hix) → Feeds kept s at (part u b.extra ++ (part (l && (u && t)) b.loy ++ (part t b.hix ++ (b.lox ∷ [])))) n → Back here
    fed_rest true true true f g h x = fed_end a at hi _ e (f refl) (g refl) (h refl) x
    fed_rest true true false f g h x = upper_lo false (f refl) h x
    fed_rest true false true f g h x = upper_lo true (f refl) h x
    fed_rest true false false f g h x = upper_lo false (f refl) h x
    fed_rest false true true f g h x = upper_extra true h x
    fed_rest false true false f g h x = upper_extra false h x
    fed_rest false false true f g h x = upper_extra true h x
    fed_rest false false false f g h x = upper_extra false h x

  fed_all : (y u l t : Bool) (a : PointBytes) (at : ℕ) → (y ≡ true → a.hiy ≡ b.hiy) → (u ≡ true → a.extra ≡ b.extra) → (l ≡ true → a.loy ≡ b.loy) → (t ≡ true → a.hix ≡ b.hix) → Feeds kept s at (parts y u l t b) n → Back (point_from kept a s at)
  unfolding point_from after_hi_y
  fed_all true u l t a at e f g h x = fed_rest a at _ (e refl) u l t f g h x
  fed_all false u l t a at e f g h (p, (m, (x, z))) =
      rw (is-hi kept s at _ _ _ x k.of_hiy.high) (fed_rest (with_hi_y a b.hiy) m _ refl u l t f g h z)

-- ---- the whole point

pub regroup : (a b : PointBytes) → spell_bytes a b ≡ parts (eqb a.hiy b.hiy) (eqb a.extra b.extra) (eqb a.loy b.loy) (eqb a.hix b.hix) b
unfolding spell_bytes
regroup a b = simp append_assoc

part-plain : {least most : ℕ} (t : Bool) (v : ℕ) (w : List ℕ) → 32 ≤ least → most ≤ 128 → From least most v → Plain w → Plain (part t v ++ w)
part-plain true v w l h f pl = pl
part-plain false v w l h f pl = ((omega (arith, f.low), omega (arith, f.high)), pl)

parts_plain : (y u l t : Bool) (b : PointBytes) → Kinds b → Plain (parts y u l t b)
parts_plain y u l t b k =
    let w₁ = b.lox ∷ [] in
    let w₂ = part t b.hix ++ w₁ in
    let w₃ = part (l && (u && t)) b.loy ++ w₂ in
    let w₄ = part u b.extra ++ w₃ in
    let p₁ : Plain w₁ = part-plain false b.lox [] (omega arith) (omega arith) k.of_lox tt in
    let p₂ : Plain w₂ = part-plain t b.hix w₁ (omega arith) (omega arith) k.of_hix p₁ in
    let p₃ : Plain w₃ = part-plain (l && (u && t)) b.loy w₂ (omega arith) (omega arith) k.of_loy p₂ in
    let p₄ : Plain w₄ = part-plain u b.extra w₃ (omega arith) (omega arith) k.of_extra p₃ in
    part-plain y b.hiy w₄ (omega arith) (omega arith) k.of_hiy p₄

module _ (kept : Remembered) (p : Point) (last : inside kept.point ≡ true) (this : inside p ≡ true) where
  pub point-plain : Plain (spell_point kept.point p)
  point-plain =
      let a = bytes_of kept.point in
      let b = bytes_of p in
      rw (regroup a b) (parts_plain (eqb a.hiy b.hiy) (eqb a.extra b.extra) (eqb a.loy b.loy) (eqb a.hix b.hix) b (kinds_of p (insides p this)))

  pub point-fed : (s : List ℕ) (at n : ℕ) → Feeds kept s at (spell_point kept.point p) n → Reads p n (point_at kept s at)
  unfolding point_at
  point-fed s at n f =
      let a = bytes_of kept.point in
      let b = bytes_of p in
      let i = insides p this in
      let q = fed_all kept s b (kinds_of p i) n (eqb a.hiy b.hiy) (eqb a.extra b.extra) (eqb a.loy b.loy) (eqb a.hix b.hix) a at (eqb-true a.hiy b.hiy) (eqb-true a.extra b.extra) (eqb-true a.loy b.loy) (eqb-true a.hix b.hix) (rw (regroup a b) at f) in
      rw last (rw (bytes_back p i) at q)

  pub point-back : (s : List ℕ) (at : ℕ) → Stands s at (sent kept (spell_point kept.point p)) → Reads p (at + length (sent kept (spell_point kept.point p))) (point_at kept s at)
  point-back s at st = point-fed s at (at + length (sent kept (spell_point kept.point p))) (sent-taken kept s at (spell_point kept.point p) point-plain st)

  -- reading what is written gives the point and ends behind it, whatever stands before and after
  pub point-round : (before after : List ℕ) → Reads p (length before + length (sent kept (spell_point kept.point p))) (point_at kept (before ++ (sent kept (spell_point kept.point p) ++ after)) (length before))
  point-round before after =
      point-back (before ++ (sent kept (spell_point kept.point p) ++ after)) (length before) (stands-between before (sent kept (spell_point kept.point p)) after)
