-- Nothing shorter reads as the same point from the same remembered point, and what reads as a point can be written.
use Prim.Native.Nat.{ℕ, ◌+◌, ◌*◌, ◌/◌, ◌%◌, ◌≤◌, ◌<◌}
use mathlib.Core.Path.{◌≡◌, refl, sym, ◌∙◌, ap}
use mathlib.Core.Bool.{Bool, true, false, ◌&&◌}
use mathlib.Core.List.{List, [], ◌∷◌, ◌++◌}
use native.Mathlib.Omega.{arith}
use borrow.Author.Tests.{le-leb, eq-eqb}
use lib.Dec.{eqb}
use lib.ListN.{length, length-append}
use Rattle.memory.specs.declared.Point.{Point}
use Rattle.memory.specs.declared.Remembered.{Remembered}
use Rattle.memory.specs.Memory.{inside}
use Rattle.refusals.specs.declared.Taken.{Taken}
use Rattle.refusals.specs.Answers.{Answer, done}
use Rattle.refusals.proofs.Cases.{by_pick, Done, done-of, is-done, not_done, bool_apart}
use Rattle.wire.specs.Sending.{sent}
use Rattle.wire.proofs.Sendings.{sent-append}
use Rattle.wire.proofs.Feeds.{Took, one-most, one-least, one-cheap}
use Rattle.points.specs.declared.PointBytes.{PointBytes}
use Rattle.points.specs.Layout.{Inside, bytes_of, coordinates}
use Rattle.points.specs.Reading.{not_allowed, with_hi_y, with_extra, with_lo_y, with_hi_x, with_lo_x, ends_at, lo_x, last_at, after_lo_y, after_upper, after_hi_y, point_from, point_at}
use Rattle.points.specs.Writing.{part, spell_bytes, spell_point}
use Rattle.points.proofs.Insides.{insides}
use Rattle.points.proofs.ByKind.{by-kind}
use Rattle.points.proofs.RoundTrip.{Kinds, kinds_of, regroup}

-- ---- what a spelling costs at most

-- y, u, l and t say of HiY, Extra, LoY and HiX that they are those of the last point
record Same (y u l t : Bool) (a c : PointBytes) : Type 0 where
  same-hiy : y ≡ true → a.hiy ≡ c.hiy
  same-extra : u ≡ true → a.extra ≡ c.extra
  same-loy : l ≡ true → a.loy ≡ c.loy
  same-hix : t ≡ true → a.hix ≡ c.hix

and_true : (a b c : Bool) (x y z : Bool) → (a ≡ true → x ≡ true) → (b ≡ true → y ≡ true) → (c ≡ true → z ≡ true) → a && (b && c) ≡ true → x && (y && z) ≡ true
and_true true true true x y z f g h e = rw (f refl, g refl, h refl)
and_true true true false x y z f g h e = absurd (bool_apart e)
and_true true false c x y z f g h e = absurd (bool_apart e)
and_true false b c x y z f g h e = absurd (bool_apart e)

module _ (kept : Remembered) where
  -- what one byte costs, and a byte that may be left out
  abbrev one : ℕ → ℕ
  one v = length (sent kept (v ∷ []))

  abbrev bytes : Bool → ℕ → ℕ
  bytes true v = 0
  bytes false v = one v

  -- HiY, Extra, LoY and HiX of the bytes b, but those that are left out
  abbrev size : (y u l t : Bool) → PointBytes → ℕ
  size y u l t b = bytes y b.hiy + (bytes u b.extra + (bytes (l && (u && t)) b.loy + bytes t b.hix))

  behind : (v : ℕ) (x : List ℕ) → length (sent kept (v ∷ x)) ≡ one v + length (sent kept x)
  behind v x = ap length (sent-append kept (v ∷ []) x) ∙ length-append (sent kept (v ∷ [])) (sent kept x)

  joined : (t u : Bool) (v : ℕ) (x : List ℕ) (n : ℕ) → (t ≡ true → u ≡ true) → length (sent kept x) ≤ n → length (sent kept (part u v ++ x)) ≤ bytes t v + n
  joined true u v x n h l = rw (h refl) (omega arith)
  joined false true v x n h l = omega arith
  joined false false v x n h l = omega (arith, behind v x)

  spelled_most : (y u l t : Bool) (a b : PointBytes) → Same y u l t a b → length (sent kept (spell_bytes a b)) ≤ size y u l t b + one b.lox
  spelled_most y u l t a b q =
      let y' = eqb a.hiy b.hiy in
      let u' = eqb a.extra b.extra in
      let l' = eqb a.loy b.loy in
      let t' = eqb a.hix b.hix in
      let qy : y ≡ true → y' ≡ true = λ e. eq-eqb a.hiy b.hiy (q.same-hiy e) in
      let qu : u ≡ true → u' ≡ true = λ e. eq-eqb a.extra b.extra (q.same-extra e) in
      let ql : l ≡ true → l' ≡ true = λ e. eq-eqb a.loy b.loy (q.same-loy e) in
      let qt : t ≡ true → t' ≡ true = λ e. eq-eqb a.hix b.hix (q.same-hix e) in
      let w₁ = b.lox ∷ [] in
      let w₂ = part t' b.hix ++ w₁ in
      let w₃ = part (l' && (u' && t')) b.loy ++ w₂ in
      let w₄ = part u' b.extra ++ w₃ in
      let n₁ = one b.lox in
      let n₂ = bytes t b.hix + n₁ in
      let n₃ = bytes (l && (u && t)) b.loy + n₂ in
      let n₄ = bytes u b.extra + n₃ in
      let j₂ = joined t t' b.hix w₁ n₁ qt (omega arith) in
      let j₃ = joined (l && (u && t)) (l' && (u' && t')) b.loy w₂ n₂ (and_true l u t l' u' t' ql qu qt) j₂ in
      let j₄ = joined u u' b.extra w₃ n₃ qu j₃ in
      let j₅ = joined y y' b.hiy w₄ n₄ qy j₄ in
      rw (regroup a b) (omega (arith, j₅))

  -- of a point's own bytes only LoY may be 127, so no point takes more than six
  pub point-few : (p q : Point) → inside q ≡ true → length (sent kept (spell_point p q)) ≤ 6
  point-few p q h =
      let b = bytes_of q in
      let i = insides q h in
      let m = spelled_most false false false false (bytes_of p) b (record {
        same-hiy = λ e. absurd (bool_apart e);
        same-extra = λ e. absurd (bool_apart e);
        same-loy = λ e. absurd (bool_apart e);
        same-hix = λ e. absurd (bool_apart e);
      }) in
      omega (arith, m, one-most kept b.loy, one-cheap kept b.hiy (λ e. omega (arith, i.y-inside)), one-cheap kept b.extra (λ e. omega arith), one-cheap kept b.hix (λ e. omega (arith, i.x-inside)), one-cheap kept b.lox (λ e. omega arith))

-- ---- the bytes of a point that was made of bytes

high_back : (h l e : ℕ) → 32 ≤ h → h < 64 → l < 32 → e < 4 → 32 + (h % 32 * 128 + l * 4 + e) / 128 ≡ h
high_back h l e p q r s = omega arith

low_back : (h l e : ℕ) → l < 32 → e < 4 → (h * 128 + l * 4 + e) / 4 % 32 ≡ l
low_back h l e r s = omega arith

lowest_back : (h l e : ℕ) → e < 4 → (h * 128 + l * 4 + e) % 4 ≡ e
lowest_back h l e s = omega arith

most : (h l e : ℕ) → h < 32 → l < 32 → e < 4 → h * 128 + l * 4 + e ≤ 4095
most h l e p q r = omega arith

module _ (c : PointBytes) (k : Kinds c) where
  made_inside : Inside (coordinates c)
  made_inside = record {
    x-inside = most (c.hix % 32) (c.lox % 32) (c.extra % 4) (omega arith) (omega arith) (omega arith);
    y-inside = most (c.hiy % 32) (c.loy % 32) (c.extra / 4 % 4) (omega arith) (omega arith) (omega arith);
  }

  made_hiy : (bytes_of (coordinates c)).hiy ≡ c.hiy
  made_hiy = high_back c.hiy (c.loy % 32) (c.extra / 4 % 4) k.of_hiy.low k.of_hiy.high (omega arith) (omega arith)

  made_hix : (bytes_of (coordinates c)).hix ≡ c.hix
  made_hix = high_back c.hix (c.lox % 32) (c.extra % 4) k.of_hix.low k.of_hix.high (omega arith) (omega arith)

  made_loy : (bytes_of (coordinates c)).loy ≡ c.loy
  made_loy =
      let q = low_back (c.hiy % 32) (c.loy % 32) (c.extra / 4 % 4) (omega arith) (omega arith) in
      omega (arith, k.of_loy.low, k.of_loy.high)

  made_lox : (bytes_of (coordinates c)).lox ≡ c.lox
  made_lox =
      let q = low_back (c.hix % 32) (c.lox % 32) (c.extra % 4) (omega arith) (omega arith) in
      omega (arith, q, k.of_lox.low, k.of_lox.high)

  -- "the 16 bit of Extra is .. written as 0"
  made_extra : (bytes_of (coordinates c)).extra ≡ 96 + c.extra / 4 % 4 * 4 + c.extra % 4
  made_extra =
      let p = lowest_back (c.hiy % 32) (c.loy % 32) (c.extra / 4 % 4) (omega arith) in
      let q = lowest_back (c.hix % 32) (c.lox % 32) (c.extra % 4) (omega arith) in
      ap (λ (v : ℕ). 96 + v * 4 + (coordinates c).x % 4) p ∙ ap (λ (v : ℕ). 96 + c.extra / 4 % 4 * 4 + v) q

-- ---- each state

-- what was read can be written, reading went forward and stayed within, and the point's own spelling is no longer
pub record Shown (kept : Remembered) (s : List ℕ) (at : ℕ) (r : Taken Point) : Type 0 where
  pub writable : inside r.value ≡ true
  pub shortest : at + length (sent kept (spell_point kept.point r.value)) ≤ r.next
  pub forward : at < r.next
  pub within : r.next ≤ length s

inside_of : (p : Point) → Inside p → inside p ≡ true
inside_of p h = rw (le-leb p.x 4095 h.x-inside, le-leb p.y 4095 h.y-inside)

extra_same : (p q : ℕ) → p < 4 → q < 4 → 96 + (96 + p * 4 + q) / 4 % 4 * 4 + (96 + p * 4 + q) % 4 ≡ 96 + p * 4 + q
extra_same p q g h = omega arith

-- a point that is made of bytes in force has just these for its own, but for the 16 bit of an Extra that was read
made_same : (y u l t : Bool) (p : Point) (c : PointBytes) → Kinds c → Same y u l t (bytes_of p) c → Same y u l t (bytes_of p) (bytes_of (coordinates c))
made_same y u l t p c k q = record {
  same-hiy = λ e. q.same-hiy e ∙ sym (made_hiy c k);
  same-extra = λ e.
      let f = q.same-extra e in
      sym (made_extra c k ∙ ap (λ (v : ℕ). 96 + v / 4 % 4 * 4 + v % 4) (sym f) ∙ extra_same (p.y % 4) (p.x % 4) (omega arith) (omega arith));
  same-loy = λ e. q.same-loy e ∙ sym (made_loy c k);
  same-hix = λ e. q.same-hix e ∙ sym (made_hix c k);
}

-- the 16 bit of an Extra may only have made it dearer
extra_cheap : (kept : Remembered) (c : PointBytes) (k : Kinds c) → one kept (bytes_of (coordinates c)).extra ≤ one kept c.extra
extra_cheap kept c k =
    let e = made_extra c k in
    omega (arith, one-cheap kept (bytes_of (coordinates c)).extra (λ q. omega (arith, e, q)), one-least kept c.extra)

extra_bytes : (kept : Remembered) (u : Bool) (v w : ℕ) → one kept v ≤ one kept w → bytes kept u v ≤ bytes kept u w
extra_bytes kept true v w h = omega arith
extra_bytes kept false v w h = h

-- so the point's own bytes cost no more than those in force
made_most : (kept : Remembered) (y u l t : Bool) (c : PointBytes) → Kinds c → size kept y u l t (bytes_of (coordinates c)) ≤ size kept y u l t c
made_most kept y u l t c k =
    let e = extra_bytes kept u (bytes_of (coordinates c)).extra c.extra (extra_cheap kept c k) in
    omega (arith, e, ap (bytes kept y) (made_hiy c k), ap (bytes kept (l && (u && t))) (made_loy c k), ap (bytes kept t) (made_hix c k))

module _ (kept : Remembered) (s : List ℕ) (start : ℕ) where
  abbrev a : PointBytes
  a = bytes_of kept.point

  abbrev Good : Answer (Taken Point) → Type 0
  Good = Done (Shown kept s start)

  none : (r : Taken ℕ) → Good (not_allowed r)
  none r = not_done (Shown kept s start) 3 r.place

  -- LoX ends the point
  whole : (y u l t : Bool) (c : PointBytes) (at : ℕ) (r : Taken ℕ) → Kinds c → Same y u l t a c → start + size kept y u l t c ≤ at → Took s at r → at + one kept r.value ≤ r.next → 64 ≤ r.value → r.value < 96 → Good (lo_x c r)
  unfolding ends_at
  whole y u l t c at r k q h f paid g m =
      let d = with_lo_x c r.value in
      let kd : Kinds d = record { of_hiy = k.of_hiy; of_extra = k.of_extra; of_loy = k.of_loy; of_hix = k.of_hix; of_lox = record { low = g; high = m } } in
      let qd : Same y u l t a d = record { same-hiy = q.same-hiy; same-extra = q.same-extra; same-loy = q.same-loy; same-hix = q.same-hix } in
      let n = spelled_most kept y u l t a (bytes_of (coordinates d)) (made_same y u l t kept.point d kd qd) in
      is-done (Shown kept s start) (record {
        writable = inside_of (coordinates d) (made_inside d kd);
        shortest = omega (arith, n, made_most kept y u l t d kd, ap (one kept) (made_lox d kd), paid);
        forward = omega (arith, f.forward);
        within = f.within;
      })

  last-good : (y u l t : Bool) (c : PointBytes) (at : ℕ) → Kinds c → Same y u l t a c → start + size kept y u l t c ≤ at → Good (last_at kept c s at)
  unfolding last_at
  last-good y u l t c at k q h =
      by-kind kept s at _ _ _ (Shown kept s start)
      (λ r f x v. none r)
      (λ r f x v w. whole y u l t c at r k q h f x v w)
      (λ r f x v. none r)

  never : {A : Type 0} → false ≡ true → A
  never e = absurd (bool_apart e)

  lo_y_good : (y : Bool) (c : PointBytes) (at : ℕ) → Kinds c → Same y false false true a c → start + size kept y false false true c ≤ at → Good (after_lo_y kept c s at)
  unfolding after_lo_y
  lo_y_good y c at k q h =
      by-kind kept s at _ _ _ (Shown kept s start)
      (λ r f x v. last-good y false false false (with_hi_x c r.value) r.next
      (record { of_hiy = k.of_hiy; of_extra = k.of_extra; of_loy = k.of_loy; of_hix = record { low = f.least; high = v }; of_lox = k.of_lox })
      (record { same-hiy = q.same-hiy; same-extra = never; same-loy = never; same-hix = never })
      (omega (arith, x)))
      (λ r f x v w. whole y false false true c at r k q h f x v w)
      (λ r f x v. none r)

  upper_good : (y : Bool) (c : PointBytes) (u at : ℕ) → 96 ≤ u → u < 128 → Kinds c → Same y true true true a c → start + (bytes kept y c.hiy + one kept u) ≤ at → Good (after_upper kept c u s at)
  unfolding after_upper
  upper_good y c u at lu hu k q h =
      by-kind kept s at _ _ _ (Shown kept s start)
      (λ r f x v. last-good y true false false (with_hi_x (with_lo_y c u) r.value) r.next
      (record { of_hiy = k.of_hiy; of_extra = k.of_extra; of_loy = record { low = lu; high = hu }; of_hix = record { low = f.least; high = v }; of_lox = k.of_lox })
      (record { same-hiy = q.same-hiy; same-extra = q.same-extra; same-loy = never; same-hix = never })
      (omega (arith, x)))
      (λ r f x v w. whole y true false true (with_lo_y c u) at r
      (record { of_hiy = k.of_hiy; of_extra = k.of_extra; of_loy = record { low = lu; high = hu }; of_hix = k.of_hix; of_lox = k.of_lox })
      (record { same-hiy = q.same-hiy; same-extra = q.same-extra; same-loy = never; same-hix = q.same-hix })
      (omega arith) f x v w)
      (λ r f x v. lo_y_good y (with_lo_y (with_extra c u) r.value) r.next
      (record { of_hiy = k.of_hiy; of_extra = record { low = lu; high = hu }; of_loy = record { low = v; high = omega (arith, f.most) }; of_hix = k.of_hix; of_lox = k.of_lox })
      (record { same-hiy = q.same-hiy; same-extra = never; same-loy = never; same-hix = q.same-hix })
      (omega (arith, x)))

  hi_y_good : (c : PointBytes) (at : ℕ) → Kinds c → Same false true true true a c → start + one kept c.hiy ≤ at → Good (after_hi_y kept c s at)
  unfolding after_hi_y
  hi_y_good c at k q h =
      by-kind kept s at _ _ _ (Shown kept s start)
      (λ r f x v. none r)
      (λ r f x v w. whole false true true true c at r k q (omega arith) f x v w)
      (λ r f x v. upper_good false c r.value r.next v (omega (arith, f.most)) k q (omega (arith, x)))

  from-good : Kinds a → Good (point_from kept a s start)
  unfolding point_from
  from-good k =
      let q : Same true true true true a a = record { same-hiy = λ e. refl; same-extra = λ e. refl; same-loy = λ e. refl; same-hix = λ e. refl } in
      by-kind kept s start _ _ _ (Shown kept s start)
      (λ r f x v. hi_y_good (with_hi_y a r.value) r.next
      (record { of_hiy = record { low = f.least; high = v }; of_extra = k.of_extra; of_loy = k.of_loy; of_hix = k.of_hix; of_lox = k.of_lox })
      (record { same-hiy = never; same-extra = λ e. refl; same-loy = λ e. refl; same-hix = λ e. refl })
      x)
      (λ r f x v w. whole true true true true a start r k q (omega arith) f x v w)
      (λ r f x v. upper_good true a r.value r.next v (omega (arith, f.most)) k q (omega (arith, x)))

  point-good : Good (point_at kept s start)
  unfolding point_at
  point-good =
      by_pick Good (inside kept.point) _ _
      (λ t. from-good (kinds_of kept.point (insides kept.point t)))
      (λ t. not_done (Shown kept s start) 8 0)

pub point-shown : (kept : Remembered) (s : List ℕ) (at : ℕ) {r : Taken Point} → point_at kept s at ≡ done r → Shown kept s at r
point-shown kept s at e = done-of (Shown kept s at) (point-good kept s at) e

-- whatever reads as a point from a remembered point took at least as many bytes as the writer gives from there
pub point-shortest : (kept : Remembered) (s : List ℕ) (at : ℕ) {r : Taken Point} → point_at kept s at ≡ done r → at + length (sent kept (spell_point kept.point r.value)) ≤ r.next
point-shortest kept s at e = (point-shown kept s at e).shortest
