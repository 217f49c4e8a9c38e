-- "LoX is always present. The others may be left out and are then those of the last point, with two conditions: Extra needs LoY
-- after it, and HiX needs LoY before it. Of two bytes 96..127 the first is Extra; a single one is LoY."
use Rattle.std.specs.Prelude.{ℕ, List, ltb}
use Rattle.memory.specs.declared.Point.{Point}
use Rattle.memory.specs.declared.Remembered.{Remembered}
use Rattle.memory.specs.Memory.{inside}
use Rattle.refusals.specs.declared.Taken.{Taken}
use Rattle.refusals.specs.Answers.{Answer, done, refused, then, pick}
use Rattle.wire.specs.Taking.{byte_at}
use Rattle.points.specs.declared.PointBytes.{PointBytes}
use Rattle.points.specs.Layout.{bytes_of, coordinates}

-- the next byte, by its kind: 32..63 is HiY or HiX, 64..95 is LoX, 96..127 is Extra or LoY
unfoldable pub by_kind : Remembered → List ℕ → ℕ → (hi lo upper : Taken ℕ → Answer (Taken Point)) → Answer (Taken Point)
by_kind kept s at hi lo upper =
    then (byte_at kept s at) (λ c. pick (ltb c.value 64) (hi c) (pick (ltb c.value 96) (lo c) (upper c)))

abbrev pub not_allowed : Taken ℕ → Answer (Taken Point)
not_allowed c = refused 3 c.place

-- bytes in force, with one of them anew
abbrev pub with_hi_y : PointBytes → ℕ → PointBytes
with_hi_y b v = record { hiy = v; extra = b.extra; loy = b.loy; hix = b.hix; lox = b.lox }

abbrev pub with_extra : PointBytes → ℕ → PointBytes
with_extra b v = record { hiy = b.hiy; extra = v; loy = b.loy; hix = b.hix; lox = b.lox }

abbrev pub with_lo_y : PointBytes → ℕ → PointBytes
with_lo_y b v = record { hiy = b.hiy; extra = b.extra; loy = v; hix = b.hix; lox = b.lox }

abbrev pub with_hi_x : PointBytes → ℕ → PointBytes
with_hi_x b v = record { hiy = b.hiy; extra = b.extra; loy = b.loy; hix = v; lox = b.lox }

abbrev pub with_lo_x : PointBytes → ℕ → PointBytes
with_lo_x b v = record { hiy = b.hiy; extra = b.extra; loy = b.loy; hix = b.hix; lox = v }

-- the point is whole with its LoX
unfoldable pub ends_at : PointBytes → ℕ → ℕ → ℕ → Answer (Taken Point)
ends_at b v p n = done (record { value = coordinates (with_lo_x b v); place = p; next = n })

abbrev pub lo_x : PointBytes → Taken ℕ → Answer (Taken Point)
lo_x b c = ends_at b c.value c.place c.next

-- only LoX is left
unfoldable pub last_at : Remembered → PointBytes → List ℕ → ℕ → Answer (Taken Point)
last_at kept b s at = by_kind kept s at not_allowed (lo_x b) not_allowed

-- Extra and LoY stand: HiX may follow
unfoldable pub after_lo_y : Remembered → PointBytes → List ℕ → ℕ → Answer (Taken Point)
after_lo_y kept b s at = by_kind kept s at (λ c. last_at kept (with_hi_x b c.value) s c.next) (lo_x b) not_allowed

-- one byte 96..127 stands, u: Extra if a second one follows, LoY if not
unfoldable pub after_upper : Remembered → PointBytes → ℕ → List ℕ → ℕ → Answer (Taken Point)
after_upper kept b u s at =
    by_kind kept s at
    (λ c. last_at kept (with_hi_x (with_lo_y b u) c.value) s c.next)
    (lo_x (with_lo_y b u))
    (λ c. after_lo_y kept (with_lo_y (with_extra b u) c.value) s c.next)

-- HiY stands
unfoldable pub after_hi_y : Remembered → PointBytes → List ℕ → ℕ → Answer (Taken Point)
after_hi_y kept b s at = by_kind kept s at not_allowed (lo_x b) (λ c. after_upper kept b c.value s c.next)

-- nothing stands yet, and b are the bytes of the last point
unfoldable pub point_from : Remembered → PointBytes → List ℕ → ℕ → Answer (Taken Point)
point_from kept b s at =
    by_kind kept s at
    (λ c. after_hi_y kept (with_hi_y b c.value) s c.next)
    (lo_x b)
    (λ c. after_upper kept b c.value s c.next)

unfoldable pub point_at : Remembered → List ℕ → ℕ → Answer (Taken Point)
point_at kept s at = pick (inside kept.point) (point_from kept (bytes_of kept.point) s at) (refused 8 0)
