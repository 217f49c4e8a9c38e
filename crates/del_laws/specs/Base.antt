-- Document 01's own reading of parameters, "127 is data wherever a parameter allows it": "KI 0 returns to the old reading". Here is no mode, and what is
-- remembered is the point alone. What knows no mode is not written down again. proofs/Base.antt proves that in that mode it is what reading does.
use Rattle.std.specs.Prelude.{ℕ, zero, suc, ◌+◌, ◌*◌, ◌%◌, List, [], ◌∷◌, ◌++◌, ltb, eqb, length, get_or, ℤ}
use Rattle.memory.specs.declared.DelMode.TheVariants.{Data}
use Rattle.memory.specs.declared.Point.{Point}
use Rattle.memory.specs.declared.Remembered.{Remembered}
use Rattle.memory.specs.Memory.{inside}
use Rattle.refusals.specs.declared.Taken.{Taken}
use Rattle.refusals.specs.Answers.{Answer, done, refused, then, pick, ends_after, all_after}
use Rattle.wire.specs.Taking.{plain_at}
use Rattle.ranges.specs.Ranges.{most_entries}
use Rattle.numbers.specs.Integers.{low_byte}
use Rattle.numbers.specs.Counts.{count_in}
use Rattle.points.specs.declared.PointBytes.{PointBytes}
use Rattle.points.specs.Layout.{bytes_of}
use Rattle.points.specs.Reading.{not_allowed, with_hi_y, with_extra, with_lo_y, with_hi_x, lo_x}
use Rattle.parameters.specs.declared.CountedRun.{CountedRun}
use Rattle.parameters.specs.declared.Entry.{Entry}
use Rattle.parameters.specs.declared.Entry.TheVariants.{AnInteger, ACharacter}
use Rattle.parameters.specs.Entries.{as_entry}
use Rattle.parameters.specs.Shapes.{Tailed, no_list, list_of, Part, single, real, point, Shape, number, scaled, place}
use Rattle.parameters.specs.Looking.{Fixed, Parsed, entry_in}

-- the remembered point, where 127 is data
abbrev pub point_alone : Point → Remembered
point_alone p = record { point = p; mode = Data }

-- "In a parameter, ESC followed by 63 reads as 127", "27 at the end of the bytes is 1; 27 before another byte than 63 is 6 at the 27"
unfoldable pub base_pair : List ℕ → ℕ → Answer (Taken ℕ)
base_pair s at =
    pick (ltb (at + 1) (length s))
    (pick (eqb (get_or s (at + 1) 0) 63) (done (record { value = 127; place = at + 1; next = at + 1 + 1 })) (refused 6 at))
    (refused 1 (length s))

unfoldable pub base_byte : List ℕ → ℕ → Answer (Taken ℕ)
base_byte s at =
    pick (ltb at (length s)) (pick (eqb (get_or s at 0) 27) (base_pair s at) (plain_at (get_or s at 0) at)) (refused 1 (length s))

module _ (s : List ℕ) where
  -- "Up to two high bytes 64..127, six bits each, then a low byte 32..63"
  unfoldable pub base_highs : ℕ → ℕ → ℕ → Answer (Taken ℤ)
  base_highs zero h at =
      then (base_byte s at) (λ b. pick (ltb b.value 64) (low_byte h b.value b.place b.next) (refused 4 b.place))
  base_highs (suc k) h at =
      then (base_byte s at)
      (λ b. pick (ltb b.value 64) (low_byte h b.value b.place b.next) (base_highs k (h * 64 + b.value % 64) b.next))

  abbrev pub base_integer : ℕ → Answer (Taken ℤ)
  base_integer at = base_highs 2 0 at

  -- "Of two bytes 96..127 the first is Extra; a single one is LoY."
  unfoldable pub base_kind : ℕ → (hi lo upper : Taken ℕ → Answer (Taken Point)) → Answer (Taken Point)
  base_kind at hi lo upper = then (base_byte s at) (λ c. pick (ltb c.value 64) (hi c) (pick (ltb c.value 96) (lo c) (upper c)))

  unfoldable pub base_last : PointBytes → ℕ → Answer (Taken Point)
  base_last b at = base_kind at not_allowed (lo_x b) not_allowed

  unfoldable pub base_lo_y : PointBytes → ℕ → Answer (Taken Point)
  base_lo_y b at = base_kind at (λ c. base_last (with_hi_x b c.value) c.next) (lo_x b) not_allowed

  unfoldable pub base_upper : PointBytes → ℕ → ℕ → Answer (Taken Point)
  base_upper b u at =
      base_kind at
      (λ c. base_last (with_hi_x (with_lo_y b u) c.value) c.next)
      (lo_x (with_lo_y b u))
      (λ c. base_lo_y (with_lo_y (with_extra b u) c.value) c.next)

  unfoldable pub base_hi_y : PointBytes → ℕ → Answer (Taken Point)
  base_hi_y b at = base_kind at not_allowed (lo_x b) (λ c. base_upper b c.value c.next)

  unfoldable pub base_from : PointBytes → ℕ → Answer (Taken Point)
  base_from b at = base_kind at (λ c. base_hi_y (with_hi_y b c.value) c.next) (lo_x b) (λ c. base_upper b c.value c.next)

  unfoldable pub base_point : Point → ℕ → Answer (Taken Point)
  base_point p at = pick (inside p) (base_from (bytes_of p) at) (refused 8 0)

  -- "A string is a count and that many bytes 32..127; an array is a count and that many integers."
  unfoldable pub base_entry : Entry → ℕ → Answer (Taken ℤ)
  base_entry AnInteger at = base_integer at
  base_entry ACharacter at = then (base_byte s at) as_entry

  unfoldable pub base_tail : Tailed → ℕ → Answer CountedRun
  base_tail no_list at = done (record { start = 0; count = 0; next = at })
  base_tail (list_of e) at =
      then (count_in most_entries (base_integer at))
      (λ c. then (ends_after (base_entry e) c.value c.next) (λ n. done (record { start = c.next; count = c.value; next = n })))

  -- "Real. Two integers, mantissa and exponent"; a point is remembered
  unfoldable pub base_part : Point → Part → ℕ → Answer Fixed
  base_part p (single e) at = then (base_entry e at) (λ i. done (record { values = number e i.value ∷ []; next = i.next; kept = point_alone p }))
  base_part p real at =
      then (base_integer at)
      (λ m. then (base_integer m.next) (λ x. done (record { values = scaled m.value x.value ∷ []; next = x.next; kept = point_alone p })))
  base_part p point at = then (base_point p at) (λ q. done (record { values = place q.value ∷ []; next = q.next; kept = point_alone q.value }))

  unfoldable pub base_fixed : Point → List Part → ℕ → Answer Fixed
  base_fixed p [] at = done (record { values = []; next = at; kept = point_alone p })
  base_fixed p (part ∷ parts) at =
      then (base_part p part at)
      (λ f. then (base_fixed f.kept.point parts f.next)
      (λ g. done (record { values = f.values ++ g.values; next = g.next; kept = g.kept })))

  unfoldable pub base_parameters : Point → Shape → ℕ → Answer Parsed
  base_parameters p shape at =
      then (base_fixed p shape.fixed at)
      (λ f. then (base_tail shape.tail f.next)
      (λ h. done (record { values = f.values; tail = shape.tail; start = h.start; count = h.count; next = h.next; kept = f.kept })))

  abbrev pub base_entries : Parsed → List ℤ
  base_entries p = all_after (base_entry (entry_in p.tail)) p.count p.start
