-- "Macros": what defining makes of a store, as a list of entries and as bytes.
use Rattle.std.specs.Prelude.{ℕ, Bool, ◌&&◌, List, [], ◌∷◌, ◌++◌, map, length, leb, ltb, eqb, ℤ, nat_abs}
use Rattle.refusals.specs.Answers.{pick, demand, every}
use Rattle.ranges.specs.Ranges.{within}
use Rattle.macros.specs.Store.{Entry, Layout, size_of, stored, entries, well_formed, keep, below, is_macro_number}

-- ---- one macro put in its place

abbrev pub above : ℕ → List Entry → List Entry
above n es = keep (λ x. ltb n x) es

-- "An empty array deletes"
abbrev pub one : ℕ → List ℕ → List Entry
one n [] = []
one n (b ∷ bs) = record { number = n; body = b ∷ bs } ∷ []

-- "A new body replaces the old one": the entries below the number, the new one, and the entries above it
abbrev pub put : ℕ → List ℕ → List Entry → List Entry
put n body es = below n es ++ (one n body ++ above n es)

-- ---- defining

-- "Numbers 0..32767 (house rule), contents 0..127, at most 256 of them, else 8."
unfoldable pub may_define : Layout → ℤ → List ℤ → Bool
may_define L n contents = is_macro_number n && (leb (length contents) L.longest && every (within 0 127) contents)

-- the new entries
abbrev pub entries_after : Layout → List ℕ → ℤ → List ℤ → List Entry
entries_after L s n contents = put (nat_abs n) (map nat_abs contents) (entries L s)

-- "Order: 12, 8", and then what comes next
unfoldable pub before_room : Layout → List ℕ → ℤ → List ℤ → (next : ℕ) → ℕ
before_room L s n contents next = demand (well_formed L s) 12 (demand (may_define L n contents) 8 next)

-- "13 is given exactly if the new entries together exceed the store"
unfoldable pub define_refusal : Layout → List ℕ → ℤ → List ℤ → ℕ
define_refusal L s n contents = before_room L s n contents (demand (leb (size_of L (entries_after L s n contents)) (length s)) 13 0)

-- refused, the store is as it was
unfoldable pub store_after : Layout → List ℕ → ℤ → List ℤ → List ℕ
store_after L s n contents =
    pick (eqb (define_refusal L s n contents) 0) (stored L (length s) (entries_after L s n contents)) s

-- ---- the same of the macro's number and the bytes of its body

-- whether the new entries fit, and the store with them
unfoldable pub fits_in : Layout → List ℕ → ℕ → List ℕ → Bool
fits_in L s n b = leb (size_of L (put n b (entries L s))) (length s)

unfoldable pub put_in : Layout → List ℕ → ℕ → List ℕ → List ℕ
put_in L s n b = pick (fits_in L s n b) (stored L (length s) (put n b (entries L s))) s
