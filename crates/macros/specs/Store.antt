-- "Macros": a store as a list of entries and as bytes, and what looking up makes of it.
use Rattle.std.specs.Prelude.{ℕ, zero, suc, ◌+◌, ◌-◌, ◌*◌, ◌/◌, ◌%◌, ◌≤◌, ◌≡◌, Bool, true, ◌&&◌, List, [], ◌∷◌, ◌++◌, length, get_or, take, drop, replicate, leb, ltb, eqb, ℤ, nat_abs, Result, Ok, Err}
use Rattle.refusals.specs.Refusals.{number_of}
use Rattle.refusals.specs.Answers.{pick, demand, every}
use Rattle.ranges.specs.Ranges.{within}
use Rattle.refusals.specs.declared.Refusal.{Refusal}
use Rattle.macros.specs.declared.Part.{Part}
use Rattle.macros.specs.declared.Place.{Place}

pub record Entry : Type 0 where
  pub number : ℕ
  pub body : List ℕ

-- ---- the header: all that knows its bytes

pub record Layout : Type 0 where
  -- its bytes, and the longest body
  pub size : ℕ
  pub longest : ℕ
  -- the header of a number and a body's length
  pub pack : (number long : ℕ) → List ℕ
  -- the number and the length in the header at the front of bytes; its spare bits, where it has any, are zero
  pub number_in : List ℕ → ℕ
  pub length_in : List ℕ → ℕ
  pub spare_zero : List ℕ → Bool

-- "three bytes, bit-packed, most significant first": as one number
abbrev pub three_in : List ℕ → ℕ
three_in s = get_or s 0 0 * 65536 + get_or s 1 0 * 256 + get_or s 2 0

abbrev pub three_of : ℕ → List ℕ
three_of v = v / 65536 ∷ v / 256 % 256 ∷ v % 256 ∷ []

-- "15 bits of number, 9 bits of body length 1..256"
unfoldable pub three_bytes : Layout
three_bytes = record {
  size = 3;
  longest = 256;
  pack = λ number long. three_of (number * 512 + long);
  number_in = λ s. three_in s / 512;
  length_in = λ s. three_in s % 512;
  spare_zero = λ s. true;
}

-- ---- from entries to bytes

-- an entry is its header; "The body follows"
unfoldable pub encoded : Layout → List Entry → List ℕ
encoded L [] = []
encoded L (e ∷ es) = L.pack e.number (length e.body) ++ (e.body ++ encoded L es)

abbrev pub size_of : Layout → List Entry → ℕ
size_of L es = length (encoded L es)

-- the bytes of an entry with a body of so many; a macro with no body has none
unfoldable pub entry_size : Layout → (count : ℕ) → ℕ
entry_size L count = pick (eqb count 0) 0 (L.size + count)

-- "The rest of the store is all zeros."
abbrev pub stored : Layout → (room : ℕ) → List Entry → List ℕ
stored L room es = encoded L es ++ replicate (room - size_of L es) 0

-- ---- from bytes to entries

abbrev pub at_most : ℕ → ℕ → Bool
at_most most b = leb b most

-- "bytes 0..127"
abbrev pub are_body : List ℕ → Bool
are_body bs = every (at_most 127) bs

abbrev pub are_zeros : List ℕ → Bool
are_zeros bs = every (at_most 0) bs

abbrev pub body_in : Layout → List ℕ → List ℕ
body_in L s = take (L.length_in s) (drop L.size s)

-- an entry at the front of the bytes that may stand there: whole, a body of 1 byte to the longest, and a number from least on
unfoldable pub is_store_entry : Layout → (least : ℕ) → List ℕ → Bool
is_store_entry L least s =
    leb L.size (length s)
    && (leb 1 (L.length_in s)
    && (leb (L.length_in s) L.longest
    && (leb (L.size + L.length_in s) (length s) && (L.spare_zero s && (leb least (L.number_in s) && are_body (body_in L s))))))

-- the entries at the front of the bytes, "in rising macro number, each number once", as far as they go; there are at most k
unfoldable pub front_entries : Layout → (k least : ℕ) → List ℕ → List Entry
front_entries L zero least s = []
front_entries L (suc k) least s =
    pick (is_store_entry L least s)
    (record { number = L.number_in s; body = body_in L s } ∷ front_entries L k (L.number_in s + 1) (drop (L.size + L.length_in s) s))
    []

-- an entry takes at least one byte
abbrev pub entries : Layout → List ℕ → List Entry
entries L s = front_entries L (length s) 0 s

-- "A store is entries [..]. The rest of the store is all zeros. A store of length 0 is empty and well formed."
unfoldable pub well_formed : Layout → List ℕ → Bool
well_formed L s = are_zeros (drop (size_of L (entries L s)) s)

-- ---- a list of entries

-- one that may stand in a store, with a number from least on: "15 bits of number", "body length 1..256", "bytes 0..127"
pub record MayStand (L : Layout) (least : ℕ) (e : Entry) : Type 0 where
  pub rising : least ≤ e.number
  pub small : e.number ≤ 32767
  pub some : 1 ≤ length e.body
  pub most : length e.body ≤ L.longest
  pub bytes : are_body e.body ≡ true

-- "entries in rising macro number, each number once"
unfoldable pub Rising : Layout → (least : ℕ) → List Entry → Type 0
Rising L least [] = Unit {0}
Rising L least (e ∷ es) = MayStand L least e × Rising L (e.number + 1) es

unfoldable pub keep : (ℕ → Bool) → List Entry → List Entry
keep p [] = []
keep p (e ∷ es) = pick (p e.number) (e ∷ keep p es) (keep p es)

abbrev pub below : ℕ → List Entry → List Entry
below n es = keep (λ x. ltb x n) es

-- the body of a macro; none where it is absent, since a body has at least one byte
unfoldable pub body_of : ℕ → List Entry → List ℕ
body_of n [] = []
body_of n (e ∷ es) = pick (eqb e.number n) e.body (body_of n es)

-- ---- looking up

-- "Numbers 0..32767"
abbrev pub is_macro_number : ℤ → Bool
is_macro_number n = within 0 32767 n

abbrev pub or_else : List ℕ → List ℕ → List ℕ
or_else [] other = other
or_else (b ∷ bs) other = b ∷ bs

-- "the body as part of the volatile store if it is there, otherwise as part of the saved store"
unfoldable pub body_in_either : Layout → (volatile saved : List ℕ) → ℕ → List ℕ
body_in_either L volatile saved n = or_else (body_of n (entries L volatile)) (body_of n (entries L saved))

-- "12, 8 or 14 in that order": a malformed store, an outside number, and then what comes next
unfoldable pub look_refusal : Layout → (volatile saved : List ℕ) → ℤ → (next : ℕ) → ℕ
look_refusal L volatile saved n next = demand (well_formed L volatile && well_formed L saved) 12 (demand (is_macro_number n) 8 next)

-- "an absent macro"
unfoldable pub find_refusal : Layout → (volatile saved : List ℕ) → ℤ → ℕ
find_refusal L volatile saved n = look_refusal L volatile saved n (demand (leb 1 (length (body_in_either L volatile saved (nat_abs n)))) 14 0)

-- "a malformed store, an outside number or an absent macro gives an empty part"
unfoldable pub looked_up : Layout → (volatile saved : List ℕ) → ℤ → List ℕ
looked_up L volatile saved n = pick (eqb (find_refusal L volatile saved n) 0) (body_in_either L volatile saved (nat_abs n)) []

-- ---- where the body stands

-- 0 or the refusal's number; the store, 1 for the volatile one and 2 for the saved one; where the body begins in it, and its length
pub record Placed : Type 0 where
  pub number : ℕ
  pub store : ℕ
  pub offset : ℕ
  pub long : ℕ

-- "The body follows" the header, which stands behind the entries below the number
abbrev pub placed_in : Layout → (store : ℕ) → List ℕ → ℕ → Placed
placed_in L store s n = record { number = 0; store = store; offset = size_of L (below n (entries L s)) + L.size; long = length (body_of n (entries L s)) }

-- refused, the rest is 0
abbrev pub unplaced : ℕ → Placed
unplaced e = record { number = e; store = 0; offset = 0; long = 0 }

-- "part of the volatile store if it is there, otherwise [..] part of the saved store"
unfoldable pub placed : Layout → (volatile saved : List ℕ) → ℤ → Placed
placed L volatile saved n =
    pick (eqb (find_refusal L volatile saved n) 0)
    (pick (leb 1 (length (body_of (nat_abs n) (entries L volatile)))) (placed_in L 1 volatile (nat_abs n)) (placed_in L 2 saved (nat_abs n)))
    (unplaced (find_refusal L volatile saved n))

-- what belongs to the store that it names
abbrev pub store_named : {A : Type 0} → Placed → (volatile saved : A) → A
store_named p volatile saved = pick (eqb p.store 1) volatile saved

-- the bytes that stand there
abbrev pub bytes_placed : Placed → (volatile saved : List ℕ) → List ℕ
bytes_placed p volatile saved = take p.long (drop p.offset (store_named p volatile saved))

-- where a reference to the body points, by where those to the stores point: to its first byte in the store that is named. Refused, to the front of the
-- saved store. A pointer is a block of memory, and a place in it.
unfoldable pub body_pointer : Placed → (volatile saved : ℕ × ℕ) → ℕ × ℕ
body_pointer p volatile saved = ((store_named p volatile saved).0, p.offset + (store_named p volatile saved).1)

-- what the answer says
abbrev pub placed_at : (store : ℕ) → Part → Placed
placed_at store p = record { number = 0; store = store; offset = p.offset; long = p.long }

unfoldable pub body_place_of : Result Place Refusal → Placed
body_place_of (Ok (Place.InVolatile part)) = placed_at 1 part
body_place_of (Ok (Place.InSaved part)) = placed_at 2 part
body_place_of (Err e) = unplaced (number_of e)

-- ---- looking up by the headers alone

-- a header at the front of the bytes, with room for its body; zeros are none
unfoldable pub has_body : Layout → List ℕ → Bool
has_body L s = leb L.size (length s) && (leb 1 (L.length_in s) && leb (L.size + L.length_in s) (length s))

-- where the body of a macro stands, from header to header: s is what stands from at on, and there are at most k of them. In "rising macro number" it does
-- not stand behind a greater one. Where it is absent both are 0
abbrev pub nowhere : Part
nowhere = record { offset = 0; long = 0 }

unfoldable pub part_by_headers : Layout → (k number at : ℕ) → List ℕ → Part
part_by_headers L zero n at s = nowhere
part_by_headers L (suc k) n at s =
    pick (has_body L s && leb (L.number_in s) n)
    (pick (eqb (L.number_in s) n) (record { offset = at + L.size; long = L.length_in s }) (part_by_headers L k n (at + (L.size + L.length_in s)) (drop (L.size + L.length_in s) s)))
    nowhere

abbrev pub part_in : Layout → (number : ℕ) → List ℕ → Part
part_in L n s = part_by_headers L (length s) n 0 s

-- in the volatile store if it is there, otherwise in the saved store; none for an outside number
unfoldable pub placed_by_headers : Layout → (volatile saved : List ℕ) → ℤ → Placed
placed_by_headers L volatile saved n =
    pick (is_macro_number n)
    (pick (leb 1 (part_in L (nat_abs n) volatile).long) (placed_at 1 (part_in L (nat_abs n) volatile)) (placed_at 2 (part_in L (nat_abs n) saved)))
    (placed_at 2 nowhere)

unfoldable pub looked_by_headers : Layout → (volatile saved : List ℕ) → ℤ → List ℕ
looked_by_headers L volatile saved n = bytes_placed (placed_by_headers L volatile saved n) volatile saved
