-- What the functions behind the calls say of a header and of an entry at a place of a store.
use Rattle.std.specs.Prelude.{ℕ, ◌+◌, ◌-◌, ◌≤◌, ◌<◌, ◌≡◌, Bool, true, false, List, ltb, length, get_or, take, drop, Option, Some, None}
use Rattle.std.specs.Borrow.{Bor}
use Rattle.refusals.specs.Answers.{pick}
use Rattle.macros.specs.declared.EntryAt.{EntryAt}
use Rattle.macros.specs.declared.Part.{Part}
use Rattle.macros.specs.declared.Gap.{Gap}
use Rattle.macros.specs.Store.{Layout, size_of, entries, well_formed, below}

-- every element is a byte, as those of a slice of u8 are
unfoldable pub Bytes : List ℕ → Type 0
Bytes s = (i : ℕ) → get_or s i 0 ≤ 255

-- the body of the header at the front of the bytes d has k bytes
pub record LengthIs (L : Layout) (d : List ℕ) (k : ℕ) : Type 0 where
  pub long : k ≡ L.length_in d

-- what passes a test at a place: its number, and where its body begins and ends
pub record EntryIs (L : Layout) (passes : List ℕ → Bool) (s : List ℕ) (at number from to : ℕ) : Type 0 where
  pub is : passes (drop at s) ≡ true
  pub here : number ≡ L.number_in (drop at s)
  pub begins : from ≡ at + L.size
  pub ends : to ≡ from + L.length_in (drop at s)
  pub spare : L.spare_zero (drop at s) ≡ true
  pub some : from < to
  pub small : number ≤ 32767
  pub inside : to ≤ length s

unfoldable pub FrontIs : Layout → (passes : List ℕ → Bool) → List ℕ → ℕ → Option EntryAt → Type 0
FrontIs L passes s at (Some e) = EntryIs L passes s at e.number e.from e.to
FrontIs L passes s at None = passes (drop at s) ≡ false

-- ---- one pass over a store

-- where a macro stands among the entries passed, and one more: that of n, which ends at to
unfoldable pub gap_behind : Gap → (number n to : ℕ) → Gap
gap_behind g number n to = record { at = pick (ltb n number) to g.at; old = pick (ltb n (number + 1)) to g.old; end = to }

-- where a macro stands in a store, or would stand, and where the entries end
pub record GapIs (L : Layout) (s : List ℕ) (number : ℕ) (g : Gap) : Type 0 where
  pub at : g.at ≡ size_of L (below number (entries L s))
  pub old : g.old ≡ size_of L (below (number + 1) (entries L s))
  pub end : g.end ≡ size_of L (entries L s)
  pub forth : g.at ≤ g.old
  pub further : g.old ≤ g.end
  pub inside : g.end ≤ length s
  pub bytes : Bytes s

pub record FormedIs (L : Layout) (s : List ℕ) (number : ℕ) (g : Gap) : Type 0 where
  pub formed : well_formed L s ≡ true
  pub gap : GapIs L s number g

unfoldable pub SurveyIs : Layout → List ℕ → (number : ℕ) → Option Gap → Type 0
SurveyIs L s number (Some g) = FormedIs L s number g
SurveyIs L s number None = well_formed L s ≡ false

-- the body between where a macro's entry begins and where it ends, if it has one
unfoldable pub body_between : Layout → Gap → Option Part
body_between L g = pick (ltb g.at g.old) (Some (record { offset = g.at + L.size; long = g.old - (g.at + L.size) })) None

-- ---- a part of a store, handed back

-- r refers to so many bytes of the store from so many on
pub record HandsPart (store : Bor (List ℕ)) (p : Part) (r : Bor (List ℕ)) : Type 0 where
  pub bytes : r.now ≡ take p.long (drop p.offset store.now)
  pub block : r.ref_ptr.0 ≡ store.ref_ptr.0
  pub place : r.ref_ptr.1 ≡ p.offset + store.ref_ptr.1
