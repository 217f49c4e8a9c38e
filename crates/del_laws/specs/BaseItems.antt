-- Document 01's own items. What K2 changes in the old reading is the mode behind KI 1, and nothing else: proofs/BaseItems.antt.
use Rattle.std.specs.Prelude.{ℕ, zero, suc, ◌+◌, Bool, true, false, not, ◌&&◌, List, [], ◌∷◌, length, get_or, ltb, leb, eqb, ℤ, pos, negsuc}
use Rattle.memory.specs.declared.DelMode.TheVariants.{Filler}
use Rattle.memory.specs.declared.Point.{Point}
use Rattle.memory.specs.declared.Remembered.{Remembered}
use Rattle.memory.specs.Memory.{inside, in_mode}
use Rattle.refusals.specs.Answers.{Answer, done, refused, then, pick}
use Rattle.table.specs.Table.{kind_of, begins}
use Rattle.parameters.specs.Shapes.{shape_of}
use Rattle.parameters.specs.Looking.{Parsed}
use Rattle.commands.specs.Behind.{leading, is_ignore_deletes}
use Rattle.commands.specs.Reading.{letter_here, Letters, completed, Meaning}
use Rattle.stream.specs.Items.{Itemed, nothing, text, del, command, refused_command, refused_call, as_item, item_at, told_item, next_start, next_kept}
use Rattle.del_laws.specs.Padding.{anew}
use Rattle.del_laws.specs.Base.{point_alone, base_parameters, base_entries}

-- "A command is ESC (27), two capital letters, then its parameters."
unfoldable pub base_head : List ℕ → ℕ → Answer Letters
base_head s at =
    then (letter_here s at)
    (λ a. pick (begins a.value)
    (then (letter_here s a.next) (λ b. completed a.value b (kind_of a.value b.value)))
    (refused 2 a.place))

-- the point that is then remembered is the last that was read
abbrev pub base_meaning : Letters → List ℕ → Parsed → Meaning
base_meaning h s p = record {
  first = h.first;
  second = h.second;
  values = p.values;
  tail = p.tail;
  count = p.count;
  entries = base_entries s p;
  next = p.next;
  kept = p.kept;
}

unfoldable pub base_body : Point → Letters → List ℕ → ℕ → ℕ → Answer Meaning
base_body p h s start room =
    then (base_parameters s p (shape_of h.kind) h.next)
    (λ q. pick (leb q.count room) (done (base_meaning h s q)) (refused 7 start))

unfoldable pub base_command : Point → List ℕ → ℕ → ℕ → Answer Meaning
base_command p s start room =
    pick (ltb start (length s)) (then (base_head s (start + 1)) (λ h. base_body p h s start room)) (refused 1 (length s))

-- "Outside commands each byte but 27 is a text item."
unfoldable pub base_item : Point → List ℕ → ℕ → ℕ → Itemed Meaning
base_item p s start room =
    pick (ltb (length s) start)
    (refused_call 8 0)
    (pick (inside p)
    (pick (ltb start (length s))
    (pick (eqb (get_or s start 0) 27) (as_item (point_alone p) s (base_command p s start room)) (text (get_or s start 0) (start + 1)))
    nothing)
    (refused_call 8 0))

-- ---- what K2 changes

abbrev pub is_one : ℤ → Bool
is_one (pos n) = eqb n 1
is_one (negsuc n) = false

abbrev pub is_ignore_deletes_one : Meaning → Bool
is_ignore_deletes_one c = is_ignore_deletes c.first c.second && is_one (leading c.values)

-- "After KI 1": the command is the same, and what is remembered behind it is in the other mode
abbrev pub since_k2 : Meaning → Meaning
since_k2 c = pick (is_ignore_deletes_one c) (anew c c.next (in_mode c.kept Filler)) c

-- what f makes of a command, and none for any other item
abbrev pub of_command : {A : Type 0} → (none : A) → (f : Meaning → A) → Itemed Meaning → A
of_command none f nothing = none
of_command none f (text b n) = none
of_command none f (del n) = none
of_command none f (command c) = f c
of_command none f (refused_command e p n k) = none
of_command none f (refused_call e p) = none

abbrev pub item_since_k2 : Itemed Meaning → Itemed Meaning
item_since_k2 i = of_command i (λ c. command (since_k2 c)) i

-- ---- a stream

-- k items, each from where the one before it ends and with what is remembered there
unfoldable pub items_by : (Remembered → ℕ → Itemed Meaning) → ℕ → Remembered → ℕ → List (Itemed Meaning)
items_by item zero kept start = []
items_by item (suc k) kept start =
    item kept start ∷ items_by item k (next_kept kept (told_item (item kept start))) (next_start start (told_item (item kept start)))

abbrev pub items_of : List ℕ → (room k : ℕ) → Remembered → ℕ → List (Itemed Meaning)
items_of s room k kept start = items_by (λ now at. item_at now s at room) k kept start

-- document 01's, from a point
abbrev pub base_at : List ℕ → (room : ℕ) → Remembered → ℕ → Itemed Meaning
base_at s room kept start = base_item kept.point s start room

abbrev pub base_items : List ℕ → (room k : ℕ) → Point → ℕ → List (Itemed Meaning)
base_items s room k p start = items_by (base_at s room) k (point_alone p) start

-- an item behind which 127 is data as before
abbrev pub no_ignore_deletes_one : Itemed Meaning → Bool
no_ignore_deletes_one i = of_command true (λ c. not (is_ignore_deletes_one c)) i
