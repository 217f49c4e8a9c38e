-- An item as the header's slots hold it: item[7], values[4], and what is remembered as three numbers.
use Rattle.std.specs.Prelude.{ℕ, ◌+◌, ◌≡◌, List, [], ◌∷◌, length, ℤ}
use Rattle.coordinates.specs.Remembering.{slots_of, kept_in}
use Rattle.parameters.specs.declared.Entry.TheVariants.{AnInteger, ACharacter}
use Rattle.parameters.specs.Shapes.{Tailed, no_list, list_of, Value, number, scaled, place}
use Rattle.parameters.specs.Numbers.{no_values, four_of}
use Rattle.commands.specs.Reading.{Meaning, ToldCommand}
use Rattle.stream.specs.Items.{Itemed, nothing, text, del, command, refused_command, refused_call, item_at, told_item, after_item}

-- ---- the number returned

unfoldable pub item_number : Itemed ToldCommand → ℕ
item_number nothing = 0
item_number (text b n) = 0
item_number (del n) = 0
item_number (command t) = 0
item_number (refused_command e p n kept) = e
item_number (refused_call e p) = e

-- ---- item: what it is, the next start, the refusal's place, a byte or the letters, the kind of parameters, the entries

-- the kind of the parameters by what they are made of, numbered as in the header: so many integers, a point or two, a real, characters; the
-- list alone, or behind an integer
abbrev pub fixed_kind : List Value → ℕ
fixed_kind [] = 0
fixed_kind (number AnInteger v ∷ vs) = 1 + length vs
fixed_kind (number ACharacter v ∷ vs) = 11
fixed_kind (scaled m x ∷ vs) = 6
fixed_kind (place p ∷ []) = 4
fixed_kind (place p ∷ q ∷ vs) = 5

abbrev pub list_kind : (alone behind : ℕ) → List Value → ℕ
list_kind alone behind [] = alone
list_kind alone behind (v ∷ vs) = behind

unfoldable pub kind_slot : List Value → Tailed → ℕ
kind_slot vs no_list = fixed_kind vs
kind_slot vs (list_of AnInteger) = list_kind 8 9 vs
kind_slot vs (list_of ACharacter) = list_kind 7 10 vs

abbrev pub command_fields : (first second kind count next : ℕ) → List ℕ
command_fields first second kind count next = 2 ∷ next ∷ 0 ∷ first ∷ second ∷ kind ∷ count ∷ []

unfoldable pub item_fields : Itemed ToldCommand → List ℕ
item_fields nothing = 0 ∷ 0 ∷ 0 ∷ 0 ∷ 0 ∷ 0 ∷ 0 ∷ []
item_fields (text b n) = 1 ∷ n ∷ 0 ∷ b ∷ 0 ∷ 0 ∷ 0 ∷ []
item_fields (del n) = 5 ∷ n ∷ 0 ∷ 0 ∷ 0 ∷ 0 ∷ 0 ∷ []
item_fields (command t) = command_fields t.first t.second (kind_slot t.values t.tail) t.count t.next
item_fields (refused_command e p n kept) = 3 ∷ n ∷ p ∷ 0 ∷ 0 ∷ 0 ∷ 0 ∷ []
item_fields (refused_call e p) = 4 ∷ 0 ∷ p ∷ 0 ∷ 0 ∷ 0 ∷ 0 ∷ []

-- ---- values: the fixed parameters as numbers, a point as x and y, and 0 in what is left

unfoldable pub item_values : Itemed ToldCommand → List ℤ
item_values nothing = no_values
item_values (text b n) = no_values
item_values (del n) = no_values
item_values (command t) = four_of t.values
item_values (refused_command e p n kept) = no_values
item_values (refused_call e p) = no_values

-- ---- what is remembered behind it: only a command that was read changes it. "The remembered point after a refused command is that before it." "A
-- refused KI changes nothing."

unfoldable pub remembered_after : List ℕ → Itemed ToldCommand → List ℕ
remembered_after before nothing = before
remembered_after before (text b n) = before
remembered_after before (del n) = before
remembered_after before (command t) = slots_of t.kept
remembered_after before (refused_command e p n kept) = before
remembered_after before (refused_call e p) = before

-- ---- what ardh_next_item leaves, from the three numbers of what was remembered before, the bytes and the list

module _ (before bytes : List ℕ) (start : ℕ) (list : List ℤ) where
  abbrev read : Itemed Meaning
  read = item_at (kept_in before) bytes start (length list)

  pub record NextItem (answer : ℕ) (item : List ℕ) (values : List ℤ) (last : List ℕ) (entries : List ℤ) : Type 0 where
    pub answered : answer ≡ item_number (told_item read)
    pub slots : item ≡ item_fields (told_item read)
    pub numbers : values ≡ item_values (told_item read)
    pub remembered : last ≡ remembered_after before (told_item read)
    pub filled : entries ≡ after_item read list
