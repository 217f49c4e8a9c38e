-- Demand 2 on the exported calls: "A writable command, written and read again from the same remembered point, comes back with the same remembered point after
-- it", since K2 "from the same point and mode". ardh_write_command writes it, ardh_next_item reads it. proofs/Pair.antt proves it.
use Rattle.std.specs.Prelude.{ℕ, ◌+◌, ◌≡◌, List, [], ◌∷◌, length, get_or, ltb, ℤ, pos}
use Rattle.std.proofs.lemmas.List.Edits.{sets}
use Rattle.refusals.specs.Answers.{pick}
use Rattle.parameters.specs.Shapes.{values_of, tail_of}
use Rattle.parameters.specs.Numbers.{numbers_of}
use Rattle.commands.specs.declared.Command.{Command}
use Rattle.stream_calls.specs.Slots.{kind_slot, command_fields}
use Rattle.stream_calls.specs.Given.{command_given}
use Rattle.laws.specs.Laws.{carried}

-- of the four values given, so many as the parameters take; 0 in what is left
abbrev slot : (many : ℕ) → List ℤ → (i : ℕ) → ℤ
slot many vs i = pick (ltb i many) (get_or vs i (pos 0)) (pos 0)

unfoldable pub taken : (many : ℕ) → List ℤ → List ℤ
taken many vs = slot many vs 0 ∷ slot many vs 1 ∷ slot many vs 2 ∷ slot many vs 3 ∷ []

-- letters, values and a list were written in so many bytes, and reading them from start on leaves this: the number, the slots, the values, what is remembered,
-- point and mode, which is what writing left, and the lent list
module _ (first second : ℕ) (vs es : List ℤ) where
  abbrev c : Command
  c = command_given first second vs

  abbrev entries_of : List ℤ
  entries_of = carried (tail_of c.parameters) es

  pub record ReadBack (start written : ℕ) (last : List ℕ) (list : List ℤ) (answer : ℕ) (item : List ℕ) (values : List ℤ) (remembered : List ℕ) (entries : List ℤ) : Type 0 where
    pub answered : answer ≡ 0
    pub slots : item ≡ command_fields first second (kind_slot (values_of c.parameters) (tail_of c.parameters)) (length entries_of) (start + written)
    pub same-values : values ≡ taken (length (numbers_of (values_of c.parameters))) vs
    pub same_entries : entries ≡ sets list 0 entries_of
    pub same_memory : remembered ≡ last
