-- Where 127 is data each byte is sent as itself: a command is written as in document 01.
use Prim.Native.Nat.{ℕ}
use mathlib.Core.Path.{◌≡◌, refl, ◌∙◌, ap}
use mathlib.Core.List.{List, [], ◌∷◌}
use lib.IntN.{ℤ}
use Rattle.memory.specs.declared.DelMode.TheVariants.{Data}
use Rattle.memory.specs.declared.Point.{Point}
use Rattle.memory.specs.declared.Remembered.{Remembered}
use Rattle.wire.specs.Sending.{sent_in, sent}
use Rattle.parameters.specs.declared.Entry.{Entry}
use Rattle.parameters.specs.declared.Entry.TheVariants.{AnInteger, ACharacter}
use Rattle.parameters.specs.Shapes.{Tailed, no_list, list_of, Value, number, scaled, place, values_of, tail_of}
use Rattle.parameters.specs.Behind.{after_values}
use Rattle.commands.specs.declared.Command.{Command}
use Rattle.writable.specs.Writable.{fits, is_command}
use Rattle.writing.specs.Writing.{spell_entry, spell_entries, spell_values, spell_tail, spell_parameters, spell_command, write_command}
use Rattle.writing.proofs.Sizes.{values-mode}
use Rattle.del_laws.specs.Base.{point_alone}
use Rattle.del_laws.specs.BaseWriting.{base_spelled, base_spelled_all, base_values, base_list, base_spelling, base_write}
use Rattle.del_laws.proofs.Base.{alone}

entry_so : (p : Point) (n : Entry) (v : ℤ) → spell_entry n (point_alone p) v ≡ base_spelled n v
unfolding spell_entry sent sent_in
entry_so p AnInteger v = refl
entry_so p ACharacter v = refl

entries-so : (p : Point) (n : Entry) (vs : List ℤ) → spell_entries n (point_alone p) vs ≡ base_spelled_all n vs
unfolding spell_entries base_spelled_all
entries-so p n [] = refl
entries-so p n (v ∷ vs) = rw (entry_so p n v, entries-so p n vs)

values-so : (p : Point) (vs : List Value) → spell_values (point_alone p) vs ≡ base_values p vs
unfolding spell_values base_values sent sent_in
values-so p [] = refl
values-so p (number n v ∷ vs) = rw (entry_so p n v, values-so p vs)
values-so p (scaled m x ∷ vs) = rw (values-so p vs)
values-so p (place q ∷ vs) = rw (values-so q vs)

list_so : (p : Point) (t : Tailed) (es : List ℤ) → spell_tail (point_alone p) t es ≡ base_list t es
unfolding spell_tail base_list sent sent_in
list_so p no_list es = refl
list_so p (list_of n) es = rw (entries-so p n es)

module _ (kept : Remembered) (e : kept.mode ≡ Data) (c : Command) (es : List ℤ) where
  pub data_spelled : spell_command kept c es ≡ base_spelling kept.point c es
  unfolding spell_command spell_parameters base_spelling
  data_spelled =
      let vs = values_of c.parameters in
      let t = tail_of c.parameters in
      let front : spell_values kept vs ≡ base_values kept.point vs = ap (λ (k : Remembered). spell_values k vs) (alone e) ∙ values-so kept.point vs in
      let back : spell_tail (after_values kept vs) t es ≡ base_list t es = ap (λ (k : Remembered). spell_tail k t es) (alone (values-mode kept vs ∙ e)) ∙ list_so (after_values kept vs).point t es in
      rw (front, back)

  pub data_written : (room : ℕ) → write_command kept c es room ≡ base_write kept.point c es room
  unfolding is_command fits
  data_written room = rw data_spelled
