-- An entry of a list, tested as the code tests it: a signed one comes back as the machine reads it.
use Prim.Native.Nat.{ℕ, ◌+◌, ◌<◌}
use mathlib.Core.Path.{◌≡◌}
use mathlib.Core.Bool.{Bool, ◌&&◌}
use mathlib.Core.List.{List}
use lib.ListN.{length, get_or}
use lib.IntN.{ℤ, pos}
use mir.Syntax.{w32}
use mir.Val.{SFits, to_z, of_z}
use mir.Facts.{to_z-of_z}
use Rattle.refusals.proofs.Cases.{and_true}
use Rattle.refusals.proofs.Many.{Checking, checking_next}
use Rattle.parameters.specs.declared.Entry.{Entry}
use Rattle.writable.specs.Writable.{is_entry}

module _ (e : Entry) (list : List ℤ) (i : ℕ) where
  pub entry_next : {good b : Bool} → Checking (is_entry e) list i good → i < length list → SFits w32 (get_or list i (pos 0)) → b ≡ is_entry e (to_z w32 (of_z w32 (get_or list i (pos 0)))) → Checking (is_entry e) list (i + 1) (good && b)
  entry_next f h fits q = checking_next (is_entry e) list (pos 0) i f h (rw (to_z-of_z fits) at q)

-- what the search is given for the values of each kind
pub ruleset values = (to_z-of_z, and_true)
