-- From what the report calls answer to the numbers that the exported ones hand out.
use Prim.Native.Nat.{ℕ}
use mathlib.Core.Path.{◌≡◌, ◌∙◌, ap}
use mathlib.Core.List.{List}
use lib.IntN.{ℤ}
use mir.Syntax.{w32}
use mir.Val.{SFits, to_z, of_z}
use mir.Facts.{to_z-of_z}
use Rattle.refusals.specs.Answers.{Answer}
use Rattle.wire.specs.Sending.{after_write}
use Rattle.reports.specs.Writing.{spell_report, write_report}

-- a signed argument comes back from a callee's contract as the machine reads it
pub report_given : (v : ℤ) → SFits w32 v → {d : Answer ℕ} (room at : ℕ) → d ≡ write_report (to_z w32 (of_z w32 v)) room at → d ≡ write_report v room at
report_given v f room at e = e ∙ rw (to_z-of_z f)

pub spelling_given : (v : ℤ) → SFits w32 v → spell_report (to_z w32 (of_z w32 v)) ≡ spell_report v
spelling_given v f = rw (to_z-of_z f)

-- and so does what it leaves of the output
pub report_left : (v : ℤ) (f : SFits w32 v) {d : Answer ℕ} (room at : ℕ) (out : List ℕ) {o : List ℕ} → d ≡ write_report (to_z w32 (of_z w32 v)) room at → o ≡ after_write d (spell_report (to_z w32 (of_z w32 v))) out at → o ≡ after_write (write_report v room at) (spell_report v) out at
report_left v f {d} room at out e w =
    w ∙ ap (λ (l : List ℕ). after_write d l out at) (spelling_given v f) ∙ ap (λ (a : Answer ℕ). after_write a (spell_report v) out at) (report_given v f room at e)
