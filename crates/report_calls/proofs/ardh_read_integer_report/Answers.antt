-- By the law itself, and not by a search: another place is then refused at the equation that fails.
use Rattle.std.proofs.Common.{◌≡◌, ◌∙◌, sym, ap, subst, refl, rules, w32, ℤ}
use mir.Val.{SFits, to_z, of_z}
use mir.Facts.{to_z-of_z}
use Rattle.refusals.specs.declared.Taken.{Taken}
use Rattle.refusals.specs.Answers.{Answer, done, answer_at, number, value_or, place_of}
use Rattle.reports.specs.Reading.{report_at}
use Rattle.report_calls.specs.Promises.{HandsInteger}
use Rattle.report_calls.proofs.ardh_read_integer_report.Goals as goal

pub returns-in-Ok : goal.returns-in-Ok
unfolding answer_at number value_or place_of
returns-in-Ok c =
    let i = c.in-Ok.integer in
    let f : SFits w32 i.value = search rules in
    let told : done i ≡ report_at c.args.bytes.now c.args.start = ap answer_at (sym c.in-Ok.is) ∙ c.read_integer.ensures in
    subst (λ (a : Answer (Taken ℤ)). HandsInteger a 0 (to_z w32 (of_z w32 i.value)) i.next) told (record { same_number = refl; same-value = to_z-of_z f; same_place = refl })
