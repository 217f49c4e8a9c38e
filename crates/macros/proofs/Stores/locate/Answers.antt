use mathlib.Core.Path.{sym, ◌∙◌}
use Rattle.macros.proofs.Layouts.{three-lawful}
use Rattle.macros.proofs.Lookups.{in_volatile}
use Rattle.macros.proofs.Stores.locate.Goals as goal

pub returns-in-Some : goal.returns-in-Some
returns-in-Some c =
    in_volatile _ _ _ c.args.number c.magnitude-n.ensures _ c.inspect.ensures _ c.inspect-2.ensures c.in_ok-first.ensures.ok_part c.in_ok-second.ensures.ok_part c.ranges.number c.is_within.ensures c.if-not-is_within.false three-lawful
    (sym c.body_between.ensures ∙ c.in-Some.is)
