use mathlib.Core.Path.{◌∙◌}
use Rattle.macros.specs.Store.{body_place_of}
use Rattle.macro_calls.specs.Slots.{place_fields}
use Rattle.macro_calls.proofs.Answers.{place_number, place_told}
use Rattle.macro_calls.proofs.ardh_look_up.Goals as goal

pub returns-in-Ok-InVolatile : goal.returns-in-Ok-InVolatile
unfolding body_place_of place_fields
returns-in-Ok-InVolatile c =
    let told = rw c.in-Ok-InVolatile.field-0-is at c.in-Ok-InVolatile.ensures in
    record {
      value = place_number c.args.number c.ranges.number c.args.volatile.now c.args.saved.now told;
      place_after = place_told c.args.number c.ranges.number c.args.volatile.now c.args.saved.now told;
    }

pub returns-in-Ok-InSaved : goal.returns-in-Ok-InSaved
unfolding body_place_of place_fields
returns-in-Ok-InSaved c =
    let told = rw c.in-Ok-InSaved.field-0-is at c.in-Ok-InSaved.ensures in
    record {
      value = place_number c.args.number c.ranges.number c.args.volatile.now c.args.saved.now told;
      place_after = place_told c.args.number c.ranges.number c.args.volatile.now c.args.saved.now told;
    }

pub returns-in-Err : goal.returns-in-Err
unfolding body_place_of place_fields
returns-in-Err c =
    record {
      value = c.number.ensures ∙ place_number c.args.number c.ranges.number c.args.volatile.now c.args.saved.now c.in-Err.ensures;
      place_after = place_told c.args.number c.ranges.number c.args.volatile.now c.args.saved.now c.in-Err.ensures;
    }
