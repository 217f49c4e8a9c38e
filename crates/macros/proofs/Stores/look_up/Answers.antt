use Rattle.macros.proofs.Layouts.{three-lawful}
use Rattle.macros.proofs.Lookups.{volatile_inside, saved_inside, volatile_part, saved_part, volatile_pointer, saved_pointer, empty_part, empty_pointer}
use Rattle.macros.proofs.Stores.look_up.Goals as goal

pub part_of-requires : goal.part_of-requires
part_of-requires c = volatile_inside _ _ _ c.args.number c.ranges.number _ c.in-Ok-InVolatile.ensures c.in-Ok-InVolatile.field-0-is three-lawful

pub part_of-requires-in-Ok-InSaved : goal.part_of-requires-in-Ok-InSaved
part_of-requires-in-Ok-InSaved c = saved_inside _ _ _ c.args.number c.ranges.number _ c.in-Ok-InSaved.ensures c.in-Ok-InSaved.field-0-is three-lawful

pub returns-in-Ok-InVolatile : goal.returns-in-Ok-InVolatile
returns-in-Ok-InVolatile c =
    let there = c.in-Ok-InVolatile in
    record {
      result_value = volatile_part _ _ _ c.args.number c.ranges.number _ there.ensures there.field-0-is three-lawful c.part_of.ensures.bytes;
      ref_ptr_value = volatile_pointer _ _ _ c.args.number c.ranges.number _ there.ensures there.field-0-is _ _ _ c.part_of.ensures.block c.part_of.ensures.place;
    }

pub returns-in-Ok-InSaved : goal.returns-in-Ok-InSaved
returns-in-Ok-InSaved c =
    let there = c.in-Ok-InSaved in
    record {
      result_value = saved_part _ _ _ c.args.number c.ranges.number _ there.ensures there.field-0-is three-lawful c.part_of-in-Ok-InSaved.ensures.bytes;
      ref_ptr_value = saved_pointer _ _ _ c.args.number c.ranges.number _ there.ensures there.field-0-is _ _ _ c.part_of-in-Ok-InSaved.ensures.block c.part_of-in-Ok-InSaved.ensures.place;
    }

pub returns-in-Err : goal.returns-in-Err
returns-in-Err c =
    record {
      result_value = empty_part _ _ _ c.args.number c.ranges.number _ c.in-Err.ensures three-lawful;
      ref_ptr_value = empty_pointer _ _ _ c.args.number c.ranges.number _ c.in-Err.ensures _ _;
    }
