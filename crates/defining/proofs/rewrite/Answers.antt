use Rattle.macros.proofs.Layouts.{three-lawful}
use Rattle.defining.proofs.Placing.{in_room, in_place}
use Rattle.defining.proofs.rewrite.Goals as goal

pub returns : goal.returns
returns c = (
  in_room _ three-lawful _ _ _ c.requires.gap_is c.entry_size-size.ensures c.if-store-kept.false,
  in_place _ three-lawful _ _ _ c.requires.gap_is c.entry_size-size.ensures c.if-store-kept.false c.copy_within.ensures.after c.write_entry.ensures (c.fill.ensures.after (λ y e. e)),
)
