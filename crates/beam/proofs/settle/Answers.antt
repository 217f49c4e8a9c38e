use Rattle.beam.proofs.Settling.{wrong_record, wrong_values}
use Rattle.beam.proofs.settle.Goals as goal
use Rattle.beam.proofs.settle.Goals.{then-not-is_valid-via-then-not-is_valid, then-not-is_valid-via-else-not-is_valid+then-not-allowed}

pub returns-then-not-is_valid : goal.returns-then-not-is_valid
returns-then-not-is_valid c =
    elim c.then-not-is_valid.branch [
      | then-not-is_valid-via-then-not-is_valid w ↦ wrong_record _ _ _ _ _ c.is_size.ensures c.if-not-is_size.false c.is_valid.ensures w.if-not-is_valid.true
      | then-not-is_valid-via-else-not-is_valid+then-not-allowed w ↦ wrong_values _ _ _ _ _ c.is_size.ensures c.if-not-is_size.false c.is_valid.ensures w.if-not-is_valid.false w.if-not-allowed.true
    ]
