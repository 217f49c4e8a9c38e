use Rattle.numbers.proofs.Reading.{low_out}
use Rattle.numbers.proofs.low_byte.Goals as goal

pub returns-then-mag-most_magnitude : goal.returns-then-mag-most_magnitude
returns-then-mag-most_magnitude c = low_out c.args.high c.args.low c.args.place c.args.next c.most_magnitude.ensures c.if-mag-most_magnitude.true c.outside.ensures
