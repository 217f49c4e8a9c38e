use Rattle.expansion.proofs.Answering.{ran-start}
use Rattle.expansion.proofs.Formed.run.Goals as goal

pub returns : goal.returns
returns c = ran-start _ _ c.args.number c.args.kept c.ranges.number c.enter.ensures
