use Rattle.refusals.proofs.Shut.{opened, closed}
use Rattle.wire.proofs.Writings.{outside, none_changed}
use Rattle.reports.proofs.Writings.{no_characters}
use borrow.Author.Rules.{rules}
use Rattle.reports.proofs.write_string.Goals as goal

pub returns : goal.returns
returns c = opened (search (closed, rules, outside, none_changed, no_characters))
