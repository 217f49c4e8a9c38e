use Rattle.defining.proofs.Placing.{writings}
use borrow.Author.Rules.{rules}
use Rattle.defining.proofs.write_entry.Goals as goal

pub write_header-requires : goal.write_header-requires
write_header-requires c = search (rules, writings)
