use Rattle.writing.proofs.Lists.{all_written, stands-written}
use borrow.Author.Rules.{rules}
use Rattle.writing.proofs.send.Goals as goal

pub returns-then-out-most_bytes : goal.returns-then-out-most_bytes
returns-then-out-most_bytes c = (search (rules, all_written), search (rules, stands-written))
