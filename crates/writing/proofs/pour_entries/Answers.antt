use borrow.Author.Rules.{rules}
use Rattle.writing.proofs.Lists.{entering-more}
use Rattle.writing.proofs.pour_entries.Goals as goal

pub loop-v-preserved : goal.loop-v-preserved
loop-v-preserved c = search (rules, entering-more)
