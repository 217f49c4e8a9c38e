use Rattle.reports.proofs.Stepping.{run_fits, string_short, string_kept}
use borrow.Author.Rules.{rules}
use Rattle.std.specs.Prelude.{length}
use Rattle.reports.proofs.read_string.Goals as goal

pub fill-requires : goal.fill-requires
fill-requires c = (
  run_fits c.args.s.now c.args.at c.as_count.result c.read_integer.ensures c.as_count.ensures c.in_ok-count.was c.characters_end.ensures c.in_ok-next.was,
  search rules,
)

pub returns-then-count-list : goal.returns-then-count-list
returns-then-count-list c = (
  string_short c.args.s.now c.args.at c.as_count.result c.read_integer.ensures c.as_count.ensures c.in_ok-count.was c.characters_end.ensures c.in_ok-next.was (length c.args.list.now) c.at.ensures c.if-count-list.true,
  string_kept c.at.result c.args.s.now c.args.at c.args.list.now,
)
