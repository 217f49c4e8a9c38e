use borrow.Author.Rules.{rules}
use Rattle.listing.proofs.Listings.{goings}
use Rattle.listing.proofs.put_lines.Goals as goal

pub loop-init : goal.loop-init
loop-init c = search (rules, goings)

pub loop-preserved : goal.loop-preserved
loop-preserved c = search (rules, goings)

pub shape_of-out : goal.shape_of-out
shape_of-out c = search (rules, goings)

pub returns : goal.returns
returns c = search (rules, goings)
