use Rattle.listing.proofs.Listings.{writings}
use borrow.Author.Rules.{rules}
use Rattle.listing.proofs.write_listing.Goals as goal

pub returns-then-size-out : goal.returns-then-size-out
returns-then-size-out c = search (rules, writings)

pub returns : goal.returns
returns c = search (rules, writings)
