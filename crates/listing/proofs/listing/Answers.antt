use Rattle.listing.proofs.Listings.{inputs}
use borrow.Author.Rules.{rules}
use Rattle.listing.proofs.listing.Goals as goal

pub slice_bounds-write_listing-end : goal.slice_bounds-write_listing-end
slice_bounds-write_listing-end c = search (rules, inputs)

pub returns-then-input-gt-MOST_BYTES : goal.returns-then-input-gt-MOST_BYTES
returns-then-input-gt-MOST_BYTES c = search (rules, inputs)

pub returns : goal.returns
returns c = search (rules, inputs)
