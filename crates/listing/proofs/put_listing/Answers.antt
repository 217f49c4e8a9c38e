use Rattle.refusals.proofs.Shut.{opened, closed}
use Rattle.listing.proofs.Listings.{listing_poured}
use Rattle.listing.proofs.put_listing.Goals as goal

pub returns : goal.returns
returns c = opened (search (closed, listing_poured))
