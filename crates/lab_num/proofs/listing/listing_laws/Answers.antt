-- The laws of listings, at the type of the items.
use Rattle.lab_num.proofs.ListingLemmas.{is_listing, only_listing}
use Rattle.lab_num.proofs.SortLemmas.{sorted_is_listing}
use Rattle.lab_num.proofs.listing.listing_laws.Goals as goal

pub returns-clause-is_listing : goal.returns-clause-is_listing
returns-clause-is_listing g c = λ key items differ. is_listing key items differ

pub returns-clause-sorted : goal.returns-clause-sorted
returns-clause-sorted g c =
    λ key items sorted differ moved up. sorted_is_listing key items sorted differ moved up

pub returns-clause-only : goal.returns-clause-only
returns-clause-only g c = λ key items listed is. only_listing key items listed is
