use Rattle.std.proofs.Common.{◌∙◌, sym, subst}
use Rattle.dev_core.specs.Post.{post_key}
use Rattle.hub_mail.specs.Posts.{RiseByNumber}
use Rattle.hub_mail.proofs.Arrival.{keys_differ, one_listing, same_members}
use Rattle.hub_mail.proofs.Lists.{joined, joined_is}
use Rattle.hub_mail.proofs.laws.arrival_laws.Goals as goal

pub returns-clause-members : goal.returns-clause-members
returns-clause-members c = same_members

pub returns-clause-keys : goal.returns-clause-keys
returns-clause-keys c = keys_differ

pub returns-clause-listing : goal.returns-clause-listing
returns-clause-listing c =
    one_listing (λ items. c.listing_laws.ensures.is_listing post_key items)
    (λ items listed. c.listing_laws.ensures.only post_key items listed)

pub returns-clause-arrival : goal.returns-clause-arrival
returns-clause-arrival c one other same rising =
    one_listing (λ items. c.listing_laws.ensures.is_listing post_key items)
    (λ items listed. c.listing_laws.ensures.only post_key items listed)
    one other (same_members one other same) (keys_differ one rising)

pub returns-clause-boards : goal.returns-clause-boards
returns-clause-boards c lists posts are same =
    one_listing (λ items. c.listing_laws.ensures.is_listing post_key items)
    (λ items listed. c.listing_laws.ensures.only post_key items listed) posts (joined lists)
    (same_members posts (joined lists) (λ board. same board ∙ sym (joined_is board lists (λ k. (are k).0))))
    (keys_differ posts (λ board. subst RiseByNumber (sym (same board)) (are board).1))
