-- The entries, joined and sorted by key, are the listing of the entries.
use Rattle.std.proofs.Common.{◌≡◌, rules}
use Rattle.std.specs.List.Sorted.{IsPermutation}
use Rattle.std.proofs.lemmas.List.Sorted.{answers_always}
use Rattle.lab_num.specs.Listing.{IsListing}
use Rattle.dev_core.specs.Post.{entry_key}
use Rattle.log_merge.specs.Merge.{all_entries}
use Rattle.log_merge.proofs.merge.merge_entries.Goals as goal

pub returns : goal.returns
returns c =
    let sorted =
    c.in_ok-sort_by_key.ensures.sorted entry_key (answers_always _ _ _ (λ f a r g h. search rules)) in
    let joined : c.in_ok-list.list.items ≡ all_entries c.args.lists.items =
    c.in_ok-list.ensures in
    let moved : IsPermutation (all_entries c.args.lists.items) c.sort_by_key.new.self.items =
    rw joined at c.in_ok-sort_by_key.ensures.permutation in
    let is : IsListing entry_key (all_entries c.args.lists.items) c.sort_by_key.new.self.items =
    c.listing_laws.ensures.sorted entry_key (all_entries c.args.lists.items) c.sort_by_key.new.self.items
    c.requires moved
    sorted in
    record {
      is_listing = is;
      value = c.listing_laws.ensures.only entry_key (all_entries c.args.lists.items) c.sort_by_key.new.self.items is;
    }
