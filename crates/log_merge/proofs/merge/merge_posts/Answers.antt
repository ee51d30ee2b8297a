-- The posts, sorted by key, are the listing of the posts.
use Rattle.std.proofs.Common.{◌≡◌, ℕ, List, ◌++◌, length, take, drop, rules}
use Rattle.std.proofs.Math.Seq.{take-append_seam}
use Rattle.std.specs.List.Sorted.{IsPermutation}
use Rattle.std.proofs.lemmas.List.Sorted.{answers_always}
use Rattle.lab_num.specs.Listing.{IsListing}
use Rattle.dev_core.specs.Post.{post_key}
use Rattle.log_merge.proofs.merge.merge_posts.Goals as goal

-- a list that is written whole over one of its length
written : {A : Type 0} (n : ℕ) (now before : List A) → n ≡ length now → take n (now ++ drop (length now) before) ≡ now
written n now before long = rw long (take-append_seam now (drop (length now) before))

pub returns : goal.returns
returns c =
    let sorted =
    c.in_ok-sort_by_key.ensures.sorted post_key (answers_always _ _ _ (λ f a r g h. search rules)) in
    let long : c.args.list.len ≡ length c.sort_by_key.new.self = search rules in
    let moved : IsPermutation c.args.list.items c.sort_by_key.new.self =
    rw (← c.as_mut_slice.ensures.value) c.in_ok-sort_by_key.ensures.permutation in
    let is : IsListing post_key c.args.list.items c.sort_by_key.new.self =
    c.listing_laws.ensures.sorted post_key c.args.list.items c.sort_by_key.new.self c.requires moved sorted in
    let only = c.listing_laws.ensures.only post_key c.args.list.items c.sort_by_key.new.self is in
    rw (written _ _ c.args.list.items long) (record { is_listing = is; value = only })
