-- A boundary does not depend on the order of its posts.
use Rattle.std.proofs.Common.{◌≡◌, ◌∙◌, sym, ap, refl, ℕ, ◌+◌, ◌-◌}
use Rattle.std.proofs.Common.{List, [], ◌∷◌, ◌++◌, subst}
use Rattle.std.specs.Prelude.{filter}
use Rattle.std.specs.List.Sorted.{IsPermutation}
use Rattle.std.proofs.lemmas.List.Sorted.{IsPermutation-sym, IsPermutation-trans}
use Rattle.lab_num.specs.declared.key.Key.{Key}
use Rattle.dev_core.specs.declared.post.Post.{Post}
use Rattle.lab_num.specs.Key.{KeysDiffer}
use Rattle.lab_num.specs.Listing.{IsListing, insert_by_key, listing}
use Rattle.dev_core.specs.Post.{post_key}
use Rattle.lab_state.specs.Board.{Board}
use Rattle.lab_state.specs.Boundary.{boundary, waiting}
use Rattle.lab_state.specs.Hub.{Hub}
use Rattle.lab_state.specs.Pending.{is_of_a_hub}
use Rattle.lab_state.proofs.PendingLemmas.{filter-listing, rising-filter}

-- posts before which others come
listing-append :
    (front xs ys : List Post) → listing post_key xs ≡ listing post_key ys →
    listing post_key (front ++ xs) ≡ listing post_key (front ++ ys)
unfolding listing
listing-append [] xs ys same = same
listing-append (x ∷ front) xs ys same = ap (insert_by_key post_key x) (listing-append front xs ys same)

pub boundaries-agree :
    ((key : Post → Key) (items : List Post) → KeysDiffer key items → IsListing key items (listing key items)) →
    ((key : Post → Key) (items listed : List Post) → IsListing key items listed → listed ≡ listing key items) →
    (at : ℕ) (hubs : List Hub) (boards : List Board) (pending posts others : List Post) →
    KeysDiffer post_key posts → IsPermutation posts others →
    boundary at hubs boards pending posts ≡ boundary at hubs boards pending others
unfolding boundary
boundaries-agree is only at hubs boards pending posts others differ same =
    let listed = is post_key posts differ in
    let also : IsListing post_key others (listing post_key posts) = record {
      members = IsPermutation-trans others posts (listing post_key posts)
          (IsPermutation-sym posts others same) listed.members;
      rising = listed.rising;
    } in
    let p = is_of_a_hub hubs in
    let listings : listing post_key posts ≡ listing post_key others =
    only post_key others (listing post_key posts) also in
    let first : filter (is_of_a_hub hubs) (listing post_key posts)
    ≡ listing post_key (filter (is_of_a_hub hubs) posts) =
    only post_key (filter p posts) (filter p (listing post_key posts))
    (record { members = filter-listing p posts; rising = rising-filter p (listing post_key posts) listed.rising }) in
    let second : filter (is_of_a_hub hubs) (listing post_key posts)
    ≡ listing post_key (filter (is_of_a_hub hubs) others) =
    only post_key (filter p others) (filter p (listing post_key posts))
    (record {
      members =
          subst (λ (l : List Post). IsPermutation (filter (is_of_a_hub hubs) others) (filter (is_of_a_hub hubs) l))
          (sym listings) (filter-listing p others);
      rising = rising-filter p (listing post_key posts) listed.rising;
    }) in
    let joined : waiting hubs pending posts ≡ waiting hubs pending others =
    listing-append pending (filter p posts) (filter p others) (sym first ∙ second) in
    rw (joined, listings) refl
