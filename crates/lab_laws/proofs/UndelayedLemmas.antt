-- Where no hub holds anything back and nothing waits, a boundary hands over all that was sent in its round.
use Rattle.std.proofs.Common.{◌≡◌, ◌∙◌, sym, ap, subst, refl, Bool, true, false, not, cond, ◌&&◌, ℕ, ◌<◌, ◌≤◌, List, []}
use Rattle.std.proofs.Common.{◌∷◌, fold, find, unwrap_or, Option, None, Some, arith}
use Rattle.std.specs.Prelude.{filter, is_some, if◌then◌else◌}
use Rattle.std.specs.List.{All}
use Rattle.std.specs.Option.{option_map}
use Rattle.std.proofs.lemmas.Bool.Decides.{nat_tests}
use Rattle.std.proofs.lemmas.List.Elements.{All-filter, All-head, All-tail, All-weaker}
use Rattle.std.proofs.lemmas.List.Sorted.{All-permutation}
use Rattle.lab_num.specs.declared.key.Key.{Key}
use Rattle.lab_num.specs.declared.key.Member.{Member}
use Rattle.lab_num.specs.Key.{KeysDiffer}
use Rattle.lab_num.specs.Listing.{IsListing, listing}
use Rattle.lab_num.specs.Route.{route, others, hub_of, has_member}
use Rattle.dev_core.specs.declared.post.Post.{Post}
use Rattle.dev_core.specs.Post.{post_key}
use Rattle.lab_state.specs.Board.{Board}
use Rattle.lab_state.specs.Boundary.{Handed, boundary, to_route, to_routes, waiting, due, not_due}
use Rattle.lab_state.specs.Hub.{Hub, members_of, delay_of}
use Rattle.lab_state.specs.Pending.{is_finish, is_of_a_hub, due_at, is_due}
use Rattle.lab_state.specs.Undelayed.{AreUndelayed, to_route_at_once, undelayed_boundary}
use Rattle.lab_state.proofs.BoundaryLemmas.{filter_all}
use Rattle.lab_state.proofs.PendingLemmas.{AreOfRound, none_pending, waiting-is}

-- ---- tests that all or none pass

filter_none : (p : Post → Bool) (posts : List Post) → All (λ post. p post ≡ false) posts → filter p posts ≡ []
filter_none p [] all = refl
filter_none p (x ∷ xs) all =
    rw (All-head (λ post. p post ≡ false) x xs all)
    (filter_none p xs (All-tail (λ post. p post ≡ false) x xs all))

-- ---- posts that nobody is handed

-- a device that is in no hub has no route
route_none : (hubs : List Hub) (m : Member) → delay_of hubs m ≡ None → route (members_of hubs) m ≡ []
route_none hubs m none = ap (λ hub. others hub m) (no_hub hubs none)
  where
    no_hub : (hubs : List Hub) → delay_of hubs m ≡ None → hub_of (members_of hubs) m ≡ []
    no_hub [] none = refl
    no_hub (h ∷ hs) none = by_test (has_member h.members m) none (no_hub hs)
      where
        by_test :
            (here : Bool) →
            option_map (λ (hub : Hub). hub.delay) (cond here (Some h) (find (λ hub. has_member hub.members m) hs))
            ≡ None →
            (delay_of hs m ≡ None → hub_of (members_of hs) m ≡ []) →
            unwrap_or (cond here (Some h.members) (find (λ hub. has_member hub m) (members_of hs))) [] ≡ []
        by_test true none rest = absurd (cc)
        by_test false none rest = rest none

module _ (at : ℕ) (hubs : List Hub) where
  -- what is handed over of posts at once is what is handed over of those that are for other devices
  routes_at_once :
      (h : Handed) (posts : List Post) →
      fold (to_route at (members_of hubs)) h (filter (is_of_a_hub hubs) posts)
      ≡ fold (to_route_at_once at (members_of hubs)) h posts
  routes_at_once h [] = refl
  routes_at_once h (x ∷ xs) =
      by_both (is_finish x) (delay_of hubs x.from) refl
      (routes_at_once h xs) (routes_at_once (to_route at (members_of hubs) h x) xs)
    where
      by_both :
          (finish : Bool) (delay : Option ℕ) → delay_of hubs x.from ≡ delay →
          fold (to_route at (members_of hubs)) h (filter (is_of_a_hub hubs) xs)
          ≡ fold (to_route_at_once at (members_of hubs)) h xs →
          fold (to_route at (members_of hubs)) (to_route at (members_of hubs) h x) (filter (is_of_a_hub hubs) xs)
          ≡ fold (to_route_at_once at (members_of hubs)) (to_route at (members_of hubs) h x) xs →
          fold (to_route at (members_of hubs)) h
          (cond (is_some delay && not finish) (x ∷ filter (is_of_a_hub hubs) xs) (filter (is_of_a_hub hubs) xs))
          ≡ fold (to_route_at_once at (members_of hubs)) (if finish then h else to_route at (members_of hubs) h x) xs
      by_both true None is skip take = skip
      by_both true (Some delay) is skip take = skip
      by_both false None is skip take =
          let stays : to_route at (members_of hubs) h x ≡ h = rw (route_none hubs x.from is) refl in
          skip ∙ ap (λ h. fold (to_route_at_once at (members_of hubs)) h xs) (sym stays)
      by_both false (Some delay) is skip take = take

-- ---- the boundary

no_delay : (hubs : List Hub) (m : Member) → AreUndelayed hubs → unwrap_or (delay_of hubs m) 0 ≡ 0
no_delay [] m all = refl
no_delay (h ∷ hs) m all =
    by_test (has_member h.members m) (All-head (λ (hub : Hub). hub.delay ≡ 0) h hs all)
    (no_delay hs m (All-tail (λ (hub : Hub). hub.delay ≡ 0) h hs all))
  where
    by_test :
        (here : Bool) → h.delay ≡ 0 → unwrap_or (delay_of hs m) 0 ≡ 0 →
        unwrap_or
        (option_map (λ (hub : Hub). hub.delay) (cond here (Some h) (find (λ hub. has_member hub.members m) hs))) 0
        ≡ 0
    by_test true zero rest = zero
    by_test false zero rest = rest

pub undelayed_is :
    ((key : Post → Key) (items : List Post) → KeysDiffer key items → IsListing key items (listing key items)) →
    ((key : Post → Key) (items listed : List Post) → IsListing key items listed → listed ≡ listing key items) →
    (from at : ℕ) (hubs : List Hub) (boards : List Board) (posts : List Post) → AreUndelayed hubs →
    KeysDiffer post_key posts → AreOfRound from at posts →
    boundary at hubs boards [] posts ≡ undelayed_boundary at hubs boards posts
unfolding boundary
undelayed_is is only from at hubs boards posts undelayed differ made =
    let waits = waiting-is is only at posts (none_pending hubs from) differ made in
    let joined = filter (is_of_a_hub hubs) (listing post_key posts) in
    let all : All (λ post. is_due at hubs post ≡ true) (waiting hubs [] posts) =
    subst (All (λ post. is_due at hubs post ≡ true)) waits
    (All-weaker (λ (post : Post). (from ≤ post.key.at.0) × (post.key.at.0 < at)) (λ post. is_due at hubs post ≡ true)
    now_due joined
    (All-filter (is_of_a_hub hubs) (λ (post : Post). (from ≤ post.key.at.0) × (post.key.at.0 < at))
    (listing post_key posts)
    (All-permutation (λ (post : Post). (from ≤ post.key.at.0) × (post.key.at.0 < at)) posts (listing post_key posts)
    (is post_key posts differ).members made))) in
    let taken : due at hubs (waiting hubs [] posts) ≡ joined =
    filter_all (is_due at hubs) (waiting hubs [] posts) all ∙ sym waits in
    let left : not_due at hubs (waiting hubs [] posts) ≡ [] =
    filter_none (λ post. not (is_due at hubs post)) (waiting hubs [] posts)
    (All-weaker (λ post. is_due at hubs post ≡ true) (λ post. not (is_due at hubs post) ≡ false)
    (λ post is. rw is refl) (waiting hubs [] posts) all) in
    let start : Handed = record { boards = boards; notes = [] } in
    let handed : to_routes at hubs boards (due at hubs (waiting hubs [] posts))
    ≡ fold (to_route_at_once at (members_of hubs)) start (listing post_key posts) =
    ap (to_routes at hubs boards) taken ∙ routes_at_once at hubs start (listing post_key posts) in
    λ i. record {
      boards = (handed i).boards;
      notes = (handed i).notes;
      pending = left i;
      pause = find is_finish (listing post_key posts);
    }
  where
    now_due : (post : Post) → (from ≤ post.key.at.0) × (post.key.at.0 < at) → is_due at hubs post ≡ true
    now_due post in_time =
        let zero = no_delay hubs post.from undelayed in
        let before : due_at hubs post ≤ at = omega (arith, in_time.1, zero) in
        grind (arith, nat_tests)
