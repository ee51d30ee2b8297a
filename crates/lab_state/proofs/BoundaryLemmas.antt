-- The posts at a boundary, one after another: those that are handed over, and those that are kept.
use Rattle.std.proofs.Common.{◌≡◌, ◌∙◌, refl, sym, ap, Bool, true, not, ℕ, ◌+◌, ◌<◌}
use Rattle.std.proofs.Common.{List, [], ◌∷◌, ◌++◌, length, fold, get_or, take, append_assoc}
use Rattle.std.specs.Prelude.{filter}
use Rattle.std.specs.List.{All}
use Rattle.std.proofs.lemmas.List.{take_more}
use Rattle.std.proofs.lemmas.List.Elements.{All-head, All-tail, filter-append}
use Rattle.std.proofs.lemmas.List.Sums.{fold-append}
use Rattle.dev_core.specs.declared.post.Post.{Post}
use Rattle.lab_state.specs.Boundary.{Handed, to_route, due, not_due}
use Rattle.lab_state.specs.Hub.{Hub, members_of}
use Rattle.lab_state.specs.Pending.{is_of_a_hub, is_due}

-- where all pass a test
pub filter_all : (p : Post → Bool) (posts : List Post) → All (λ post. p post ≡ true) posts → filter p posts ≡ posts
filter_all p [] all = refl
filter_all p (x ∷ xs) all =
    rw (All-head (λ post. p post ≡ true) x xs all)
    (ap (λ rest. x ∷ rest) (filter_all p xs (All-tail (λ post. p post ≡ true) x xs all)))

module _ (at : ℕ) (hubs : List Hub) where
  -- of these posts, those that are handed over, and those that are kept
  abbrev pub now_of : List Post → List Post
  now_of posts = due at hubs (filter (is_of_a_hub hubs) posts)

  abbrev pub later_of : List Post → List Post
  later_of posts = not_due at hubs (filter (is_of_a_hub hubs) posts)

  -- ---- one post more

  parted-more :
      (q : Post → Bool) (posts : List Post) (i : ℕ) (post : Post) → i < length posts → post ≡ get_or posts i post →
      filter q (filter (is_of_a_hub hubs) (take (i + 1) posts))
      ≡ filter q (filter (is_of_a_hub hubs) (take i posts)) ++ filter q (filter (is_of_a_hub hubs) (post ∷ []))
  parted-more q posts i post below is =
      let p = is_of_a_hub hubs in
      ap (λ xs. filter q (filter p xs)) (take_more posts i post below)
      ∙ ap (filter q) (filter-append p (take i posts) (get_or posts i post ∷ []))
      ∙ filter-append q (filter p (take i posts)) (filter p (get_or posts i post ∷ []))
      ∙ ap (λ x. filter q (filter p (take i posts)) ++ filter q (filter p (x ∷ []))) (sym is)

  pub handed-more :
      (start : Handed) {old new : Handed} (posts : List Post) (i : ℕ) (post : Post) → i < length posts →
      post ≡ get_or posts i post → old ≡ fold (to_route at (members_of hubs)) start (now_of (take i posts)) →
      new ≡ fold (to_route at (members_of hubs)) old (now_of (post ∷ [])) →
      new ≡ fold (to_route at (members_of hubs)) start (now_of (take (i + 1) posts))
  handed-more start posts i post below is before step =
      let to = to_route at (members_of hubs) in
      step ∙ ap (λ h. fold to h (now_of (post ∷ []))) before
      ∙ sym (fold-append to start (now_of (take i posts)) (now_of (post ∷ [])))
      ∙ ap (fold to start) (sym (parted-more (is_due at hubs) posts i post below is))

  pub kept-more :
      (start : List Post) {old new : List Post} (posts : List Post) (i : ℕ) (post : Post) → i < length posts →
      post ≡ get_or posts i post → old ≡ start ++ later_of (take i posts) → new ≡ old ++ later_of (post ∷ []) →
      new ≡ start ++ later_of (take (i + 1) posts)
  kept-more start posts i post below is before step =
      step ∙ ap (λ xs. xs ++ later_of (post ∷ [])) before
      ∙ append_assoc start (later_of (take i posts)) (later_of (post ∷ []))
      ∙ ap (λ xs. start ++ xs) (sym (parted-more (λ post. not (is_due at hubs post)) posts i post below is))

  -- ---- the posts that wait, and then those of a round

  module _ (pending posts : List Post) (all : All (λ post. is_of_a_hub hubs post ≡ true) pending) where
    joined_by :
        (q : Post → Bool) →
        filter q (filter (is_of_a_hub hubs) pending) ++ filter q (filter (is_of_a_hub hubs) posts)
        ≡ filter q (pending ++ filter (is_of_a_hub hubs) posts)
    joined_by q =
        ap (λ xs. filter q xs ++ filter q (filter (is_of_a_hub hubs) posts))
        (filter_all (is_of_a_hub hubs) pending all)
        ∙ sym (filter-append q pending (filter (is_of_a_hub hubs) posts))

    pub handed-joined :
        (start : Handed) {mid end : Handed} →
        mid ≡ fold (to_route at (members_of hubs)) start (now_of pending) →
        end ≡ fold (to_route at (members_of hubs)) mid (now_of posts) →
        end ≡ fold (to_route at (members_of hubs)) start (due at hubs (pending ++ filter (is_of_a_hub hubs) posts))
    handed-joined start first second =
        let to = to_route at (members_of hubs) in
        second ∙ ap (λ h. fold to h (now_of posts)) first
        ∙ sym (fold-append to start (now_of pending) (now_of posts))
        ∙ ap (fold to start) (joined_by (is_due at hubs))

    pub kept-joined :
        {mid end : List Post} → mid ≡ later_of pending → end ≡ mid ++ later_of posts →
        end ≡ not_due at hubs (pending ++ filter (is_of_a_hub hubs) posts)
    kept-joined first second =
        second ∙ ap (λ xs. xs ++ later_of posts) first ∙ joined_by (λ post. not (is_due at hubs post))
