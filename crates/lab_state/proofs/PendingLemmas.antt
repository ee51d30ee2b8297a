-- Posts that wait: what keeps them, and what joins them.
use Rattle.std.proofs.Common.{◌≡◌, ◌∙◌, sym, ap, subst, refl, Bool, true, false, not, cond, ◌&&◌, ◌||◌, ℕ, zero, suc}
use Rattle.std.proofs.Common.{◌<◌, ◌≤◌, List, [], ◌∷◌, ◌++◌, map, find, get_or, None, Some, arith}
use Rattle.std.specs.Prelude.{IsSome, filter, is_some}
use Rattle.std.specs.List.{All, AllByRecursion}
use Rattle.std.specs.List.Sorted.{IsPermutation, IsStrictlySortedBy}
use Rattle.std.specs.Option.{option_map}
use Rattle.std.specs.declared.cmp.Ordering.TheVariants.{Less}
use Rattle.std.specs.Ordering.{is_lt}
use Rattle.std.proofs.lemmas.Bool.Decides.{nat_tests}
use Rattle.std.proofs.lemmas.List.Elements.{All-nil, All-filter, All-weaker, All-append}
use Rattle.std.proofs.lemmas.List.Elements.{All-head, All-tail, filter_passes}
use Rattle.std.proofs.lemmas.List.Folds.{list_any-append}
use Rattle.std.proofs.lemmas.List.Sorted.{IsPermutation-refl, IsPermutation-cons, IsPermutation-trans}
use Rattle.std.proofs.lemmas.List.Sorted.{IsPermutation-middle, IsPermutation-append_right, All-permutation}
use Rattle.lab_num.specs.declared.key.Key.{Key}
use Rattle.lab_num.specs.declared.key.Member.{Member}
use Rattle.lab_num.specs.Change.{change_at}
use Rattle.lab_num.specs.Key.{key_cmp, same_member, KeysDiffer}
use Rattle.lab_num.specs.Listing.{IsListing, insert_by_key, listing}
use Rattle.lab_num.specs.Route.{has_member, is_connected}
use Rattle.lab_num.proofs.KeyLemmas.{member_is}
use Rattle.dev_core.specs.declared.post.Post.{Post}
use Rattle.dev_core.specs.Post.{post_key}
use Rattle.lab_state.specs.Boundary.{waiting, not_due}
use Rattle.lab_state.specs.Hub.{Hub, members_of, delay_of}
use Rattle.lab_state.specs.One.{with_member}
use Rattle.lab_state.specs.Pending.{is_finish, is_of_a_hub, due_at, is_due, IsPending, ArePending}

-- ---- the delays of the hubs of devices

-- a hub more, without members
pub delay-push :
    (hubs : List Hub) (hub : Hub) (m : Member) → hub.members ≡ [] → delay_of (hubs ++ hub ∷ []) m ≡ delay_of hubs m
delay-push [] hub m none = rw none refl
delay-push (h ∷ hs) hub m none = by_test (has_member h.members m) (delay-push hs hub m none)
  where
    by_test :
        (here : Bool) → delay_of (hs ++ hub ∷ []) m ≡ delay_of hs m →
        option_map (λ (hub : Hub). hub.delay)
        (cond here (Some h) (find (λ hub. has_member hub.members m) (hs ++ hub ∷ [])))
        ≡ option_map (λ (hub : Hub). hub.delay) (cond here (Some h) (find (λ hub. has_member hub.members m) hs))
    by_test true rest = refl
    by_test false rest = rest

-- another member more
pub delay-member :
    (hubs : List Hub) (n : ℕ) (m other : Member) → same_member m other ≡ false →
    delay_of (change_at hubs n (with_member m)) other ≡ delay_of hubs other
delay-member [] n m other apart = refl
delay-member (h ∷ hs) zero m other apart =
    let same : has_member (h.members ++ m ∷ []) other ≡ has_member h.members other =
    list_any-append (λ x. same_member x other) h.members (m ∷ [])
    ∙ ap (λ b. has_member h.members other || b) (rest apart)
    ∙ or_false (has_member h.members other) in
    rw same (by_test (has_member h.members other))
  where
    rest : same_member m other ≡ false → (same_member m other || false) ≡ false
    rest is = rw is refl

    or_false : (b : Bool) → (b || false) ≡ b
    or_false true = refl
    or_false false = refl

    by_test :
        (here : Bool) →
        option_map (λ (hub : Hub). hub.delay)
        (cond here (Some (with_member m h)) (find (λ hub. has_member hub.members other) hs))
        ≡ option_map (λ (hub : Hub). hub.delay) (cond here (Some h) (find (λ hub. has_member hub.members other) hs))
    by_test true = refl
    by_test false = refl
delay-member (h ∷ hs) (suc n) m other apart = by_test (has_member h.members other) (delay-member hs n m other apart)
  where
    by_test :
        (here : Bool) → delay_of (change_at hs n (with_member m)) other ≡ delay_of hs other →
        option_map (λ (hub : Hub). hub.delay)
        (cond here (Some h) (find (λ hub. has_member hub.members other) (change_at hs n (with_member m))))
        ≡ option_map (λ (hub : Hub). hub.delay) (cond here (Some h) (find (λ hub. has_member hub.members other) hs))
    by_test true rest = refl
    by_test false rest = rest

-- a device that is in no hub has none
delay-none : (hubs : List Hub) (m : Member) → is_connected (members_of hubs) m ≡ false → delay_of hubs m ≡ None
delay-none [] m out = refl
delay-none (h ∷ hs) m out = by_test (has_member h.members m) out (delay-none hs m)
  where
    by_test :
        (here : Bool) → (here || is_connected (members_of hs) m) ≡ false →
        (is_connected (members_of hs) m ≡ false → delay_of hs m ≡ None) →
        option_map (λ (hub : Hub). hub.delay) (cond here (Some h) (find (λ hub. has_member hub.members m) hs)) ≡ None
    by_test true out rest = absurd (cc)
    by_test false out rest = rest out

-- and is another than one that has one
unlike :
    (hubs : List Hub) (m other : Member) → is_connected (members_of hubs) m ≡ false → IsSome (delay_of hubs other) →
    same_member m other ≡ false
unlike hubs m other out some = by_test (same_member m other) refl
  where
    by_test : (b : Bool) → same_member m other ≡ b → same_member m other ≡ false
    by_test false is = is
    by_test true is =
        let none : delay_of hubs other ≡ None =
        subst (λ (m : Member). delay_of hubs m ≡ None) (member_is m other is) (delay-none hubs m out) in
        let wrong : false ≡ true = sym (ap is_some none) ∙ some in
        absurd (cc)

-- ---- what keeps the posts that wait

-- hubs that are other than they were, but for the delays of the devices that wait
pub pending-hubs :
    (hubs others : List Hub) (now : ℕ) (posts : List Post) →
    ((m : Member) → IsSome (delay_of hubs m) → delay_of others m ≡ delay_of hubs m) → ArePending hubs now posts →
    ArePending others now posts
pending-hubs hubs others now posts same are = record {
  rising = are.rising;
  each =
      All-weaker (IsPending hubs now) (IsPending others now)
      (λ post is. record {
        in_hub = rw (same post.from is.in_hub) is.in_hub;
        no_finish = is.no_finish;
        sent = is.sent;
        due = rw (same post.from is.in_hub) is.due;
      })
      posts are.each;
}

pub pending-hub :
    (hubs : List Hub) (hub : Hub) (now : ℕ) (posts : List Post) → hub.members ≡ [] → ArePending hubs now posts →
    ArePending (hubs ++ hub ∷ []) now posts
pending-hub hubs hub now posts none are =
    pending-hubs hubs (hubs ++ hub ∷ []) now posts (λ m some. delay-push hubs hub m none) are

pub pending-member :
    (hubs : List Hub) (n : ℕ) (m : Member) (now : ℕ) (posts : List Post) → is_connected (members_of hubs) m ≡ false →
    ArePending hubs now posts → ArePending (change_at hubs n (with_member m)) now posts
pending-member hubs n m now posts out are =
    pending-hubs hubs (change_at hubs n (with_member m)) now posts
    (λ other some. delay-member hubs n m other (unlike hubs m other out some)) are

pub none_pending : (hubs : List Hub) (now : ℕ) → ArePending hubs now []
unfolding IsStrictlySortedBy
none_pending hubs now = record { rising = tt; each = All-nil (IsPending hubs now) }

-- ---- lists that rise

module _ (p : Post → Bool) where
  recursion-filter :
      (P : Key → Type 0) (posts : List Post) → AllByRecursion P (map post_key posts) →
      AllByRecursion P (map post_key (filter p posts))
  recursion-filter P [] all = tt
  recursion-filter P (x ∷ xs) all = by_test (p x) (recursion-filter P xs all.1)
    where
      by_test :
          (b : Bool) → AllByRecursion P (map post_key (filter p xs)) →
          AllByRecursion P (map post_key (cond b (x ∷ filter p xs) (filter p xs)))
      by_test true rest = (all.0, rest)
      by_test false rest = rest

  pub rising-filter :
      (posts : List Post) → IsStrictlySortedBy key_cmp (map post_key posts) →
      IsStrictlySortedBy key_cmp (map post_key (filter p posts))
  unfolding IsStrictlySortedBy
  rising-filter [] up = tt
  rising-filter (x ∷ xs) up =
      by_test (p x) (recursion-filter (λ y. key_cmp x.key y ≡ Less) xs up.0) (rising-filter xs up.1)
    where
      by_test :
          (b : Bool) → AllByRecursion (λ y. key_cmp x.key y ≡ Less) (map post_key (filter p xs)) →
          IsStrictlySortedBy key_cmp (map post_key (filter p xs)) →
          IsStrictlySortedBy key_cmp (map post_key (cond b (x ∷ filter p xs) (filter p xs)))
      by_test true below rest = (below, rest)
      by_test false below rest = rest

  -- what a test passes of a listing is what it passes of the posts
  filter-insert : (x : Post) (posts : List Post) →
      IsPermutation (filter p (x ∷ posts)) (filter p (insert_by_key post_key x posts))
  filter-insert x [] = IsPermutation-refl (filter p (x ∷ []))
  filter-insert x (y ∷ ys) =
      by_test (is_lt (key_cmp x.key y.key))
      (by_both (filter p (insert_by_key post_key x ys)) (p x) (p y) (filter-insert x ys))
    where
      by_both :
          (rest : List Post) (here there : Bool) → IsPermutation (cond here (x ∷ filter p ys) (filter p ys)) rest →
          IsPermutation
          (cond here (x ∷ cond there (y ∷ filter p ys) (filter p ys)) (cond there (y ∷ filter p ys) (filter p ys)))
          (cond there (y ∷ rest) rest)
      by_both rest true true same =
          IsPermutation-trans (x ∷ y ∷ filter p ys) (y ∷ x ∷ filter p ys) (y ∷ rest)
          (IsPermutation-middle (x ∷ []) y (filter p ys)) (IsPermutation-cons y (x ∷ filter p ys) rest same)
      by_both rest true false same = same
      by_both rest false true same = IsPermutation-cons y (filter p ys) rest same
      by_both rest false false same = same

      by_test :
          (b : Bool) →
          IsPermutation (filter p (x ∷ y ∷ ys)) (filter p (y ∷ insert_by_key post_key x ys)) →
          IsPermutation (filter p (x ∷ y ∷ ys)) (filter p (cond b (x ∷ y ∷ ys) (y ∷ insert_by_key post_key x ys)))
      by_test true step = IsPermutation-refl (filter p (x ∷ y ∷ ys))
      by_test false step = step

  pub filter-listing : (posts : List Post) → IsPermutation (filter p posts) (filter p (listing post_key posts))
  unfolding listing
  filter-listing [] = IsPermutation-refl []
  filter-listing (x ∷ xs) =
      IsPermutation-trans (filter p (x ∷ xs)) (filter p (x ∷ listing post_key xs))
      (filter p (insert_by_key post_key x (listing post_key xs))) (by_test (p x) (filter-listing xs))
      (filter-insert x (listing post_key xs))
    where
      by_test :
          (b : Bool) → IsPermutation (filter p xs) (filter p (listing post_key xs)) →
          IsPermutation (cond b (x ∷ filter p xs) (filter p xs))
          (cond b (x ∷ filter p (listing post_key xs)) (filter p (listing post_key xs)))
      by_test true same = IsPermutation-cons x (filter p xs) (filter p (listing post_key xs)) same
      by_test false same = same

-- a key of an earlier microsecond is lower
pub earlier : (a b : Key) → a.at.0 < b.at.0 → key_cmp a b ≡ Less
earlier a b before = grind (arith, nat_tests)

-- lists of which one ends before the other begins
rising-append :
    (t : ℕ) (xs ys : List Post) → All (λ post. post.key.at.0 < t) xs → All (λ post. t ≤ post.key.at.0) ys →
    IsStrictlySortedBy key_cmp (map post_key xs) → IsStrictlySortedBy key_cmp (map post_key ys) →
    IsStrictlySortedBy key_cmp (map post_key (xs ++ ys))
unfolding IsStrictlySortedBy
rising-append t [] ys before after up more = more
rising-append t (x ∷ xs) ys before after up more = (
  below xs up.0,
  rising-append t xs ys (All-tail (λ (post : Post). post.key.at.0 < t) x xs before) after up.1 more,
)
  where
    later :
        (ys : List Post) → All (λ post. t ≤ post.key.at.0) ys →
        AllByRecursion (λ y. key_cmp x.key y ≡ Less) (map post_key ys)
    later [] after = tt
    later (y ∷ ys) after = (
      earlier x.key y.key
          (omega (
            arith,
            All-head (λ (post : Post). post.key.at.0 < t) x xs before,
            All-head (λ (post : Post). t ≤ post.key.at.0) y ys after,
          )),
      later ys (All-tail (λ (post : Post). t ≤ post.key.at.0) y ys after),
    )

    below :
        (xs : List Post) → AllByRecursion (λ y. key_cmp x.key y ≡ Less) (map post_key xs) →
        AllByRecursion (λ y. key_cmp x.key y ≡ Less) (map post_key (xs ++ ys))
    below [] up = later ys after
    below (y ∷ xs) up = (up.0, below xs up.1)

-- ---- the posts of a round join those that wait

both : (a b : Bool) → (a && not b) ≡ true → (a ≡ true) × (b ≡ false)
both true true is = absurd (cc)
both true false is = (refl, refl)
both false b is = absurd (cc)

-- a post that is of a hub, and was sent before a microsecond
record Waits (hubs : List Hub) (to : ℕ) (post : Post) : Type 0 where
  in_hub : IsSome (delay_of hubs post.from)
  no_finish : is_finish post ≡ false
  sent : post.key.at.0 < to

-- posts of a round that was from one microsecond to another
abbrev pub AreOfRound : ℕ → ℕ → List Post → Type 0
AreOfRound from to posts = All (λ post. (from ≤ post.key.at.0) × (post.key.at.0 < to)) posts

module _ (is : (key : Post → Key) (items : List Post) → KeysDiffer key items → IsListing key items (listing key items))
    (only :
    (key : Post → Key) (items listed : List Post) → IsListing key items listed → listed ≡ listing key items)
    {hubs : List Hub} {from : ℕ} {pending : List Post} (to : ℕ) (posts : List Post) (are : ArePending hubs from pending)
    (differ : KeysDiffer post_key posts) (made : AreOfRound from to posts) where
  listed_made : AreOfRound from to (listing post_key posts)
  listed_made =
      All-permutation (λ (post : Post). (from ≤ post.key.at.0) × (post.key.at.0 < to)) posts (listing post_key posts)
      (is post_key posts differ).members made

  joined_rise :
      IsStrictlySortedBy key_cmp (map post_key (pending ++ filter (is_of_a_hub hubs) (listing post_key posts)))
  joined_rise =
      rising-append from pending (filter (is_of_a_hub hubs) (listing post_key posts))
      (All-weaker (IsPending hubs from) (λ post. post.key.at.0 < from) (λ post is. is.sent) pending are.each)
      (All-weaker (λ (post : Post). (from ≤ post.key.at.0) × (post.key.at.0 < to)) (λ post. from ≤ post.key.at.0)
      (λ post is. is.0) (filter (is_of_a_hub hubs) (listing post_key posts))
      (All-filter (is_of_a_hub hubs) (λ (post : Post). (from ≤ post.key.at.0) × (post.key.at.0 < to))
      (listing post_key posts) listed_made))
      are.rising (rising-filter (is_of_a_hub hubs) (listing post_key posts) (is post_key posts differ).rising)

  -- in their order they come after those that wait
  pub waiting-is :
      pending ++ filter (is_of_a_hub hubs) (listing post_key posts) ≡ waiting hubs pending posts
  waiting-is =
      only post_key (pending ++ filter (is_of_a_hub hubs) posts)
      (pending ++ filter (is_of_a_hub hubs) (listing post_key posts))
      (record {
        members =
            IsPermutation-append_right pending (filter (is_of_a_hub hubs) posts)
            (filter (is_of_a_hub hubs) (listing post_key posts)) (filter-listing (is_of_a_hub hubs) posts);
        rising = joined_rise;
      })

  pub waiting_rise : IsStrictlySortedBy key_cmp (map post_key (waiting hubs pending posts))
  waiting_rise =
      subst (λ (posts : List Post). IsStrictlySortedBy key_cmp (map post_key posts)) waiting-is joined_rise

  module _ (before : from ≤ to) where
    all_wait : All (Waits hubs to) (pending ++ filter (is_of_a_hub hubs) (listing post_key posts))
    all_wait =
        All-append (Waits hubs to) pending (filter (is_of_a_hub hubs) (listing post_key posts))
        (All-weaker (IsPending hubs from) (Waits hubs to)
        (λ post is. record {
          in_hub = is.in_hub;
          no_finish = is.no_finish;
          sent = omega (arith, is.sent, before);
        })
        pending are.each)
        (λ k d below.
        let post = get_or (filter (is_of_a_hub hubs) (listing post_key posts)) k d in
        let of = both (is_some (delay_of hubs post.from)) (is_finish post)
        (filter_passes (is_of_a_hub hubs) (listing post_key posts) k d below) in
        record {
          in_hub = of.0;
          no_finish = of.1;
          sent =
              (All-filter (is_of_a_hub hubs) (λ (post : Post). (from ≤ post.key.at.0) × (post.key.at.0 < to))
              (listing post_key posts) listed_made k d below).1;
        })

    -- what is not due goes on waiting
    pub pending-after : ArePending hubs to (not_due to hubs (waiting hubs pending posts))
    pending-after =
        let posts = waiting hubs pending posts in
        let all : All (Waits hubs to) posts = subst (All (Waits hubs to)) waiting-is all_wait in
        let later : Post → Bool = λ post. not (is_due to hubs post) in
        record {
          rising = rising-filter later posts waiting_rise;
          each = λ k d below.
              let is = All-filter later (Waits hubs to) posts all k d below in
              record {
                in_hub = is.in_hub;
                no_finish = is.no_finish;
                sent = is.sent;
                due = not_yet (get_or (filter later posts) k d) (filter_passes later posts k d below);
              };
        }
      where
        not_yet : (post : Post) → not (is_due to hubs post) ≡ true → to < due_at hubs post
        not_yet post is = grind (arith, nat_tests)
