-- Lists: a change of one place, maps, and names.
use Rattle.std.proofs.Common.{◌≡◌, ◌∙◌, sym, ap, refl, Bool, true, false, not, cond, ℕ, zero, suc, ◌+◌, ◌<◌, ◌≤◌, List}
use Rattle.std.proofs.Common.{[], ◌∷◌, ◌++◌, length, map, set, get_or, take, drop, slice_get, Option, Some, None}
use Rattle.std.proofs.Common.{subst, arith}
use Rattle.std.specs.Prelude.{is_some, IsSome}
use Rattle.std.specs.List.{flat_map, All, position, position_or_len}
use Rattle.std.specs.Option.{option_map, option_map_or, ForSome}
use Rattle.std.specs.Ordering.{is_lt}
use Rattle.std.specs.Str.{bytes_eq}
use Rattle.std.proofs.lemmas.Bool.Decides.{nat_tests}
use Rattle.std.proofs.lemmas.Grind.{common_steps}
use Rattle.std.proofs.lemmas.List.{take_more, take_all, length-map, flat_map_more}
use Rattle.std.proofs.lemmas.List.Elements.{All-nil, All-map, All-append, All-push, All-cons, All-head, All-tail}
use Rattle.std.proofs.lemmas.List.Quantifiers.{all_pairs_push}
use Rattle.std.proofs.lemmas.List.Sums.{fails_before_first, position_or_len_is}
use Rattle.std.proofs.lemmas.Option.{slice_get-map, slice_get_within, get_or_from_slice_get}
use Rattle.std.proofs.lemmas.Cmp.{nat_list_eq_equiv}
use Rattle.lab_num.specs.declared.key.Key.{Key}
use Rattle.lab_num.specs.Change.{change_at}
use Rattle.lab_num.specs.Key.{key_cmp}
use Rattle.lab_num.specs.Listing.{insert_by_key, listing}
use Rattle.board.specs.Numbers.{Numbers}
use Rattle.board.specs.View.{View}
use Rattle.lab_state.specs.Board.{Board}
use Rattle.lab_state.specs.One.{view_at}
use Rattle.lab_state.specs.Names.{NamesDiffer, AreNames}
use Rattle.lab_state.specs.Inner.Time.{numbers_of}

-- ---- items

-- what holds of each item, where one is changed
pub All-change :
    {A : Type 0} (P : A → Type 0) (F : A → A) (xs : List A) (i : ℕ) →
    ((x : A) → slice_get xs i ≡ Some x → P x → P (F x)) → All P xs → All P (change_at xs i F)
All-change P F [] i keeps all = all
All-change P F (x ∷ xs) zero keeps all =
    All-cons P (F x) xs (keeps x refl (All-head P x xs all)) (All-tail P x xs all)
All-change P F (x ∷ xs) (suc i) keeps all =
    All-cons P x (change_at xs i F) (All-head P x xs all) (All-change P F xs i keeps (All-tail P x xs all))

pub All-whole : {A : Type 0} (P : A → Type 0) (xs : List A) (i : ℕ) → length xs ≤ i → All P (take i xs) → All P xs
All-whole P xs i past all = subst (All P) (take_all i xs past) all

-- what holds of each item holds of each that is listed
module _ {T : Type 0} (key : T → Key) (P : T → Type 0) where
  All-insert : (x : T) (xs : List T) → P x → All P xs → All P (insert_by_key key x xs)
  All-insert x [] here all = All-cons P x [] here all
  All-insert x (y ∷ ys) here all =
      by_test (is_lt (key_cmp (key x) (key y))) (All-insert x ys here (All-tail P y ys all))
    where
      by_test :
          (b : Bool) → All P (insert_by_key key x ys) → All P (cond b (x ∷ y ∷ ys) (y ∷ insert_by_key key x ys))
      by_test true rest = All-cons P x (y ∷ ys) here all
      by_test false rest = All-cons P y (insert_by_key key x ys) (All-head P y ys all) rest

  pub All-listing : (xs : List T) → All P xs → All P (listing key xs)
  unfolding listing
  All-listing [] all = all
  All-listing (x ∷ xs) all =
      All-insert x (listing key xs) (All-head P x xs all) (All-listing xs (All-tail P x xs all))

-- what holds of the item at each place, or of none there, where one is written or put at the end
module _ {A : Type 0} where
  pub each-set :
      (P : ℕ → Option A → Type 0) (xs : List A) (i : ℕ) (new : A) → P i (Some new) →
      ((k : ℕ) → P k (slice_get xs k)) → (k : ℕ) → P k (slice_get (set xs i new) k)
  each-set P [] i new here all k = all k
  each-set P (x ∷ xs) zero new here all zero = here
  each-set P (x ∷ xs) zero new here all (suc k) = all (suc k)
  each-set P (x ∷ xs) (suc i) new here all zero = all zero
  each-set P (x ∷ xs) (suc i) new here all (suc k) =
      each-set (λ k. P (suc k)) xs i new here (λ k. all (suc k)) k

  pub each-push :
      (P : ℕ → Option A → Type 0) (xs : List A) (new : A) → P (length xs) (Some new) →
      ((k : ℕ) → P k (slice_get xs k)) → (k : ℕ) → P k (slice_get (xs ++ new ∷ []) k)
  each-push P [] new here all zero = here
  each-push P [] new here all (suc k) = all (suc k)
  each-push P (x ∷ xs) new here all zero = all zero
  each-push P (x ∷ xs) new here all (suc k) = each-push (λ k. P (suc k)) xs new here (λ k. all (suc k)) k

-- an item that a loop over a list has not come to
pub not_yet :
    {A : Type 0} (F : A → A) (xs : List A) (i : ℕ) (d : A) →
    get_or (map F (take i xs) ++ drop i xs) i d ≡ get_or xs i d
not_yet F xs i d = grind (arith, common_steps)

-- what one item more makes comes last
pub one_more :
    {A B : Type 0} (f : A → List B) (start : List B) {now next : List B} (xs : List A) (i : ℕ) (d : A) →
    i < length xs → now ≡ start ++ flat_map f (take i xs) → next ≡ now ++ f (get_or xs i d) →
    next ≡ start ++ flat_map f (take (i + 1) xs)
one_more f start xs i d below so more =
    more ∙ ap (λ l. l ++ f (get_or xs i d)) so ∙ flat_map_more f start (take i xs) (get_or xs i d)
    ∙ ap (λ l. start ++ flat_map f l) (sym (take_more xs i d below))

-- ---- names

position_or_len-map :
    {A B : Type 0} (f : A → B) (p : B → Bool) (xs : List A) →
    position_or_len p (map f xs) ≡ position_or_len (λ x. p (f x)) xs
position_or_len-map f p [] = refl
position_or_len-map f p (x ∷ xs) = ap (λ rest. cond (not (p (f x))) (1 + rest) 0) (position_or_len-map f p xs)

pub position-map :
    {A B : Type 0} (f : A → B) (p : B → Bool) (xs : List A) → position p (map f xs) ≡ position (λ x. p (f x)) xs
position-map f p xs = rw (position_or_len-map f p xs, length-map xs f) refl

-- a board or a hub more, whose name no board and no hub has
module _ {boards hubs : List (List ℕ)} (name : List ℕ) (no_board : All (λ board. bytes_eq board name ≡ false) boards)
    (no_hub : All (λ hub. bytes_eq hub name ≡ false) hubs) (are : AreNames boards hubs) where
  pub board_more : AreNames (boards ++ name ∷ []) hubs
  board_more = record {
    boards_differ = all_pairs_push (λ a b. bytes_eq a b ≡ false) boards name are.boards_differ no_board;
    hubs_differ = are.hubs_differ;
    apart = All-push (λ board. All (λ hub. bytes_eq hub board ≡ false) hubs) boards name are.apart no_hub;
  }

  pub hub_more : AreNames boards (hubs ++ name ∷ [])
  hub_more = record {
    boards_differ = are.boards_differ;
    hubs_differ = all_pairs_push (λ a b. bytes_eq a b ≡ false) hubs name are.hubs_differ no_hub;
    apart = λ k d below.
        All-push (λ hub. bytes_eq hub (get_or boards k d) ≡ false) hubs name (are.apart k d below)
        (nat_list_eq_equiv.symm name (get_or boards k d) ∙ no_board k d below);
  }

module _ {A : Type 0} (f : A → List ℕ) (xs : List A) where
  -- a name that is not found differs from all names
  pub none_has :
      (name : List ℕ) → is_some (position (λ x. bytes_eq (f x) name) xs) ≡ false →
      All (λ y. bytes_eq y name ≡ false) (map f xs)
  none_has name none =
      let past : length xs ≤ position_or_len (λ x. bytes_eq (f x) name) xs = grind (arith, nat_tests, none) in
      All-map (λ y. bytes_eq y name ≡ false) f xs
      (λ k d below. fails_before_first (λ x. bytes_eq (f x) name) xs k d (omega arith))

  -- and one that differs from all names is not found
  not_found :
      (name : List ℕ) → All (λ y. bytes_eq y name ≡ false) (map f xs) → position (λ x. bytes_eq (f x) name) xs ≡ None
  not_found name none =
      let all = position_or_len_is (λ y. bytes_eq y name) (map f xs) (length (map f xs)) [] (omega arith)
      (λ k before. none k [] before) (λ within. absurd (omega arith)) in
      let out : position (λ y. bytes_eq y name) (map f xs) ≡ None = grind (arith, nat_tests, all) in
      sym (position-map f (λ y. bytes_eq y name) xs) ∙ out

  -- names that differ are found where they stand
  pub named_at :
      (i : ℕ) (name : List ℕ) → NamesDiffer (map f xs) → Some name ≡ option_map f (slice_get xs i) →
      position (λ x. bytes_eq (f x) name) xs ≡ Some i
  named_at i name differ is =
      let at : slice_get (map f xs) i ≡ Some name = slice_get-map f xs i ∙ sym is in
      let below = slice_get_within (map f xs) i name at in
      let here = get_or_from_slice_get (map f xs) i name name at in
      let first = position_or_len_is (λ y. bytes_eq y name) (map f xs) i name (omega arith)
      (λ k before. rw here at (differ k i name before below)) (λ within. rw here (nat_list_eq_equiv.refl name)) in
      let found : position (λ y. bytes_eq y name) (map f xs) ≡ Some i = grind (arith, nat_tests, first, below) in
      sym (position-map f (λ y. bytes_eq y name) xs) ∙ found

-- the name of a board is not found among the hubs
pub no_hub :
    {A B : Type 0} (f : A → List ℕ) (boards : List A) (g : B → List ℕ) (hubs : List B) (i : ℕ) (name : List ℕ) →
    AreNames (map f boards) (map g hubs) → Some name ≡ option_map f (slice_get boards i) →
    position (λ hub. bytes_eq (g hub) name) hubs ≡ None
no_hub f boards g hubs i name are is =
    let at : slice_get (map f boards) i ≡ Some name = slice_get-map f boards i ∙ sym is in
    let here = get_or_from_slice_get (map f boards) i name name at in
    not_found g hubs name (rw here at (are.apart i name (slice_get_within (map f boards) i name at)))

-- and the name of a hub is not found among the boards
pub no_board :
    {A B : Type 0} (f : A → List ℕ) (boards : List A) (g : B → List ℕ) (hubs : List B) (i : ℕ) (name : List ℕ) →
    AreNames (map f boards) (map g hubs) → Some name ≡ option_map g (slice_get hubs i) →
    position (λ board. bytes_eq (f board) name) boards ≡ None
no_board f boards g hubs i name are is =
    let at : slice_get (map g hubs) i ≡ Some name = slice_get-map g hubs i ∙ sym is in
    let here = get_or_from_slice_get (map g hubs) i name name at in
    not_found f boards name
    (λ k d below. nat_list_eq_equiv.symm (get_or (map f boards) k d) name
    ∙ rw here at (are.apart k d below i name (slice_get_within (map g hubs) i name at)))

-- ---- a board that has a plan

-- what holds of what stands under each name
pub each_view :
    (P : View → Type 0) (boards : List Board) → All (λ board. ForSome board.view P) boards → (b : ℕ) (v : View) →
    view_at boards b ≡ Some v → P v
each_view P [] all b v at = absurd (cc)
each_view P (board ∷ boards) all zero v at =
    All-head (λ (board : Board). ForSome board.view P) board boards all v at
each_view P (board ∷ boards) all (suc b) v at =
    each_view P boards (All-tail (λ (board : Board). ForSome board.view P) board boards all) b v at

-- and of what is made of it
pub each_made :
    {A : Type 0} (f : View → List A) (P : A → Type 0) (boards : List Board) →
    ((b : ℕ) (v : View) → view_at boards b ≡ Some v → All P (f v)) →
    All P (flat_map (λ (board : Board). option_map_or f board.view []) boards)
each_made f P [] all = All-nil P
each_made f P (board ∷ boards) all =
    All-append P (option_map_or f board.view []) (flat_map (λ (board : Board). option_map_or f board.view []) boards)
    (one board.view (all 0)) (each_made f P boards (λ b. all (suc b)))
  where
    one : (o : Option View) → ((v : View) → o ≡ Some v → All P (f v)) → All P (option_map_or f o [])
    one None all = All-nil P
    one (Some v) all = all v refl

-- the numbers of what stands under a name
pub numbers_at :
    (boards : List Board) (b : ℕ) (v : View) → view_at boards b ≡ Some v →
    slice_get (numbers_of boards) b ≡ Some (Some v.numbers)
numbers_at [] b v at = absurd (cc)
numbers_at (board ∷ boards) zero v at = ap (λ o. Some (option_map (λ (v : View). v.numbers) o)) at
numbers_at (board ∷ boards) (suc b) v at = numbers_at boards b v at

-- and what stands there where there are numbers
pub numbered_at :
    (boards : List Board) (b : ℕ) (n : Numbers) → slice_get (numbers_of boards) b ≡ Some (Some n) →
    (v : View) × ((view_at boards b ≡ Some v) × (v.numbers ≡ n))
numbered_at [] b n at = absurd (cc)
numbered_at (board ∷ boards) zero n at = one board.view at
  where
    one :
        (o : Option View) → Some (option_map (λ v. v.numbers) o) ≡ Some (Some n) →
        (v : View) × ((o ≡ Some v) × (v.numbers ≡ n))
    one None at = absurd (cc)
    one (Some v) at = (v, (refl, cc))
numbered_at (board ∷ boards) (suc b) n at = numbered_at boards b n at

-- it is one of the boards
pub planned_below : (boards : List Board) (b : ℕ) → IsSome (view_at boards b) → b < length boards
planned_below [] b some = absurd (cc)
planned_below (board ∷ boards) zero some = omega arith
planned_below (board ∷ boards) (suc b) some = omega (arith, planned_below boards b some)
