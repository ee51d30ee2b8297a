-- Keys are totally ordered. Where they differ, the items in rising order of key are a listing, and the only one.
use Rattle.std.proofs.Common.{◌≡◌, ◌∙◌, sym, ap, subst, refl, Bool, true, false, cond, List, [], ◌∷◌, map, ◌⊎◌, inl}
use Rattle.std.proofs.Common.{inr}
use Rattle.std.specs.Cmp.{IsTotalOrder, then_total, on_total, nat_cmp_total, tied_itself, eq_by_cmp_equiv}
use Rattle.std.specs.List.{IsDistinct, AllByRecursion}
use Rattle.std.specs.List.Sorted.{IsPermutation, IsStrictlySortedBy}
use Rattle.std.specs.Ordering.{is_lt, is_eq, eq_by_cmp, ordering_reverse}
use Rattle.std.specs.declared.cmp.Ordering.{Ordering}
use Rattle.std.specs.declared.cmp.Ordering.TheVariants.{Less, Equal, Greater}
use Rattle.std.proofs.lemmas.List.Elements.{All-from_recursion, recursion_from_All}
use Rattle.std.proofs.lemmas.List.Sorted.{IsPermutation-refl, IsPermutation-sym, IsPermutation-cons}
use Rattle.std.proofs.lemmas.List.Sorted.{IsPermutation-trans, IsPermutation-map, IsPermutation-middle, All-permutation}
use Rattle.std.proofs.lemmas.Map.Keys.{IsDistinct-from_sorted, IsDistinct-IsPermutation}
use Rattle.lab_num.specs.declared.key.Key.{Key}
use Rattle.lab_num.specs.Key.{key_cmp, KeysDiffer}
use Rattle.lab_num.specs.Listing.{IsListing, insert_by_key, listing}

-- the order of keys is total
pub key_total : IsTotalOrder key_cmp
key_total =
    then_total (on_total (λ (k : Key). k.at.0) nat_cmp_total)
    (then_total (on_total (λ (k : Key). k.board.0) nat_cmp_total) (on_total (λ (k : Key). k.number.0) nat_cmp_total))

-- what is above a key is above all keys below it
above_all :
    (j k : Key) (ks : List Key) →
    key_cmp j k ≡ Less → AllByRecursion (λ y. key_cmp k y ≡ Less) ks →
    AllByRecursion (λ y. key_cmp j y ≡ Less) ks
above_all j k [] below all = tt
above_all j k (y ∷ ys) below all = (key_total.trans j k y below all.0, above_all j k ys below all.1)

module _ {T : Type 0} (key : T → Key) where
  all_if :
      (P : Key → Type 0) (b : Bool) (xs ys : List T) →
      AllByRecursion P (map key xs) → AllByRecursion P (map key ys) → AllByRecursion P (map key (cond b xs ys))
  all_if P true xs ys first second = first
  all_if P false xs ys first second = second

  -- what holds of an item and of a list holds of the list with the item in it
  all_insert :
      (P : Key → Type 0) (item : T) (xs : List T) →
      P (key item) → AllByRecursion P (map key xs) → AllByRecursion P (map key (insert_by_key key item xs))
  all_insert P item [] here all = (here, tt)
  all_insert P item (x ∷ xs) here all =
      all_if P (is_lt (key_cmp (key item) (key x))) (item ∷ x ∷ xs) (x ∷ insert_by_key key item xs) (here, all)
      (all.0, all_insert P item xs here all.1)

  members_if :
      (b : Bool) (xs ys zs : List T) → IsPermutation xs ys → IsPermutation xs zs →
      IsPermutation xs (cond b ys zs)
  members_if true xs ys zs first second = first
  members_if false xs ys zs first second = second

  insert_members : (item : T) (xs : List T) → IsPermutation (item ∷ xs) (insert_by_key key item xs)
  insert_members item [] = IsPermutation-refl (item ∷ [])
  insert_members item (x ∷ xs) =
      members_if (is_lt (key_cmp (key item) (key x))) (item ∷ x ∷ xs) (item ∷ x ∷ xs)
      (x ∷ insert_by_key key item xs)
      (IsPermutation-refl (item ∷ x ∷ xs))
      (IsPermutation-trans (item ∷ x ∷ xs) (x ∷ item ∷ xs) (x ∷ insert_by_key key item xs)
      (IsPermutation-middle (item ∷ []) x xs)
      (IsPermutation-cons x (item ∷ xs) (insert_by_key key item xs) (insert_members item xs)))

  -- one step of `insert_rising`, by how the item's key compares with the first key
  insert_step :
      (item x : T) (xs : List T) (r : Ordering) → key_cmp (key item) (key x) ≡ r → is_eq r ≡ false →
      IsStrictlySortedBy key_cmp (map key (x ∷ xs)) →
      IsStrictlySortedBy key_cmp (map key (insert_by_key key item xs)) →
      IsStrictlySortedBy key_cmp (map key (cond (is_lt r) (item ∷ x ∷ xs) (x ∷ insert_by_key key item xs)))
  unfolding IsStrictlySortedBy
  insert_step item x xs Less is apart up more = ((is, above_all (key item) (key x) (map key xs) is up.0), up)
  insert_step item x xs Equal is apart up more = absurd (cc)
  insert_step item x xs Greater is apart up more = (
    all_insert (λ y. key_cmp (key x) y ≡ Less) item xs
        (key_total.antisymm (key x) (key item) ∙ ap ordering_reverse is) up.0,
    more,
  )

  -- an item whose key no other has goes into a rising list, which then still rises
  insert_rising :
      (item : T) (xs : List T) → AllByRecursion (λ y. eq_by_cmp key_cmp (key item) y ≡ false) (map key xs) →
      IsStrictlySortedBy key_cmp (map key xs) → IsStrictlySortedBy key_cmp (map key (insert_by_key key item xs))
  unfolding IsStrictlySortedBy
  insert_rising item [] apart up = (tt, tt)
  insert_rising item (x ∷ xs) apart up =
      insert_step item x xs (key_cmp (key item) (key x)) refl apart.0 up (insert_rising item xs apart.1 up.1)

  listing_all :
      (P : Key → Type 0) (items : List T) →
      AllByRecursion P (map key items) → AllByRecursion P (map key (listing key items))
  unfolding listing
  listing_all P [] all = tt
  listing_all P (x ∷ xs) all = all_insert P x (listing key xs) all.0 (listing_all P xs all.1)

  listing_members : (items : List T) → IsPermutation items (listing key items)
  unfolding listing
  listing_members [] = IsPermutation-refl []
  listing_members (x ∷ xs) =
      IsPermutation-trans (x ∷ xs) (x ∷ listing key xs) (insert_by_key key x (listing key xs))
      (IsPermutation-cons x xs (listing key xs) (listing_members xs))
      (insert_members x (listing key xs))

  listing_rising :
      (items : List T) → IsDistinct (eq_by_cmp key_cmp) (map key items) →
      IsStrictlySortedBy key_cmp (map key (listing key items))
  unfolding listing IsDistinct IsStrictlySortedBy
  listing_rising [] differ = tt
  listing_rising (x ∷ xs) differ =
      insert_rising x (listing key xs)
      (listing_all (λ y. eq_by_cmp key_cmp (key x) y ≡ false) xs differ.0)
      (listing_rising xs differ.1)

  -- where the keys differ, the items in rising order of key are a listing of them
  pub is_listing : (items : List T) → KeysDiffer key items → IsListing key items (listing key items)
  is_listing items differ = record { members = listing_members items; rising = listing_rising items differ }

  -- ---- a listing is the only one

  -- what holds of all of one list holds of all of another
  abbrev HoldsOn : List T → List T → Type 1
  HoldsOn xs ys = (P : T → Type 0) → AllByRecursion P xs → AllByRecursion P ys

  both_all :
      (P Q : T → Type 0) (R : Key → Type 0) → ((z : T) → Q z → R (key z) → P z) → (ys : List T) →
      AllByRecursion Q ys → AllByRecursion R (map key ys) → AllByRecursion P ys
  both_all P Q R both [] first second = tt
  both_all P Q R both (y ∷ ys) first second = (both y first.0 second.0, both_all P Q R both ys first.1 second.1)

  any_all :
      (P Q : T → Type 0) → ((z : T) → P z → Q z) → (ys : List T) → AllByRecursion P ys → AllByRecursion Q ys
  any_all P Q step [] all = tt
  any_all P Q step (y ∷ ys) all = (step y all.0, any_all P Q step ys all.1)

  key_all :
      (R : Key → Type 0) (ys : List T) → AllByRecursion R (map key ys) → AllByRecursion (λ z. R (key z)) ys
  key_all R [] all = tt
  key_all R (y ∷ ys) all = (all.0, key_all R ys all.1)

  first_of_both :
      (x y : T) → (x ≡ y) ⊎ (key_cmp (key y) (key x) ≡ Less) → (y ≡ x) ⊎ (key_cmp (key x) (key y) ≡ Less) →
      x ≡ y
  first_of_both x y (inl is) back = is
  first_of_both x y (inr below) (inl is) = sym is
  first_of_both x y (inr below) (inr above) =
      let turned : Less ≡ Greater =
      sym below ∙ key_total.antisymm (key y) (key x) ∙ ap ordering_reverse above in
      absurd (cc)

  -- lists with the same members that rise begin with the same item
  first_is :
      (x y : T) (xs ys : List T) → HoldsOn (x ∷ xs) (y ∷ ys) → HoldsOn (y ∷ ys) (x ∷ xs) →
      AllByRecursion (λ z. key_cmp (key x) z ≡ Less) (map key xs) →
      AllByRecursion (λ z. key_cmp (key y) z ≡ Less) (map key ys) → x ≡ y
  first_is x y xs ys to from up down =
      let P : T → Type 0 = λ z. (z ≡ y) ⊎ (key_cmp (key y) (key z) ≡ Less) in
      let Q : T → Type 0 = λ z. (z ≡ x) ⊎ (key_cmp (key x) (key z) ≡ Less) in
      let later : AllByRecursion P ys =
      any_all (λ z. key_cmp (key y) (key z) ≡ Less) P (λ z below. inr below) ys
      (key_all (λ z. key_cmp (key y) z ≡ Less) ys down) in
      let sooner : AllByRecursion Q xs =
      any_all (λ z. key_cmp (key x) (key z) ≡ Less) Q (λ z below. inr below) xs
      (key_all (λ z. key_cmp (key x) z ≡ Less) xs up) in
      let there : AllByRecursion P (x ∷ xs) = from P (inl refl, later) in
      let here : AllByRecursion Q (y ∷ ys) = to Q (inl refl, sooner) in
      first_of_both x y there.0 here.0

  not_first :
      (x y z : T) (P : T → Type 0) → x ≡ y → (P z) ⊎ (z ≡ x) → key_cmp (key y) (key z) ≡ Less → P z
  not_first x y z P is (inl holds) below = holds
  not_first x y z P is (inr first) below =
      let one : key_cmp (key y) (key y) ≡ Less =
      subst (λ w. key_cmp (key y) (key w) ≡ Less) (first ∙ is) below in
      let turned : Less ≡ Equal = sym one ∙ tied_itself key_total (key y) in
      absurd (cc)

  -- after one first item they have the same members
  rest_holds :
      (x y : T) (xs ys : List T) → x ≡ y → HoldsOn (x ∷ xs) (y ∷ ys) →
      AllByRecursion (λ z. key_cmp (key y) z ≡ Less) (map key ys) → HoldsOn xs ys
  rest_holds x y xs ys is to down P all =
      let Q : T → Type 0 = λ z. (P z) ⊎ (z ≡ x) in
      let given : AllByRecursion Q xs = any_all P Q (λ z holds. inl holds) xs all in
      let there : AllByRecursion Q (y ∷ ys) = to Q (inr refl, given) in
      both_all P Q (λ z. key_cmp (key y) z ≡ Less) (λ z either below. not_first x y z P is either below) ys there.1 down

  -- lists with the same members that rise are one
  same_rising :
      (xs ys : List T) → HoldsOn xs ys → HoldsOn ys xs →
      IsStrictlySortedBy key_cmp (map key xs) → IsStrictlySortedBy key_cmp (map key ys) → xs ≡ ys
  unfolding IsStrictlySortedBy
  same_rising [] [] to from up down = refl
  same_rising [] (y ∷ ys) to from up down = absurd (to (λ z. ⊥) tt).0
  same_rising (x ∷ xs) [] to from up down = absurd (from (λ z. ⊥) tt).0
  same_rising (x ∷ xs) (y ∷ ys) to from up down =
      let first : x ≡ y = first_is x y xs ys to from up.0 down.0 in
      let rest : xs ≡ ys =
      same_rising xs ys (rest_holds x y xs ys first to down.0)
      (rest_holds y x ys xs (sym first) from up.0) up.1 down.1 in
      cc

  holds_on : (xs ys : List T) → IsPermutation xs ys → HoldsOn xs ys
  holds_on xs ys moved P all =
      recursion_from_All P ys (All-permutation P xs ys moved (All-from_recursion P xs all))

  -- a listing is the items in rising order of key
  pub only_listing : (items listed : List T) → IsListing key items listed → listed ≡ listing key items
  only_listing items listed is =
      let back = IsPermutation-sym items listed is.members in
      let differ : KeysDiffer key items =
      IsDistinct-IsPermutation (eq_by_cmp key_cmp) (eq_by_cmp_equiv key_total).symm (map key listed)
      (map key items)
      (IsPermutation-map key listed items back)
      (IsDistinct-from_sorted key_cmp (map key listed) is.rising) in
      let other = is_listing items differ in
      let over = IsPermutation-trans listed items (listing key items) back other.members in
      same_rising listed (listing key items) (holds_on listed (listing key items) over)
      (holds_on (listing key items) listed (IsPermutation-sym listed (listing key items) over))
      is.rising other.rising
