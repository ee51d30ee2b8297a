-- Lists of which no two items are one.
use Rattle.std.proofs.Common.{◌≡◌, ◌∙◌, ℕ, suc, ◌+◌, ◌<◌, Bool, true, false, ◌||◌, List, [], ◌∷◌, ◌++◌, length, map}
use Rattle.std.proofs.Common.{drop, get_or, take, refl, sym, ap, subst, arith}
use Rattle.std.specs.List.{All, AllByRecursion, AllPairs, IsDistinct, list_any}
use Rattle.std.specs.Str.{bytes_eq}
use Rattle.std.proofs.lemmas.Bool.{false≢true}
use Rattle.std.proofs.lemmas.List.{drop_more, take-append-drop}
use Rattle.std.proofs.lemmas.List.Elements.{All-cons, All-head, All-tail, All-nil, All-from_recursion}
use Rattle.std.proofs.lemmas.List.Kept.{AllPairs-cons}
use Rattle.std.specs.Cmp.Lexicographic.{nat_list_eq_equiv}
use Rattle.lab_state.specs.Names.{AreNames}
use Rattle.lab_num.proofs.ListLemmas.{each-append}

-- ---- what holds of each item

pub in_front : {K : Type 0} (P : K → Type 0) (xs ys : List K) → AllByRecursion P (xs ++ ys) → AllByRecursion P xs
in_front P [] ys all = tt
in_front P (x ∷ xs) ys all = (all.0, in_front P xs ys all.1)

pub at_back : {K : Type 0} (P : K → Type 0) (xs ys : List K) → AllByRecursion P (xs ++ ys) → AllByRecursion P ys
at_back P [] ys all = all
at_back P (x ∷ xs) ys all = at_back P xs ys all.1

pub by_recursion : {K : Type 0} (P : K → Type 0) (xs : List K) → All P xs → AllByRecursion P xs
by_recursion P [] all = tt
by_recursion P (x ∷ xs) all = (All-head P x xs all, by_recursion P xs (All-tail P x xs all))

-- ---- distinct items

module _ {K : Type 0} (eq : K → K → Bool) where
  pub distinct_front : (xs ys : List K) → IsDistinct eq (xs ++ ys) → IsDistinct eq xs
  unfolding IsDistinct
  distinct_front [] ys distinct = tt
  distinct_front (x ∷ xs) ys distinct =
      (in_front (λ y. eq x y ≡ false) xs ys distinct.0, distinct_front xs ys distinct.1)

  pub distinct_back : (xs ys : List K) → IsDistinct eq (xs ++ ys) → IsDistinct eq ys
  unfolding IsDistinct
  distinct_back [] ys distinct = distinct
  distinct_back (x ∷ xs) ys distinct = distinct_back xs ys distinct.1

  -- no item is one of those before it
  pub twice : ((x y : K) → eq x y ≡ eq y x) → (front : List K) (y : K) (back : List K) →
      list_any (eq y) front ≡ true → IsDistinct eq (front ++ y ∷ back) → ⊥
  unfolding IsDistinct
  twice flips [] y back found distinct = false≢true found
  twice flips (x ∷ front) y back found distinct =
      by_test (eq y x) refl found (λ later. twice flips front y back later distinct.1)
    where
      by_test : (b : Bool) → eq y x ≡ b → (b || list_any (eq y) front) ≡ true → (list_any (eq y) front ≡ true → ⊥) → ⊥
      by_test true is f again =
          false≢true (sym (at_back (λ z. eq x z ≡ false) front (y ∷ back) distinct.0).0 ∙ flips x y ∙ is)
      by_test false is f again = again f

  pub twice_at : ((x y : K) → eq x y ≡ eq y x) → (xs : List K) (i : ℕ) (d : K) → i < length xs →
      list_any (eq (get_or xs i d)) (take i xs) ≡ true → IsDistinct eq xs → ⊥
  twice_at flips xs i d within found distinct =
      twice flips (take i xs) (get_or xs i d) (drop (i + 1) xs) found
      (subst (IsDistinct eq) (sym (take-append-drop i xs) ∙ ap (λ rest. take i xs ++ rest) (drop_more xs i d within))
      distinct)

  pub distinct_pairs : (xs : List K) → IsDistinct eq xs → AllPairs (λ a b. eq a b ≡ false) xs
  unfolding IsDistinct
  distinct_pairs [] distinct = λ i j d before within. absurd (omega arith)
  distinct_pairs (x ∷ xs) distinct =
      AllPairs-cons (λ a b. eq a b ≡ false) x xs (All-from_recursion (λ y. eq x y ≡ false) xs distinct.0)
      (distinct_pairs xs distinct.1)

  -- the first of items against the others
  pairs_first : (x : K) (xs : List K) → AllPairs (λ a b. eq a b ≡ false) (x ∷ xs) → All (λ y. eq x y ≡ false) xs
  pairs_first x xs pairs = λ k d within. pairs 0 (suc k) d (omega arith) (omega arith)

  pairs_rest : (x : K) (xs : List K) → AllPairs (λ a b. eq a b ≡ false) (x ∷ xs) → AllPairs (λ a b. eq a b ≡ false) xs
  pairs_rest x xs pairs = λ i j d before within. pairs (suc i) (suc j) d (omega arith) (omega arith)

  pub pairs_distinct : (xs : List K) → AllPairs (λ a b. eq a b ≡ false) xs → IsDistinct eq xs
  unfolding IsDistinct
  pairs_distinct [] pairs = tt
  pairs_distinct (x ∷ xs) pairs =
      (by_recursion (λ y. eq x y ≡ false) xs (pairs_first x xs pairs), pairs_distinct xs (pairs_rest x xs pairs))

-- items that are distinct by what stands in them
pub distinct_map : {J K : Type 0} (f : J → K) (eq : K → K → Bool) (xs : List J) →
    IsDistinct (λ a b. eq (f a) (f b)) xs → IsDistinct eq (map f xs)
unfolding IsDistinct
distinct_map f eq [] distinct = tt
distinct_map {J} f eq (x ∷ xs) distinct = (all xs distinct.0, distinct_map f eq xs distinct.1)
  where
    all : (ys : List J) → AllByRecursion (λ y. eq (f x) (f y) ≡ false) ys →
        AllByRecursion (λ y. eq (f x) y ≡ false) (map f ys)
    all [] h = tt
    all (y ∷ ys) h = (h.0, all ys h.1)

pub distinct_unmap : {J K : Type 0} (f : J → K) (eq : K → K → Bool) (xs : List J) → IsDistinct eq (map f xs) →
    IsDistinct (λ a b. eq (f a) (f b)) xs
unfolding IsDistinct
distinct_unmap f eq [] distinct = tt
distinct_unmap {J} f eq (x ∷ xs) distinct = (all xs distinct.0, distinct_unmap f eq xs distinct.1)
  where
    all : (ys : List J) → AllByRecursion (λ y. eq (f x) y ≡ false) (map f ys) →
        AllByRecursion (λ y. eq (f x) (f y) ≡ false) ys
    all [] h = tt
    all (y ∷ ys) h = (h.0, all ys h.1)

-- ---- names

-- the names of hubs that are not the name of a board
others : (board : List ℕ) (hubs : List (List ℕ)) → AllByRecursion (λ hub. bytes_eq board hub ≡ false) hubs →
    All (λ hub. bytes_eq hub board ≡ false) hubs
others board [] all = All-nil (λ hub. bytes_eq hub board ≡ false)
others board (hub ∷ hubs) all =
    All-cons (λ hub. bytes_eq hub board ≡ false) hub hubs (nat_list_eq_equiv.symm hub board ∙ all.0)
    (others board hubs all.1)

apart : (boards hubs : List (List ℕ)) → IsDistinct bytes_eq (boards ++ hubs) →
    All (λ board. All (λ hub. bytes_eq hub board ≡ false) hubs) boards
unfolding IsDistinct
apart [] hubs distinct = All-nil (λ board. All (λ hub. bytes_eq hub board ≡ false) hubs)
apart (board ∷ boards) hubs distinct =
    All-cons (λ board. All (λ hub. bytes_eq hub board ≡ false) hubs) board boards
    (others board hubs (at_back (λ name. bytes_eq board name ≡ false) boards hubs distinct.0))
    (apart boards hubs distinct.1)

pub names_are : (boards hubs : List (List ℕ)) → IsDistinct bytes_eq (boards ++ hubs) → AreNames boards hubs
names_are boards hubs distinct = record {
  boards_differ = distinct_pairs bytes_eq boards (distinct_front bytes_eq boards hubs distinct);
  hubs_differ = distinct_pairs bytes_eq hubs (distinct_back bytes_eq boards hubs distinct);
  apart = apart boards hubs distinct;
}

joined : (boards hubs : List (List ℕ)) → IsDistinct bytes_eq boards → IsDistinct bytes_eq hubs →
    All (λ board. All (λ hub. bytes_eq hub board ≡ false) hubs) boards → IsDistinct bytes_eq (boards ++ hubs)
unfolding IsDistinct
joined [] hubs first second apart = second
joined (board ∷ boards) hubs first second apart =
    let own = All-head (λ board. All (λ hub. bytes_eq hub board ≡ false) hubs) board boards apart in
    let flipped : All (λ hub. bytes_eq board hub ≡ false) hubs =
    λ k d within. nat_list_eq_equiv.symm board _ ∙ own k d within in (
      each-append (λ name. bytes_eq board name ≡ false) boards hubs first.0
          (by_recursion (λ hub. bytes_eq board hub ≡ false) hubs flipped),
      joined boards hubs first.1 second
          (All-tail (λ board. All (λ hub. bytes_eq hub board ≡ false) hubs) board boards apart),
    )

pub names_distinct : (boards hubs : List (List ℕ)) → AreNames boards hubs → IsDistinct bytes_eq (boards ++ hubs)
names_distinct boards hubs names =
    joined boards hubs (pairs_distinct bytes_eq boards names.boards_differ)
    (pairs_distinct bytes_eq hubs names.hubs_differ) names.apart
