-- Where the keys differ, the items sorted by key are a listing.
use Rattle.std.proofs.Common.{◌≡◌, ap, refl, ℕ, ◌+◌, ◌<◌, true, false, List, [], ◌∷◌, length, map, get_or, arith}
use Rattle.std.specs.List.Sorted.{IsPermutation, IsSortedByKey, IsStrictlySortedBy}
use Rattle.std.specs.Ordering.{is_lt, is_eq, ordering_reverse, eq_by_cmp}
use Rattle.std.specs.declared.cmp.Ordering.{Ordering}
use Rattle.std.specs.declared.cmp.Ordering.TheVariants.{Less, Equal, Greater}
use Rattle.std.proofs.lemmas.Cmp.{eq_by_cmp_equiv}
use Rattle.std.proofs.lemmas.List.{get_or-map, length-map}
use Rattle.std.proofs.lemmas.List.Sorted.{IsPermutation-map}
use Rattle.std.proofs.lemmas.Map.Keys.{IsDistinct-IsPermutation, apart_from_distinct, sorted_from_all_adjacent}
use Rattle.lab_num.proofs.ListingLemmas.{key_total}
use Rattle.lab_num.specs.declared.key.Key.{Key}
use Rattle.lab_num.specs.Key.{key_cmp, KeysDiffer}
use Rattle.lab_num.specs.Listing.{IsListing}

-- what is neither above nor equal is below
below : (r s : Ordering) → s ≡ ordering_reverse r → is_eq r ≡ false → is_lt s ≡ false → r ≡ Less
below Less s turned apart up = refl
below Equal s turned apart up = absurd (cc)
below Greater s turned apart up = let less : is_lt s ≡ true = ap is_lt turned in absurd (cc)

module _ {T : Type 0} (key : T → Key) where
  adjacent :
      (items : List T) (d : T) → KeysDiffer key items → IsSortedByKey key key_cmp items → (k : ℕ) →
      k + 1 < length (map key items) →
      key_cmp (get_or (map key items) k (key d)) (get_or (map key items) (k + 1) (key d)) ≡ Less
  adjacent items d differ up k within =
      let inside : k + 1 < length items = omega (arith, length-map items key) in
      let first : get_or (map key items) k (key d) ≡ key (get_or items k d) =
      get_or-map key items k d (key d) (omega arith) in
      let second : get_or (map key items) (k + 1) (key d) ≡ key (get_or items (k + 1) d) =
      get_or-map key items (k + 1) d (key d) inside in
      let apart =
      apart_from_distinct (eq_by_cmp key_cmp) (map key items) k (k + 1) (key d) differ (omega arith) within in
      below (key_cmp (get_or (map key items) k (key d)) (get_or (map key items) (k + 1) (key d)))
      (key_cmp (get_or (map key items) (k + 1) (key d)) (get_or (map key items) k (key d)))
      (key_total.antisymm (get_or (map key items) (k + 1) (key d)) (get_or (map key items) k (key d)))
      apart
      (rw (first, second) (up k d (omega arith) inside))

  rising :
      (items : List T) → KeysDiffer key items → IsSortedByKey key key_cmp items →
      IsStrictlySortedBy key_cmp (map key items)
  unfolding IsStrictlySortedBy
  rising [] differ up = tt
  rising (x ∷ xs) differ up =
      sorted_from_all_adjacent key_total (map key (x ∷ xs)) (key x) (adjacent (x ∷ xs) x differ up)

  -- the same items, sorted by key, are a listing
  pub sorted_is_listing :
      (items sorted : List T) → KeysDiffer key items → IsPermutation items sorted →
      IsSortedByKey key key_cmp sorted →
      IsListing key items sorted
  sorted_is_listing items sorted differ moved up =
      let apart : KeysDiffer key sorted =
      IsDistinct-IsPermutation (eq_by_cmp key_cmp) (eq_by_cmp_equiv key_total).symm (map key items)
      (map key sorted)
      (IsPermutation-map key items sorted moved) differ in
      record { members = moved; rising = rising sorted apart up }
