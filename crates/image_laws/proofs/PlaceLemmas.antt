-- In a valid plan each byte of a memory has one address.
use Rattle.std.proofs.Common.{◌≡◌, ◌∙◌, ℕ, zero, suc, ◌+◌, ◌-◌, ◌<◌, ◌≤◌, ◌==◌}
use Rattle.std.proofs.Common.{nat_lt, nat_le, Bool, true, false, cond}
use Rattle.std.proofs.Common.{List, [], ◌∷◌, length, map, find, Option, None, Some, refl, sym, ap, subst, arith}
use Rattle.std.specs.Prelude.{count_by, slice_index, slice_index_or}
use Rattle.std.specs.List.{list_all}
use Rattle.std.proofs.lemmas.Bool.{and_parts}
use Rattle.std.proofs.lemmas.Bool.Decides.{nat_tests}
use Rattle.std.proofs.lemmas.List.{length-map}
use Rattle.std.proofs.lemmas.List.Sums.{sum_by-cons}
use Rattle.sys_bus.specs.declared.region.Region.{Region}
use Rattle.sys_bus.specs.declared.region.RegionKind.{RegionKind}
use Rattle.sys_bus.specs.declared.region.RegionKind.TheVariants.{Ram, Clint, Plic, Dev}
use Rattle.sys_bus.specs.declared.region.Target.TheVariants as to
use Rattle.sys_bus.specs.Part.{all_hold_parts, all_name_parts, has_memory_size, has_one_each, is_part, names_of}
use Rattle.sys_bus.specs.Part.{regions_of}
use Rattle.sys_bus.specs.Plan.{IsValid}
use Rattle.sys_bus.specs.Region.{holds, same_part, target_by, target_if}
use Rattle.board.specs.Space.{Space, memory_at, target_at}
use Rattle.image_laws.specs.Inner.Places.{StandApart}
use Rattle.lab_num.proofs.ListLemmas.{found_passes, passes_at, range_passes}

count_more :
    {A : Type 0} (p : A → Bool) (x : A) (xs : List A) → count_by p (x ∷ xs) ≡ cond (p x) 1 0 + count_by p xs
count_more p x xs = sum_by-cons (λ x. cond (p x) 1 0) x xs

-- what all pass, what is found does
all_found :
    {A : Type 0} (p q : A → Bool) (xs : List A) (x : A) → list_all q xs ≡ true → find p xs ≡ Some x → q x ≡ true
all_found p q xs x all is = let at = (found_passes p xs x is).1 in passes_at q xs at.0 x all at.1

-- what is found counts
counts : {A : Type 0} (p q : A → Bool) (xs : List A) (x : A) → find q xs ≡ Some x → p x ≡ true → 1 ≤ count_by p xs
counts p q [] x is good = cc is
counts p q (y ∷ ys) x is good =
    subst (λ n. 1 ≤ n) (sym (count_more p y ys)) (tested (q y) is (λ is. counts p q ys x is good))
  where
    tested : (b : Bool) → cond b (Some y) (find q ys) ≡ Some x → (find q ys ≡ Some x → 1 ≤ count_by p ys) →
        1 ≤ cond (p y) 1 0 + count_by p ys
    tested true is later =
        let same : y ≡ x = cc is in
        let here : p y ≡ true = subst (λ z. p z ≡ true) (sym same) good in rw here (omega arith)
    tested false is later = let more = later is in omega (arith, more)

-- two searches find the one item that counts
once :
    {A : Type 0} (p q r : A → Bool) (xs : List A) (x y : A) → count_by p xs ≤ 1 → find q xs ≡ Some x →
    find r xs ≡ Some y → p x ≡ true → p y ≡ true → x ≡ y
once p q r [] x y few first second good other = cc first
once p q r (z ∷ zs) x y few first second good other =
    tested (q z) (r z) first second
    (λ first second. once p q r zs x y (omega (arith, sum)) first second good other)
  where
    sum : cond (p z) 1 0 + count_by p zs ≤ 1
    sum = subst (λ n. n ≤ 1) (count_more p z zs) few

    ahead : z ≡ x → find r zs ≡ Some y → ⊥
    ahead same is =
        let here : p z ≡ true = subst (λ w. p w ≡ true) (sym same) good in
        let later = counts p r zs y is other in
        let two = rw here at sum in omega (arith, later, two)

    behind : z ≡ y → find q zs ≡ Some x → ⊥
    behind same is =
        let here : p z ≡ true = subst (λ w. p w ≡ true) (sym same) other in
        let later = counts p q zs x is good in
        let two = rw here at sum in omega (arith, later, two)

    tested : (b d : Bool) → cond b (Some z) (find q zs) ≡ Some x → cond d (Some z) (find r zs) ≡ Some y →
        (find q zs ≡ Some x → find r zs ≡ Some y → x ≡ y) → x ≡ y
    tested true true first second later =
        let a : z ≡ x = cc first in let b : z ≡ y = cc second in sym a ∙ b
    tested true false first second later = let same : z ≡ x = cc first in absurd (ahead same second)
    tested false true first second later = let same : z ≡ y = cc second in absurd (behind same first)
    tested false false first second later = later first second

-- the region of a byte of a memory
record Found (regions : List Region) (a part at : ℕ) : Type 0 where
  region : Region
  found : find (holds a 1) regions ≡ Some region
  kind : region.kind ≡ Ram part
  place : a - region.base ≡ at

found_by :
    (regions : List Region) (a part at : ℕ) (found : Option Region) → find (holds a 1) regions ≡ found →
    target_if a found ≡ to.Ram part at → Found regions a part at
found_by regions a part at None is there = cc there
found_by regions a part at (Some region) is there = by_kind region.kind refl there
  where
    by_kind : (kind : RegionKind) → region.kind ≡ kind → target_by (a - region.base) kind ≡ to.Ram part at →
        Found regions a part at
    by_kind (Ram i) same there =
        let number : i ≡ part = cc there in
        record { region = region; found = is; kind = same ∙ ap Ram number; place = cc there }
    by_kind Clint same there = cc there
    by_kind Plic same there = cc there
    by_kind (Dev i) same there = cc there

sized : (memories : List (List ℕ)) (i : ℕ) → i < length memories →
    length (slice_index_or memories i []) ≡ slice_index (map length memories) i
sized [] i within = absurd (omega (arith, within))
sized (m ∷ memories) zero within = refl
sized (m ∷ memories) (suc i) within = sized memories i (omega (arith, within))

module _ (s : Space) (valid : IsValid s.plan) (sizes : map length s.memories ≡ s.plan.memories) where
  count_same : length s.memories ≡ length s.plan.memories
  count_same = sym (length-map s.memories (λ m. length m)) ∙ ap (λ xs. length xs) sizes

  there_is : (a part at : ℕ) → target_at s a 1 ≡ to.Ram part at → Found s.plan.regions a part at
  there_is a part at is = found_by s.plan.regions a part at (find (holds a 1) s.plan.regions) refl is

  is_below : (a part at : ℕ) → Found s.plan.regions a part at → part < length s.plan.memories
  is_below a part at f =
      let all = (and_parts (all_name_parts (length s.plan.memories) (length s.plan.kinds) s.plan.names)
      (all_hold_parts (length s.plan.memories) (length s.plan.kinds) s.plan.regions)
      valid.no_others).1 in
      let here = all_found (holds a 1) (λ region. is_part (length s.plan.memories) (length s.plan.kinds) region.kind)
      s.plan.regions f.region all f.found in
      let below : nat_lt part (length s.plan.memories) ≡ true = rw f.kind at here in
      grind (arith, nat_tests, below)

  one_region : (part : ℕ) → part < length s.plan.memories → regions_of s.plan.regions (Ram part) ≤ 1
  one_region part within =
      let all = (and_parts _ _ (and_parts _ _ (and_parts _ _ valid.parts).0).0).0 in
      let each =
      range_passes (λ i. has_one_each s.plan.names s.plan.regions (Ram i)) 0 (length s.plan.memories) part all within in
      let same : 0 + part ≡ part = omega arith in
      let one : (regions_of s.plan.regions (Ram part) == 1) ≡ true =
      (and_parts (names_of s.plan.names (Ram part) == 1) (regions_of s.plan.regions (Ram part) == 1)
      (subst (λ i. has_one_each s.plan.names s.plan.regions (Ram i) ≡ true) same each)).1 in
      grind (arith, nat_tests, one)

  is_ram : (part : ℕ) (kind : RegionKind) → kind ≡ Ram part → same_part kind (Ram part) ≡ true
  is_ram part kind same = rw same (grind (arith, nat_tests))

  one_address :
      (a b part at : ℕ) → Found s.plan.regions a part at → Found s.plan.regions b part at → a ≡ b
  one_address a b part at f g =
      let same = once (λ region. same_part region.kind (Ram part)) (holds a 1) (holds b 1) s.plan.regions f.region
      g.region (one_region part (is_below a part at f)) f.found g.found (is_ram part f.region.kind f.kind)
      (is_ram part g.region.kind g.kind) in
      let base : f.region.base ≡ g.region.base = ap (λ region. region.base) same in
      let first =
      (and_parts (nat_le f.region.base a) _ (found_passes (holds a 1) s.plan.regions f.region f.found).0).0 in
      let second =
      (and_parts (nat_le g.region.base b) _ (found_passes (holds b 1) s.plan.regions g.region g.found).0).0 in
      grind (arith, nat_tests, base, first, second, f.place, g.place)

  within : (a part at : ℕ) → Found s.plan.regions a part at → at < length (memory_at s part)
  within a part at f =
      let there : part < length s.memories = rw count_same (is_below a part at f) in
      let here = all_found (holds a 1) (λ region. has_memory_size s.plan.memories region.kind region.size)
      s.plan.regions f.region valid.memory_sizes f.found in
      let size : (f.region.size == slice_index s.plan.memories part) ≡ true = rw f.kind at here in
      let long : length (memory_at s part) ≡ slice_index s.plan.memories part =
      sized s.memories part there ∙ ap (λ xs. slice_index xs part) sizes in
      let both = and_parts (nat_le f.region.base a) _ (found_passes (holds a 1) s.plan.regions f.region f.found).0 in
      rw long (grind (arith, nat_tests, size, both.0, both.1, f.place))

  pub stand_apart : StandApart s
  stand_apart = record {
    apart = λ a b part at first second. one_address a b part at (there_is a part at first) (there_is b part at second);
    part = λ a part at is. rw count_same (is_below a part at (there_is a part at is));
    held = λ a part at is. within a part at (there_is a part at is);
  }
