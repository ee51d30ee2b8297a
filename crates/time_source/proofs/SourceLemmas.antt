-- The least of some times, and writes to the places of a source.
use Rattle.std.proofs.Common.{◌≡◌, ◌∙◌, sym, ap, refl, ℕ, zero, suc, ◌+◌, ◌/◌, ◌<◌, ◌≤◌, true, List, [], ◌∷◌, ◌++◌}
use Rattle.std.proofs.Common.{length, map, set, get_or, take, drop, add-one, slice_get, arith}
use Rattle.std.specs.List.{All}
use Rattle.std.proofs.lemmas.List.Elements.{All-head, All-tail, All-take, All-map}
use Rattle.std.proofs.Math.Nat.{div-mul-le_self}
use Rattle.std.proofs.lemmas.Nat.{le-div}
use Rattle.std.proofs.lemmas.Option.{slice_get-get_or}
use Rattle.std.specs.Option.{ForSome}
use Rattle.time_handle.specs.Grant as grants
use Rattle.time_source.specs.Tree.{Tree, IsLater, least, elapsed, renewed}

module _ {T : Type 0} (time : T → ℕ) where
  least_at_most :
      (other : ℕ) (xs : List T) (k : ℕ) (d : T) →
      k < length xs → least other (map time xs) ≤ time (get_or xs k d)
  least_at_most other [] k d below = absurd (omega arith)
  least_at_most other (x ∷ xs) zero d below = omega arith
  least_at_most other (x ∷ xs) (suc k) d below = omega (arith, least_at_most (time x) xs k d (omega arith))

  least_at_least :
      (low other : ℕ) (xs : List T) →
      All (λ x. low ≤ time x) xs → low ≤ other → low ≤ least other (map time xs)
  least_at_least low other [] all here = here
  least_at_least low other (x ∷ xs) all here =
      let first = All-head (λ x. low ≤ time x) x xs all in
      omega (arith, first, least_at_least low (time x) xs (All-tail (λ x. low ≤ time x) x xs all) first)

  -- the time of one of some items is the least where no item's time is below it
  pub least_is :
      (low other : ℕ) (xs : List T) (k : ℕ) (x : T) →
      k < length xs → get_or xs k x ≡ x → low ≡ time x → All (λ y. low ≤ time y) xs →
      least other (map time xs) ≡ low
  least_is low other [] k x below at is all = absurd (omega arith)
  least_is low other (y ∷ ys) k x below at is all =
      let first = All-head (λ y. low ≤ time y) y ys all in
      let rest = least_at_least low (time y) ys (All-tail (λ y. low ≤ time y) y ys all) first in
      omega (arith, first, rest, least_at_most other (y ∷ ys) k x below, ap time at, is)

  least_below : (a b : ℕ) (ts : List ℕ) → a ≤ b → least a ts ≤ least b ts
  least_below a b [] h = h
  least_below a b (t ∷ ts) h = omega arith

  -- the least does not fall where one item's time rises
  pub least-set :
      (other : ℕ) (xs : List T) (i : ℕ) (y : T) →
      time (get_or xs i y) ≤ time y → least other (map time xs) ≤ least other (map time (set xs i y))
  least-set other [] i y h = omega arith
  least-set other (x ∷ xs) zero y h = omega (arith, h, least_below (time x) (time y) (map time xs) h)
  least-set other (x ∷ xs) (suc i) y h = omega (arith, least-set (time x) xs i y h)

divided : (a b k : ℕ) → a ≤ b → a / k ≤ b / k
divided a b zero h = omega arith
divided a b (suc k) h =
    le-div (a / suc k) b (suc k) (omega arith) (omega (arith, div-mul-le_self a (suc k), h))

-- a handle's time does not fall
elapsed-later : (before after : grants.Grant) → IsLater before after → grants.elapsed before ≤ grants.elapsed after
elapsed-later before after later =
    let slots = divided before.used after.used before.speed later.used in
    rw (later.from, later.speed) (omega (arith, slots))

-- nor does the time of a source with an open grant, where a member's handle gives way to a later one
pub elapsed-put :
    (t : Tree) (i : ℕ) (handle : grants.Grant) →
    t.is_open ≡ true → i < length t.handles → ForSome (slice_get t.handles i) (λ g. IsLater g handle) →
    elapsed t ≤ elapsed (record t { handles = set t.handles i handle })
elapsed-put t i handle is_open member later =
    let before = get_or t.handles i handle in
    let is_later : IsLater before handle = later before (slice_get-get_or t.handles i handle member) in
    rw is_open (least-set grants.elapsed t.end t.handles i handle (elapsed-later before handle is_later))

-- the time of a source whose grant is open
pub elapsed-open :
    (t : Tree) (low : ℕ) → t.is_open ≡ true → least t.end (map grants.elapsed t.handles) ≡ low → low ≡ elapsed t
elapsed-open t low is_open is = rw is_open (sym is)

next :
    {T : Type 0} (f : T → T) (xs : List T) (i : ℕ) {old new : T} →
    i < length xs → old ≡ get_or (map f (take i xs) ++ drop i xs) i old → new ≡ f old →
    set (map f (take i xs) ++ drop i xs) i new ≡ map f (take (suc i) xs) ++ drop (suc i) xs
next f [] i below is made = absurd (omega arith)
next f (x ∷ xs) zero below is made = ap (λ y. y ∷ xs) (made ∙ ap f is)
next f (x ∷ xs) (suc i) below is made = ap (λ ys. f x ∷ ys) (next f xs i (omega arith) is made)

-- one place more of a list is changed by a function
pub map-next :
    {T : Type 0} (f : T → T) (xs items : List T) (i : ℕ) {old new : T} →
    items ≡ map f (take i xs) ++ drop i xs → i < length xs → old ≡ get_or items i old → new ≡ f old →
    set items i new ≡ map f (take (i + 1) xs) ++ drop (i + 1) xs
map-next f xs items i so_far below is made = rw (so_far, add-one) (next f xs i below (rw so_far at is) made)

-- new grants end together
pub renewed-ends :
    (from to n : ℕ) (gs : List grants.Grant) → All (λ g. g.to ≡ to) (take n (map (renewed from to) gs))
renewed-ends from to n gs =
    let Ends : grants.Grant → Type 0 = λ g. g.to ≡ to in
    All-take Ends n (map (renewed from to) gs) (All-map Ends (renewed from to) gs (λ k d below. refl))
