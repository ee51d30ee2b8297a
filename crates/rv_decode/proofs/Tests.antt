-- What a test that passes on a whole list says of each of its elements.
use Rattle.std.proofs.Common.{◌≡◌, Bool, true, false, sym, subst, inl, inr, List, [], ◌∷◌, refl}
use Rattle.std.specs.Prelude.{find, Contains, Some}
use Rattle.std.specs.List.{list_all}
use Rattle.std.proofs.lemmas.Bool.{and_parts, both_ways, cases_Bool}
use Rattle.std.proofs.lemmas.List.Folds.{list_all_at}

-- of an element of the list
pub holds-row :
    {X : Type 0} (test : X → Bool) (xs : List X) (x : X) → list_all test xs ≡ true → Contains xs x → test x ≡ true
holds-row {X} test xs x all there =
    let fails-at = list_all_at test xs there.0 x there.1 in
    elim (cases_Bool (test x)) [
      | inl holds ↦ holds
      | inr fails ↦
          let P : X → Type 0 = λ y. test y ≡ false in
          absurd (both_ways _ (fails-at (subst P (sym there.2) fails)) all)
    ]

-- of the element that is found
pub holds-found :
    {X : Type 0} (p test : X → Bool) (xs : List X) (x : X) →
    list_all test xs ≡ true → find p xs ≡ Some x → test x ≡ true
holds-found p test [] x all found = cc
holds-found {X} p test (y ∷ ys) x all found =
    let parts = and_parts (test y) (list_all test ys) all in
    elim (cases_Bool (p y)) [
      | inl here ↦
          let one : Some y ≡ Some x = rw here at found in
          let same : y ≡ x = cc in
          let P : X → Type 0 = λ z. test z ≡ true in
          subst P same parts.0
      | inr other ↦ holds-found p test ys x parts.1 (rw other at found)
    ]

-- the element that is found passes
pub found-passes :
    {X : Type 0} (p : X → Bool) (xs : List X) (x : X) → find p xs ≡ Some x → p x ≡ true
found-passes p [] x found = cc
found-passes {X} p (y ∷ ys) x found =
    elim (cases_Bool (p y)) [
      | inl here ↦
          let one : Some y ≡ Some x = rw here at found in
          let same : y ≡ x = cc in
          let P : X → Type 0 = λ z. p z ≡ true in
          subst P same here
      | inr other ↦ found-passes p ys x (rw other at found)
    ]

-- tests that agree on what is regular find the same
pub find-same :
    {X : Type 0} (is_regular p q : X → Bool) (xs : List X) → ((x : X) → is_regular x ≡ true → p x ≡ q x) →
    list_all is_regular xs ≡ true → find p xs ≡ find q xs
find-same is_regular p q [] same all = refl
find-same is_regular p q (x ∷ xs) same all =
    let parts = and_parts (is_regular x) (list_all is_regular xs) all in
    rw (same x parts.0, find-same is_regular p q xs same parts.1) refl
