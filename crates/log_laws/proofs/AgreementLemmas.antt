-- Agreement on names, name by name.
use Rattle.std.proofs.Common.{◌≡◌, ◌∷◌, ◌++◌, ℕ, List, [], refl}
use Rattle.std.proofs.lemmas.Cmp.{nat_list_cmp_total}
use Rattle.std.specs.FinMap.{get, insert, get-insert}
use Rattle.std.specs.List.{AllByRecursion}
use Rattle.lab_io.specs.Held.{Held}

-- as `AgreeOn`, by recursion on the names
abbrev pub Same : Held → Held → List (List ℕ) → Type 0
Same held other names = AllByRecursion (λ name. get other name ≡ get held name) names

module _ (held other : Held) where
  -- of names in a row those in front, and those behind
  pub same_front : (names more : List (List ℕ)) → Same held other (names ++ more) → Same held other names
  same_front [] more same = tt
  same_front (name ∷ names) more same = (same.0, same_front names more same.1)

  pub same_behind : (names more : List (List ℕ)) → Same held other (names ++ more) → Same held other more
  same_behind [] more same = same
  same_behind (name ∷ names) more same = same_behind names more same.1

  same_put : (name of : List ℕ) (bytes : List ℕ) → get other of ≡ get held of →
      get (insert other name bytes) of ≡ get (insert held name bytes) of
  same_put name of bytes same =
      rw (get-insert nat_list_cmp_total other name bytes of, get-insert nat_list_cmp_total held name bytes of, same)
      refl

  -- what agrees also agrees after the same was put under the same name
  pub same_after : (name bytes : List ℕ) (names : List (List ℕ)) → Same held other names →
      Same (insert held name bytes) (insert other name bytes) names
  same_after name bytes [] same = tt
  same_after name bytes (of ∷ names) same = (same_put name of bytes same.0, same_after name bytes names same.1)
