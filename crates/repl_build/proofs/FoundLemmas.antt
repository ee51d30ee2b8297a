-- Further items, as they are found by name.
use Rattle.std.proofs.Common.{◌≡◌, ◌∙◌, ℕ, List, [], ◌∷◌, ◌++◌, filter, Bool, true, false, cond, nat_lt, length, refl}
use Rattle.std.proofs.Common.{ap, arith, Some, None}
use Rattle.std.specs.List.{flat_map, position, position_or_len}
use Rattle.std.proofs.lemmas.Bool.Decides.{nat_tests}
use Rattle.repl_read.specs.declared.entry.Entry.{Entry}
use Rattle.repl_build.specs.Merge.{further_items, own_items, updates}

none_stops : {X : Type 0} (xs : List X) → position_or_len (λ x. false) xs ≡ length xs
none_stops [] = refl
none_stops (x ∷ xs) = omega (arith, none_stops xs)

pub nowhere : {X : Type 0} (xs : List X) → position (λ x. false) xs ≡ None
nowhere xs =
    let beyond : nat_lt (position_or_len (λ x. false) xs) (length xs) ≡ false =
    grind (arith, nat_tests, none_stops xs) in
    ap (λ (b : Bool). cond b (Some (position_or_len (λ x. false) xs)) None) beyond

-- the further items of a name are the items of the entries that have some
pub further_found :
    (entries found : List Entry) (name : List ℕ) → found ≡ filter (λ entry. updates name entry.head) entries →
    flat_map own_items found ≡ further_items entries name
further_found entries found name is = ap (flat_map own_items) is ∙ of_all entries
  where
    of_all : (es : List Entry) →
        flat_map own_items (filter (λ entry. updates name entry.head) es) ≡ further_items es name
    of_all [] = refl
    of_all (e ∷ es) = by_head (updates name e.head) (of_all es)
      where
        by_head :
            (b : Bool) → flat_map own_items (filter (λ entry. updates name entry.head) es) ≡ further_items es name →
            flat_map own_items (cond b (e ∷ filter (λ entry. updates name entry.head) es)
            (filter (λ entry. updates name entry.head) es)) ≡ (cond b (own_items e) [] ++ further_items es name)
        by_head true rest = ap (λ xs. own_items e ++ xs) rest
        by_head false rest = rest
