-- Where attributes stand among items, an item more at a time.
use Rattle.std.proofs.Common.{◌≡◌, ◌∙◌, ◌++◌, ◌∷◌, [], ◌+◌, ◌≤◌, ◌==◌, ℕ, nat_lt, Bool, true, false, cond, not, List}
use Rattle.std.proofs.Common.{length, get_or}
use Rattle.std.proofs.Common.{sym, refl, ap, arith, slice_set, Option, Some, None, OnOk, Result, Ok, Err}
use Rattle.std.specs.List.{position, position_or_len}
use Rattle.std.specs.Map.{update}
use Rattle.std.specs.Str.{bytes_eq}
use Rattle.std.proofs.lemmas.Bool.Decides.{nat_tests}
use Rattle.std.proofs.lemmas.List.{length_push, length-set}
use Rattle.std.proofs.lemmas.List.Folds.{position_or_len_push, position_or_len-set}
use Rattle.std.proofs.lemmas.List.Quantifiers.{position-Some}
use Rattle.std.proofs.lemmas.List.Sums.{prefix_len-le-length}
use Rattle.std.proofs.lemmas.Slice.Eq.{bytes_eq-Decides}
use Rattle.repl_read.specs.declared.entry.ItemWhat.{ItemWhat}
use Rattle.repl_read.specs.declared.entry.ItemWhat.TheVariants.{Attribute, Wire}
use Rattle.repl_read.specs.declared.fault.PlatFault.{PlatFault}
use Rattle.repl_build.specs.declared.merge.PlacedItem.{PlacedItem}
use Rattle.repl_build.specs.Inner.Places.{Places, HasPlaces, place, place_told, with_place}
use Rattle.repl_build.specs.Merge.{has_same_key}
use Rattle.repl_build.specs.Names.{has_key}
use Rattle.repl_build.proofs.FoundLemmas.{nowhere}

-- where a place is first found among so many
abbrev first : ℕ → ℕ → Option ℕ
first n len = cond (nat_lt n len) (Some n) None

first_push :
    (n len : ℕ) (b : Bool) → n ≤ len →
    first (cond (n == len) (len + cond b 0 1) n) (len + 1) ≡ with_place b (first n len) len
first_push n len true least = grind (arith, nat_tests)
first_push n len false least = grind (arith, nat_tests)

-- the first place that passes, where one more comes to the end
position_push :
    {X : Type 0} (p : X → Bool) (xs : List X) (y : X) →
    position p (xs ++ y ∷ []) ≡ with_place (p y) (position p xs) (length xs)
position_push p xs y =
    ap (λ n. first n (length (xs ++ y ∷ []))) (position_or_len_push p xs y)
    ∙ (ap (first (cond (position_or_len p xs == length xs) (length xs + cond (p y) 0 1) (position_or_len p xs)))
    (length_push xs y)
    ∙ first_push (position_or_len p xs) (length xs) (p y) (prefix_len-le-length (λ x. not (p x)) xs))

-- the first place that passes, where another one comes to a place that is judged alike
position_set :
    {X : Type 0} (p : X → Bool) (xs : List X) (i : ℕ) (y d : X) → p y ≡ p (get_or xs i d) →
    position p (slice_set xs i y) ≡ position p xs
position_set p xs i y d alike =
    ap (λ n. first n (length (slice_set xs i y))) (position_or_len-set p xs i y d alike)
    ∙ ap (first (position_or_len p xs)) (length-set xs i y)

pub pushed :
    (places now : Places) (items : List PlacedItem) (item : PlacedItem) (at : ℕ) → at ≡ length items →
    HasPlaces places items →
    ((q : List ℕ) → place now q ≡ with_place (has_key q item.what) (place places q) at) →
    HasPlaces now (items ++ item ∷ [])
pushed places now items item at is has kept q =
    kept q
    ∙ (ap (with_place (has_key q item.what) (place places q)) is
    ∙ ap (λ b. with_place (has_key q item.what) b (length items)) (has q)
    ∙ sym (position_push (λ x. has_key q x.what) items item))

pub told :
    (places : Places) (items : List PlacedItem) (what : ItemWhat) → HasPlaces places items →
    place_told places what ≡ position (has_same_key what) items
told places items (Attribute key value) has = has key
told places items (Wire from to pins) has = sym (nowhere items)

-- items of one key have the same keys
same_keys :
    (what other : ItemWhat) (file line : ℕ) (q : List ℕ) →
    has_same_key what (record { file = file; line = line; what = other }) ≡ true → has_key q what ≡ has_key q other
same_keys (Attribute key value) (Attribute k v) file line q is =
    ap (λ name. bytes_eq name q) (sym ((bytes_eq-Decides k key).0 is))
same_keys (Attribute key value) (Wire from to pins) file line q is = absurd (cc)
same_keys (Wire from to pins) other file line q is = absurd (cc)

pub replaced :
    (places : Places) (items : List PlacedItem) (item : PlacedItem) (at : ℕ) →
    position (has_same_key item.what) items ≡ Some at → HasPlaces places items →
    HasPlaces places (slice_set items at item)
replaced places items item at is has q =
    let found : PlacedItem = get_or items at item in
    has q
    ∙ sym (position_set (λ x. has_key q x.what) items at item item
    (same_keys item.what found.what found.file found.line q
    (position-Some (has_same_key item.what) items at item is).1))

-- a place that is kept where there was none
pub kept :
    (key : List ℕ) (before : List ℕ → Option ℕ) (at : ℕ) (q : List ℕ) → before key ≡ None →
    update bytes_eq before key (Some at) q ≡ with_place (bytes_eq key q) (before q) at
kept key before at q none = by_key (bytes_eq key q) (bytes_eq-Decides key q).0
  where
    by_key :
        (b : Bool) → (b ≡ true → key ≡ q) → cond b (Some at) (before q) ≡ with_place b (before q) at
    by_key true same = rw (← same refl, none) refl
    by_key false same = refl

-- what follows where a call succeeds
pub if_ok : {A B : Type 0} (result : Result (Unit {0}) PlatFault) → (A → B) → OnOk result A → OnOk result B
if_ok (Ok done) f a = f a
if_ok (Err fault) f a = a
