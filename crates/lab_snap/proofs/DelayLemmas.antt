-- The delays of devices in hubs, as a table.
use Rattle.std.proofs.Common.{◌≡◌, ◌∙◌, ℕ, ◌+◌, ◌≤◌, ◌<◌, Bool, true, false, ◌||◌, List, [], ◌∷◌, ◌++◌, length, map}
use Rattle.std.proofs.Common.{append_assoc, cond, drop, get_or, take, refl, sym, ap, subst, arith}
use Rattle.std.specs.Prelude.{Some, find, is_some, unwrap_or}
use Rattle.std.specs.List.{IsDistinct, flat_map, list_any}
use Rattle.std.specs.Map.{keys_of, lookup}
use Rattle.std.specs.Option.{option_map}
use Rattle.std.proofs.lemmas.Bool.Decides.{nat_tests}
use Rattle.std.proofs.lemmas.List.{drop_more, map-append, take-append-drop, take_all, take_more}
use Rattle.std.proofs.lemmas.Map.Made.{is_some-lookup}
use Rattle.lab_num.specs.declared.key.Member.{Member}
use Rattle.lab_num.specs.Key.{same_member}
use Rattle.lab_num.specs.Route.{StandOnce, has_member}
use Rattle.lab_snap.specs.declared.hub.SavedHub.{SavedHub}
use Rattle.lab_snap.specs.Inner.Parts.{delay_by, delay_in, members_in, places}
use Rattle.lab_snap.proofs.DistinctLemmas.{distinct_front, twice}

pub members_flip : (a b : Member) → same_member a b ≡ same_member b a
members_flip a b = grind (arith, nat_tests)

pub keys_joined : {K X : Type 0} (es fs : List (K × X)) → keys_of (es ++ fs) ≡ keys_of es ++ keys_of fs
keys_joined [] fs = refl
keys_joined (e ∷ es) fs = ap (λ keys. e.0 ∷ keys) (keys_joined es fs)

pub keys_placed : (delay : ℕ) (members : List Member) → keys_of (map (λ m. (m, delay)) members) ≡ members
keys_placed delay [] = refl
keys_placed delay (m ∷ members) = ap (λ keys. m ∷ keys) (keys_placed delay members)

-- all members of hubs, one after another
abbrev all_members : List SavedHub → List Member
all_members hubs = flat_map (λ members. members) (members_in hubs)

pub keys_table : (hubs : List SavedHub) → keys_of (flat_map places hubs) ≡ all_members hubs
keys_table [] = refl
keys_table (hub ∷ hubs) =
    keys_joined (places hub) (flat_map places hubs)
    ∙ ap (λ keys. keys ++ keys_of (flat_map places hubs)) (keys_placed hub.delay hub.members)
    ∙ ap (λ keys. hub.members ++ keys) (keys_table hubs)

members_joined : (hubs others : List SavedHub) → all_members (hubs ++ others) ≡ all_members hubs ++ all_members others
members_joined [] others = refl
members_joined (hub ∷ hubs) others =
    ap (λ members. hub.members ++ members) (members_joined hubs others)
    ∙ sym (append_assoc hub.members (all_members hubs) (all_members others))

-- ---- the members of one hub

added_keys : (es front : List (Member × ℕ)) (delay : ℕ) (members : List Member) →
    es ≡ front ++ map (λ m. (m, delay)) members → keys_of es ≡ keys_of front ++ members
added_keys es front delay members is =
    ap keys_of is
    ∙ keys_joined front (map (λ m. (m, delay)) members)
    ∙ ap (λ keys. keys_of front ++ keys) (keys_placed delay members)

pub added_one : (es front : List (Member × ℕ)) (delay : ℕ) (members : List Member) (i : ℕ) (d : Member) →
    i < length members → es ≡ front ++ map (λ m. (m, delay)) (take i members) →
    es ++ (get_or members i d, delay) ∷ [] ≡ front ++ map (λ m. (m, delay)) (take (i + 1) members)
added_one es front delay members i d within is =
    let place : Member → Member × ℕ = λ m. (m, delay) in
    ap (λ all. all ++ (get_or members i d, delay) ∷ []) is
    ∙ append_assoc front (map place (take i members)) ((get_or members i d, delay) ∷ [])
    ∙ ap (λ rest. front ++ rest) (sym (map-append place (take i members) (get_or members i d ∷ [])))
    ∙ ap (λ ms. front ++ map place ms) (sym (take_more members i d within))

-- a member that is there already
pub member_twice : (es front : List (Member × ℕ)) (delay : ℕ) (members : List Member) (i : ℕ) (d : Member) →
    i < length members → es ≡ front ++ map (λ m. (m, delay)) (take i members) →
    is_some (lookup (same_member (get_or members i d)) es) ≡ true →
    IsDistinct same_member (keys_of front ++ members) → ⊥
member_twice es front delay members i d within is found distinct =
    let m = get_or members i d in
    let split : keys_of front ++ members ≡ (keys_of front ++ take i members) ++ m ∷ drop (i + 1) members =
    ap (λ ms. keys_of front ++ ms)
    (sym (take-append-drop i members) ∙ ap (λ rest. take i members ++ rest) (drop_more members i d within))
    ∙ sym (append_assoc (keys_of front) (take i members) (m ∷ drop (i + 1) members)) in
    twice same_member members_flip (keys_of front ++ take i members) m (drop (i + 1) members)
    (subst (λ keys. list_any (same_member m) keys ≡ true) (added_keys es front delay (take i members) is)
    (sym (is_some-lookup (same_member m) es) ∙ found))
    (subst (IsDistinct same_member) split distinct)

-- ---- the members of all hubs

-- members of a hub that stand in hubs before it
pub not_once : (hubs : List SavedHub) (i : ℕ) (hub : SavedHub) (es : List (Member × ℕ)) → i < length hubs →
    hub ≡ get_or hubs i hub → es ≡ flat_map places (take i hubs) →
    (IsDistinct same_member (keys_of es ++ hub.members) → ⊥) → StandOnce (members_in hubs) → ⊥
not_once hubs i hub es within here is never once =
    let before = take i hubs in
    let after = drop (i + 1) hubs in
    let split : all_members hubs ≡ (keys_of es ++ hub.members) ++ all_members after =
    ap all_members
    (sym (take-append-drop i hubs)
    ∙ ap (λ rest. before ++ rest) (drop_more hubs i hub within ∙ ap (λ h. h ∷ after) (sym here)))
    ∙ members_joined before (hub ∷ after)
    ∙ sym (append_assoc (all_members before) hub.members (all_members after))
    ∙ ap (λ front. (front ++ hub.members) ++ all_members after) (sym (ap keys_of is ∙ keys_table before)) in
    never (distinct_front same_member (keys_of es ++ hub.members) (all_members after)
    (subst (IsDistinct same_member) split once))

-- ---- what the table says

lookup_placed : (m : Member) (delay : ℕ) (members : List Member) (rest : List (Member × ℕ)) →
    lookup (same_member m) (map (λ x. (x, delay)) members ++ rest)
    ≡ cond (has_member members m) (Some delay) (lookup (same_member m) rest)
lookup_placed m delay [] rest = refl
lookup_placed m delay (x ∷ members) rest =
    rw (members_flip x m) (by_test (same_member m x) (lookup_placed m delay members rest))
  where
    by_test : (b : Bool) →
        lookup (same_member m) (map (λ x. (x, delay)) members ++ rest)
        ≡ cond (has_member members m) (Some delay) (lookup (same_member m) rest) →
        cond b (Some delay) (lookup (same_member m) (map (λ x. (x, delay)) members ++ rest))
        ≡ cond (b || has_member members m) (Some delay) (lookup (same_member m) rest)
    by_test true others = refl
    by_test false others = others

delay_found : (hubs : List SavedHub) (m : Member) → lookup (same_member m) (flat_map places hubs) ≡ delay_in hubs m
delay_found [] m = refl
delay_found (hub ∷ hubs) m =
    lookup_placed m hub.delay hub.members (flat_map places hubs)
    ∙ by_test (has_member hub.members m) (delay_found hubs m)
  where
    by_test : (b : Bool) → lookup (same_member m) (flat_map places hubs) ≡ delay_in hubs m →
        cond b (Some hub.delay) (lookup (same_member m) (flat_map places hubs))
        ≡ option_map (λ h. h.delay) (cond b (Some hub) (find (λ h. has_member h.members m) hubs))
    by_test true others = refl
    by_test false others = others

delays_are : (hubs : List SavedHub) (m : Member) →
    unwrap_or (lookup (same_member m) (flat_map places hubs)) 0 ≡ unwrap_or (delay_in hubs m) 0
delays_are hubs m = ap (λ found. unwrap_or found 0) (delay_found hubs m)

pub table_done : (hubs : List SavedHub) (i : ℕ) (es : List (Member × ℕ)) → length hubs ≤ i →
    es ≡ flat_map places (take i hubs) → IsDistinct same_member (keys_of es) →
    StandOnce (members_in hubs) × ((m : Member) → delay_by es m ≡ unwrap_or (delay_in hubs m) 0)
table_done hubs i es past is distinct =
    let all : es ≡ flat_map places hubs = is ∙ ap (flat_map places) (take_all i hubs past) in (
      subst (IsDistinct same_member) (ap keys_of all ∙ keys_table hubs) distinct,
      λ m. ap (λ table. delay_by table m) all ∙ delays_are hubs m,
    )
