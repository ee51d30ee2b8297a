-- Hubs whose members and delays are kept apart from their names.
use Rattle.std.proofs.Common.{◌≡◌, ap, refl, Bool, true, false, cond, ℕ, zero, suc, List, [], ◌∷◌, ◌++◌, length, find}
use Rattle.std.proofs.Common.{Some}
use Rattle.std.proofs.Common.{is_some}
use Rattle.std.proofs.Common.{not, map, nat_eq, position, unwrap_or}
use Rattle.std.specs.Cmp.Lexicographic.{pointwise, nat_list_eq_equiv}
use Rattle.std.specs.Map.{keys_of}
use Rattle.std.specs.Str.{bytes_eq}
use Rattle.indexmap.specs.IndexMap.{IndexMap, get}
use Rattle.indexmap.proofs.MapLemmas.{some_index}
use Rattle.dev_core.specs.declared.kind.Kind.{Kind}
use Rattle.lab_state.proofs.ListLemmas.{position-map}
use Rattle.std.specs.List.{position_or_len}
use Rattle.std.proofs.Common.{◌+◌, ◌∙◌, sym, slice_get, Option, None, arith}
use Rattle.std.proofs.lemmas.Option.{slice_get-map}
use Rattle.std.specs.Option.{option_map, option_map_or}
use Rattle.lab_num.specs.declared.key.Member.{Member}
use Rattle.lab_num.specs.Route.{has_member, hub_of}
use Rattle.lab_num.specs.Change.{change_at}
use Rattle.lab_num.proofs.ListLemmas.{none_is}
use Rattle.uart_hub.specs.Hub as uart_hub
use Rattle.lab_state.specs.Hub.{Hub, delay_of}
use Rattle.lab_state.specs.One.{with_member}
use Rattle.lab_state.specs.Inner.Hubs.{Head, head_of, hub_by, hubs_of, inside_of, AreParts}

pub parts :
    (names : List Head) (hubs : List uart_hub.Hub) → length names ≡ length hubs →
    AreParts names hubs (hubs_of names hubs)
parts [] [] same =
    record { names_are = refl; parts_are = refl; members_are = refl; names_long = refl; parts_long = refl }
parts [] (h ∷ hs) same = absurd (omega arith)
parts (n ∷ ns) [] same = absurd (omega arith)
parts (n ∷ ns) (h ∷ hs) same =
    let rest = parts ns hs (omega arith) in
    record {
      names_are = ap (λ l. n ∷ l) rest.names_are;
      parts_are = ap (λ l. h ∷ l) rest.parts_are;
      members_are = ap (λ l. h.members ∷ l) rest.members_are;
      names_long = ap suc rest.names_long;
      parts_long = ap suc rest.parts_long;
    }

pub hubs-push :
    (names : List Head) (hubs : List uart_hub.Hub) (n : Head) (h : uart_hub.Hub) → length names ≡ length hubs →
    hubs_of (names ++ n ∷ []) (hubs ++ h ∷ []) ≡ hubs_of names hubs ++ hub_by n h ∷ []
hubs-push [] [] n h same = refl
hubs-push [] (x ∷ xs) n h same = absurd (omega arith)
hubs-push (y ∷ ys) [] n h same = absurd (omega arith)
hubs-push (y ∷ ys) (x ∷ xs) n h same = ap (λ rest. hub_by y x ∷ rest) (hubs-push ys xs n h (omega arith))

pub hubs-connected :
    (names : List Head) (hubs : List uart_hub.Hub) (i : ℕ) (m : Member) →
    hubs_of names (change_at hubs i (uart_hub.with_member m)) ≡ change_at (hubs_of names hubs) i (with_member m)
hubs-connected [] hubs i m = refl
hubs-connected (n ∷ ns) [] i m = refl
hubs-connected (n ∷ ns) (h ∷ hs) zero m = refl
hubs-connected (n ∷ ns) (h ∷ hs) (suc i) m = ap (λ rest. hub_by n h ∷ rest) (hubs-connected ns hs i m)

-- the delay of the hub of a device
pub hubs-delay :
    (names : List Head) (hubs : List uart_hub.Hub) (m : Member) → length names ≡ length hubs →
    uart_hub.delay_of hubs m ≡ delay_of (hubs_of names hubs) m
hubs-delay [] [] m same = refl
hubs-delay [] (h ∷ hs) m same = absurd (omega arith)
hubs-delay (n ∷ ns) [] m same = absurd (omega arith)
hubs-delay (n ∷ ns) (h ∷ hs) m same = by_test (has_member h.members m) (hubs-delay ns hs m (omega arith))
  where
    by_test :
        (here : Bool) → uart_hub.delay_of hs m ≡ delay_of (hubs_of ns hs) m →
        option_map (λ (hub : uart_hub.Hub). hub.delay)
        (cond here (Some h) (find (λ hub. has_member hub.members m) hs))
        ≡ option_map (λ (hub : Hub). hub.delay)
        (cond here (Some (hub_by n h)) (find (λ hub. has_member hub.members m) (hubs_of ns hs)))
    by_test true rest = refl
    by_test false rest = rest

-- the members of the hub of a device
pub hub-members :
    (hubs : List uart_hub.Hub) (m : Member) →
    option_map_or (λ (hub : uart_hub.Hub). hub.members) (find (λ hub. has_member hub.members m) hubs) []
    ≡ hub_of (uart_hub.members_of hubs) m
hub-members [] m = refl
hub-members (h ∷ hs) m = by_test (has_member h.members m) (hub-members hs m)
  where
    by_test :
        (here : Bool) →
        option_map_or (λ (hub : uart_hub.Hub). hub.members) (find (λ hub. has_member hub.members m) hs) []
        ≡ hub_of (uart_hub.members_of hs) m →
        option_map_or (λ (hub : uart_hub.Hub). hub.members)
        (cond here (Some h) (find (λ hub. has_member hub.members m) hs)) []
        ≡ unwrap_or (cond here (Some h.members) (find (λ hub. has_member hub m) (uart_hub.members_of hs))) []
    by_test true rest = refl
    by_test false rest = rest

-- what stands under the number of a hub, in its part and in the hub
pub part-at :
    {names : List Head} {parts : List uart_hub.Hub} {hubs : List Hub} → AreParts names parts hubs →
    {X : Type 0} (f : uart_hub.Hub → X) (n : ℕ) →
    option_map f (slice_get parts n) ≡ option_map (λ hub. f (inside_of hub)) (slice_get hubs n)
part-at {hubs = hubs} are f n =
    ap (λ parts. option_map f (slice_get parts n)) (sym are.parts_are)
    ∙ ap (option_map f) (slice_get-map inside_of hubs n)
    ∙ two (slice_get hubs n)
  where
    two : (o : Option Hub) → option_map f (option_map inside_of o) ≡ option_map (λ hub. f (inside_of hub)) o
    two None = refl
    two (Some hub) = refl

-- two tests that agree find the same place
position_or_len-agrees :
    {A : Type 0} (p q : A → Bool) → ((x : A) → p x ≡ q x) → (xs : List A) → position_or_len p xs ≡ position_or_len q xs
position_or_len-agrees p q same [] = refl
position_or_len-agrees p q same (x ∷ xs) =
    rw (same x) (ap (λ rest. cond (not (q x)) (1 + rest) 0) (position_or_len-agrees p q same xs))

pub position-agrees :
    {A : Type 0} (p q : A → Bool) → ((x : A) → p x ≡ q x) → (xs : List A) → position p xs ≡ position q xs
position-agrees p q same xs = rw (position_or_len-agrees p q same xs) refl

-- a name stands in the same place among the names and among the hubs
pub named-at :
    (name : List ℕ) (names : List Head) (hubs : List Hub) → map head_of hubs ≡ names →
    position (bytes_eq name) (keys_of names) ≡ position (λ hub. bytes_eq hub.name name) hubs
named-at name names hubs are =
    let named : Head → Bool = λ head. bytes_eq head.0 name in
    position-agrees (bytes_eq name) (λ k. bytes_eq k name) (nat_list_eq_equiv.symm name) (keys_of names)
    ∙ position-map (λ (head : Head). head.0) (λ k. bytes_eq k name) names ∙ ap (position named) (sym are)
    ∙ position-map head_of named hubs

-- a name that stands nowhere among the names has no kind there
pub none-named :
    {S : Type 0} (names : IndexMap (List ℕ) Kind S) (name : List ℕ) →
    position (bytes_eq name) (keys_of names.entries) ≡ None → get (pointwise nat_eq) names name ≡ None
none-named names name nowhere =
    none_is (get (pointwise nat_eq) names name)
    (sym (some_index (pointwise nat_eq name) names.entries) ∙ ap is_some nowhere)
