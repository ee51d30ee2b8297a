-- Hubs that are created one after another, and their members connected.
use Rattle.std.proofs.Common.{◌≡◌, ◌∙◌, ℕ, ◌+◌, ◌<◌, ◌≤◌, Bool, true, false, ◌||◌, List, [], ◌∷◌, ◌++◌, length, map}
use Rattle.std.proofs.Common.{get_or, drop, take, refl, sym, ap, subst, arith, Option, Some, None, slice_get}
use Rattle.std.specs.Prelude.{is_some}
use Rattle.std.specs.List.{AllByRecursion, IsDistinct, flat_map, list_any, position, position_or_len}
use Rattle.std.specs.Option.{option_map}
use Rattle.std.specs.Str.{bytes_eq}
use Rattle.std.proofs.lemmas.Bool.Decides.{nat_tests}
use Rattle.std.proofs.lemmas.Grind.{flat_map-append}
use Rattle.std.proofs.lemmas.Cmp.{nat_list_eq_equiv}
use Rattle.std.proofs.lemmas.List.{append-nil, append_assoc, drop_more, get_or-map, get_or_append_left, get_or_push}
use Rattle.std.proofs.lemmas.List.{length-map, length_push, map-append, map_more, take-append-drop, take-map}
use Rattle.std.proofs.lemmas.List.Sums.{fails_before_first, position_or_len_is}
use Rattle.std.proofs.lemmas.Map.Keys.{IsDistinct-head, IsDistinct-tail}
use Rattle.std.proofs.lemmas.Bool.{or_parts}
use Rattle.lab_num.specs.declared.key.Member.{Member}
use Rattle.lab_num.specs.Key.{same_member}
use Rattle.lab_num.specs.Route.{is_connected, StandOnce}
use Rattle.lab_num.proofs.ListLemmas.{change_last, get_middle, none_is}
use Rattle.lab_state.specs.Board.{Board}
use Rattle.lab_state.specs.Hub.{Hub, members_of}
use Rattle.lab_state.specs.Lab.{Seen}
use Rattle.lab_state.specs.Names.{board_named, connected_to, hub_named, is_taken, kind_named}
use Rattle.lab_state.specs.One.{kind_at, with_member}
use Rattle.lab_snap.specs.declared.hub.SavedHub.{SavedHub}
use Rattle.lab_snap.specs.Inner.Building.{with_hubs, CanBeCreated}
use Rattle.lab_snap.specs.Loaded.{loaded_hub}
use Rattle.lab_snap.proofs.BoardLemmas.{apart_before, not_found}
use Rattle.lab_snap.proofs.LoadedParts.{hub_names, members_loaded}
use Rattle.lab_snap.proofs.DistinctLemmas.{distinct_front}

-- a hub with its first members
abbrev pub half_hub : SavedHub → List Member → Hub
half_hub hub members = record (loaded_hub hub) { members = members }

-- the last hub of a laboratory is one with some of its members
abbrev pub with_half : Seen → SavedHub → List Member → Seen
with_half seen hub members = with_hubs seen (seen.lab.hubs ++ half_hub hub members ∷ [])

-- ---- a name that is found in the last place, or nowhere

found_last : {A : Type 0} (p : A → Bool) (xs : List A) (x : A) → position p xs ≡ None → p x ≡ true →
    position p (xs ++ x ∷ []) ≡ Some (length xs)
found_last p xs x none is =
    let past : length xs ≤ position_or_len p xs = grind (arith, nat_tests, none) in
    let long = length_push xs x in
    let all = position_or_len_is p (xs ++ x ∷ []) (length xs) x (omega (arith, long))
    (λ k before. ap p (get_or_append_left xs (x ∷ []) x k before)
    ∙ fails_before_first p xs k x (omega (arith, before, past)))
    (λ within. ap p (get_or_push xs x x (length xs) refl) ∙ is) in
    grind (arith, nat_tests, all, long)

-- ---- members that stand once

in_middle : {A : Type 0} (P : A → Type 0) (front rest : List A) (x : A) → AllByRecursion P (front ++ x ∷ rest) → P x
in_middle P [] rest x all = all.0
in_middle P (y ∷ front) rest x all = in_middle P front rest x all.1

apart_front : (front rest : List Member) (m : Member) → IsDistinct same_member (front ++ m ∷ rest) →
    list_any (λ other. same_member other m) front ≡ false
apart_front [] rest m is = refl
apart_front (x ∷ front) rest m is =
    let here =
    in_middle (λ y. same_member x y ≡ false) front rest m (IsDistinct-head same_member x (front ++ m ∷ rest) is) in
    let there = apart_front front rest m (IsDistinct-tail same_member x (front ++ m ∷ rest) is) in
    ap (λ b. b || list_any (λ other. same_member other m) front) here ∙ there

any_parts : (p : Member → Bool) (xs ys : List Member) → list_any p (xs ++ ys) ≡ false →
    (list_any p xs ≡ false) × (list_any p ys ≡ false)
any_parts p [] ys is = (refl, is)
any_parts p (x ∷ xs) ys is =
    let parts = or_parts (p x) (list_any p (xs ++ ys)) is in
    let rest = any_parts p xs ys parts.1 in
    (ap (λ b. b || list_any p xs) parts.0 ∙ rest.0, rest.1)

abbrev flat : List (List Member) → List Member
flat hubs = flat_map (λ hub. hub) hubs

none_connected : (hubs : List (List Member)) (m : Member) →
    list_any (λ other. same_member other m) (flat hubs) ≡ false → is_connected hubs m ≡ false
none_connected [] m is = refl
none_connected (hub ∷ hubs) m is =
    let parts = any_parts (λ other. same_member other m) hub (flat hubs) is in
    ap (λ b. b || is_connected hubs m) parts.0 ∙ none_connected hubs m parts.1

flat_last : (hubs : List (List Member)) (hub : List Member) → flat (hubs ++ hub ∷ []) ≡ flat hubs ++ hub
flat_last [] hub = append-nil hub
flat_last (first ∷ hubs) hub =
    ap (λ l. first ++ l) (flat_last hubs hub) ∙ sym (append_assoc first (flat hubs) hub)

free_member : (hubs : List (List Member)) (members : List Member) (i : ℕ) (m : Member) →
    StandOnce (hubs ++ members ∷ []) → i < length members → m ≡ get_or members i m →
    is_connected (hubs ++ take i members ∷ []) m ≡ false
free_member hubs members i m once below is =
    let rest : List Member = drop (i + 1) members in
    let split : members ≡ take i members ++ m ∷ rest =
    sym (take-append-drop i members)
    ∙ ap (λ l. take i members ++ l) (drop_more members i m below ∙ ap (λ x. x ∷ rest) (sym is)) in
    let all : flat (hubs ++ members ∷ []) ≡ (flat hubs ++ take i members) ++ m ∷ rest =
    flat_last hubs members ∙ ap (λ l. flat hubs ++ l) split
    ∙ sym (append_assoc (flat hubs) (take i members) (m ∷ rest)) in
    none_connected (hubs ++ take i members ∷ []) m
    (ap (list_any (λ other. same_member other m)) (flat_last hubs (take i members))
    ∙ apart_front (flat hubs ++ take i members) rest m (subst (IsDistinct same_member) all once))

-- the members of the first hubs stand once
once_before : (hubs : List (List Member)) (i : ℕ) → StandOnce hubs → StandOnce (take i hubs)
once_before hubs i once =
    let split : flat hubs ≡ flat (take i hubs) ++ flat (drop i hubs) =
    ap flat (sym (take-append-drop i hubs))
    ∙ flat_map-append (λ (hub : List Member). hub) (take i hubs) (drop i hubs) in
    distinct_front same_member (flat (take i hubs)) (flat (drop i hubs)) (subst (IsDistinct same_member) split once)

-- ---- one hub, and its members one after another

module _ (seen : Seen) (hub : SavedHub) (free : is_taken seen.lab hub.name ≡ false) where
  named : (members : List Member) → hub_named (with_half seen hub members).lab hub.name ≡ Some (length seen.lab.hubs)
  named members =
      let taken = or_parts (is_some (board_named seen.lab hub.name)) (is_some (hub_named seen.lab hub.name)) free in
      found_last (λ (other : Hub). bytes_eq other.name hub.name) seen.lab.hubs (half_hub hub members)
      (none_is (hub_named seen.lab hub.name) taken.1) (nat_list_eq_equiv.refl hub.name)

  pub last_kind : (members : List Member) {now : Seen} → now ≡ with_half seen hub members → (m : Member) →
      kind_at seen.lab.boards m ≡ Some hub.kind →
      kind_named now.lab hub.name ≡ kind_at now.lab.boards m
  last_kind members is m kind =
      let found = named members in
      let here : option_map (λ (hub : Hub). hub.kind)
      (slice_get (seen.lab.hubs ++ half_hub hub members ∷ []) (length seen.lab.hubs)) ≡ Some hub.kind =
      ap (option_map (λ (hub : Hub). hub.kind)) (get_middle seen.lab.hubs (half_hub hub members) []) in
      rw (is, found) (here ∙ sym kind)

  pub one_more_member : (members : List Member) (m : Member) {now next : Seen} → now ≡ with_half seen hub members →
      next ≡ record now { lab = connected_to now.lab (hub_named now.lab hub.name) m } →
      next ≡ with_half seen hub (members ++ m ∷ [])
  one_more_member members m is made =
      let before : Seen = with_half seen hub members in
      made
      ∙ ap (λ (s : Seen). record s { lab = connected_to s.lab (hub_named s.lab hub.name) m }) is
      ∙ ap (λ (n : Option ℕ). record before { lab = connected_to before.lab n m }) (named members)
      ∙ ap (with_hubs seen)
      (change_last seen.lab.hubs (length seen.lab.hubs) (half_hub hub members) (with_member m) refl)

pub next_free : (seen : Seen) (hub : SavedHub) (i : ℕ) (m : Member) {now : Seen} →
    now ≡ with_half seen hub (take i hub.members) → StandOnce (members_of seen.lab.hubs ++ hub.members ∷ []) →
    i < length hub.members → m ≡ get_or hub.members i m → is_connected (members_of now.lab.hubs) m ≡ false
next_free seen hub i m is once below at =
    let half : Hub = half_hub hub (take i hub.members) in
    let parts : members_of (seen.lab.hubs ++ half ∷ []) ≡ members_of seen.lab.hubs ++ take i hub.members ∷ [] =
    map-append (λ (hub : Hub). hub.members) seen.lab.hubs (half ∷ []) in
    ap (λ (s : Seen). is_connected (members_of s.lab.hubs) m) is
    ∙ ap (λ hubs. is_connected hubs m) parts
    ∙ free_member (members_of seen.lab.hubs) hub.members i m once below at

-- ---- hubs one after another

module _ (seen : Seen) (hubs : List SavedHub) (i : ℕ) (hub : SavedHub) (can : CanBeCreated seen.lab.boards hubs)
    (below : i < length hubs) (at : hub ≡ get_or hubs i hub) where
  name_at : get_or (map (λ (hub : SavedHub). hub.name) hubs) i hub.name ≡ hub.name
  name_at = get_or-map (λ (hub : SavedHub). hub.name) hubs i hub hub.name below
      ∙ ap (λ (hub : SavedHub). hub.name) (sym at)

  long : i < length (map (λ (hub : SavedHub). hub.name) hubs)
  long = omega (arith, below, length-map hubs (λ (hub : SavedHub). hub.name))

  no_board : position (λ (board : Board). bytes_eq board.name hub.name) seen.lab.boards ≡ None
  no_board =
      not_found (λ (board : Board). board.name) seen.lab.boards hub.name
      (λ k d within. nat_list_eq_equiv.symm (get_or (map (λ (board : Board). board.name) seen.lab.boards) k d) hub.name
      ∙ rw name_at at (can.names.apart k d within i hub.name long))

  no_hub : position (λ (other : Hub). bytes_eq other.name hub.name) (map loaded_hub (take i hubs)) ≡ None
  no_hub =
      let names : map (λ (hub : Hub). hub.name) (map loaded_hub (take i hubs))
      ≡ take i (map (λ (hub : SavedHub). hub.name) hubs) =
      hub_names (take i hubs) ∙ sym (take-map (λ (hub : SavedHub). hub.name) i hubs) in
      not_found (λ (hub : Hub). hub.name) (map loaded_hub (take i hubs)) hub.name
      (rw names
      (apart_before (map (λ (hub : SavedHub). hub.name) hubs) i hub.name can.names.hubs_differ long (sym name_at)))

  pub hub_free : {now : Seen} → now ≡ with_hubs seen (map loaded_hub (take i hubs)) → is_taken now.lab hub.name ≡ false
  hub_free is = rw (is, no_board, no_hub) refl

  pub hub_once : {now : Seen} → now ≡ with_hubs seen (map loaded_hub (take i hubs)) →
      StandOnce (members_of now.lab.hubs ++ hub.members ∷ [])
  hub_once is =
      let first : members_of (map loaded_hub (take i hubs)) ++ hub.members ∷ []
      ≡ take (i + 1) (map (λ (hub : SavedHub). hub.members) hubs) =
      ap (λ l. l ++ hub.members ∷ []) (members_loaded (take i hubs))
      ∙ ap (λ (h : SavedHub). map (λ (hub : SavedHub). hub.members) (take i hubs) ++ h.members ∷ []) at
      ∙ sym (map_more (λ (hub : SavedHub). hub.members) hubs i hub below)
      ∙ sym (take-map (λ (hub : SavedHub). hub.members) (i + 1) hubs) in
      rw (is, first) (once_before (map (λ (hub : SavedHub). hub.members) hubs) (i + 1) can.once)
