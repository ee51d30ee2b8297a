-- The ranks of members, where hubs are made and members are connected.
use Rattle.std.proofs.Common.{◌≡◌, ◌∙◌, ap, sym, refl, ℕ, zero, suc, ◌+◌, ◌-◌, ◌<◌, ◌≤◌, Bool, true, false, ◌||◌}
use Rattle.std.proofs.Common.{List, [], ◌∷◌, ◌++◌, length, set, get_or, find, cond, slice_get, Option, Some, None}
use Rattle.std.proofs.Common.{◌≢◌, subst, inl, inr, arith}
use Rattle.std.specs.List.{flat_map, IsDistinct}
use Rattle.std.proofs.lemmas.Bool.{cases_Bool, or_parts}
use Rattle.std.proofs.lemmas.Bool.Decides.{nat_tests}
use Rattle.std.proofs.lemmas.List.{get_or-set_other, get_or-set_same}
use Rattle.std.proofs.lemmas.Option.{slice_get-get_or}
use Rattle.std.proofs.lemmas.List.Folds.{list_any-append}
use Rattle.lab_num.specs.declared.key.Member.{Member}
use Rattle.lab_num.specs.Key.{same_member}
use Rattle.lab_num.specs.Change.{change_at}
use Rattle.lab_num.specs.Route.{has_member, is_connected, StandOnce}
use Rattle.lab_num.proofs.KeyLemmas.{same_itself, member_is}
use Rattle.uart_hub.specs.Hub.{Hub, members_of, with_member}
use Rattle.uart_hub.specs.Inner.Rank.{place, passed, rank, AreRanks}

-- ---- the hub that a rank names

abbrev pub at_rank : List Hub → ℕ → Option Hub
at_rank hubs zero = None
at_rank hubs (suc n) = slice_get hubs n

at_passed : (hub : Hub) (hubs : List Hub) (n : ℕ) → at_rank hubs n ≡ at_rank (hub ∷ hubs) (passed n)
at_passed hub hubs zero = refl
at_passed hub hubs (suc n) = refl

pub found_by_rank :
    (hubs : List Hub) (m : Member) → find (λ hub. has_member hub.members m) hubs ≡ at_rank hubs (rank hubs m)
found_by_rank [] m = refl
found_by_rank (h ∷ hs) m =
    elim (cases_Bool (has_member h.members m)) [
      | inl here ↦ rw here refl
      | inr not_here ↦ rw not_here (found_by_rank hs m ∙ at_passed h hs (rank hs m))
    ]

passed_within : (n most : ℕ) → n ≤ most → passed n ≤ suc most
passed_within zero most within = omega arith
passed_within (suc n) most within = omega (arith, within)

pub rank_within : (hubs : List Hub) (m : Member) → rank hubs m ≤ length hubs
rank_within [] m = omega arith
rank_within (h ∷ hs) m =
    elim (cases_Bool (has_member h.members m)) [
      | inl here ↦ rw here (omega arith)
      | inr not_here ↦ rw not_here (passed_within (rank hs m) (length hs) (rank_within hs m))
    ]

pub missing :
    (hubs : List Hub) (m : Member) → rank hubs m ≡ 0 → None ≡ find (λ hub. has_member hub.members m) hubs
missing hubs m is = sym (found_by_rank hubs m ∙ ap (at_rank hubs) is)

pub reached :
    (hubs : List Hub) (m : Member) (n : ℕ) (hub : Hub) → n ≡ rank hubs m → (n ≡ 0 → ⊥) →
    hub ≡ get_or hubs (n - 1) hub → Some hub ≡ find (λ hub. has_member hub.members m) hubs
reached hubs m zero hub told some is = absurd (some refl)
reached hubs m (suc k) hub told some is =
    let below : k < length hubs = omega (arith, told, rank_within hubs m) in
    let back : suc k - 1 ≡ k = omega arith in
    ap Some (subst (λ (i : ℕ). hub ≡ get_or hubs i hub) back is) ∙ sym (slice_get-get_or hubs k hub below)
    ∙ sym (found_by_rank hubs m ∙ ap (at_rank hubs) (sym told))

-- ---- a hub more, and a member more

no_more :
    (hubs : List Hub) (delay : ℕ) →
    flat_map (λ (hub : List Member). hub) (members_of (hubs ++ record { delay = delay; members = [] } ∷ []))
    ≡ flat_map (λ (hub : List Member). hub) (members_of hubs)
no_more [] delay = refl
no_more (h ∷ hs) delay = ap (λ rest. h.members ++ rest) (no_more hs delay)

pub once_created :
    (hubs : List Hub) (delay : ℕ) → StandOnce (members_of hubs) →
    StandOnce (members_of (hubs ++ record { delay = delay; members = [] } ∷ []))
once_created hubs delay once = subst (IsDistinct same_member) (sym (no_more hubs delay)) once

pub rank_created :
    (hubs : List Hub) (delay : ℕ) (m : Member) →
    rank (hubs ++ record { delay = delay; members = [] } ∷ []) m ≡ rank hubs m
rank_created [] delay m = refl
rank_created (h ∷ hs) delay m =
    ap (λ (n : ℕ). cond (has_member h.members m) 1 (passed n)) (rank_created hs delay m)

has_more :
    (members : List Member) (m other : Member) →
    has_member (members ++ m ∷ []) other ≡ (has_member members other || (same_member m other || false))
has_more members m other = list_any-append (λ it. same_member it other) members (m ∷ [])

or_false : (b c : Bool) → c ≡ false → (b || (c || false)) ≡ b
or_false true c not = refl
or_false false c not = rw not refl

or_true : (b c : Bool) → c ≡ true → (b || (c || false)) ≡ true
or_true true c is = refl
or_true false c is = rw is refl

pub rank_connected :
    (hubs : List Hub) (i : ℕ) (m : Member) → is_connected (members_of hubs) m ≡ false → i < length hubs →
    rank (change_at hubs i (with_member m)) m ≡ suc i
rank_connected [] i m absent below = absurd (omega arith)
rank_connected (h ∷ hs) zero m absent below =
    rw (has_more h.members m m ∙ or_true (has_member h.members m) (same_member m m) (same_itself m)) refl
rank_connected (h ∷ hs) (suc i) m absent below =
    let parts = or_parts (has_member h.members m) (is_connected (members_of hs) m) absent in
    rw (parts.0, rank_connected hs i m parts.1 (omega arith)) refl

pub rank_other :
    (hubs : List Hub) (i : ℕ) (m other : Member) → same_member m other ≡ false →
    rank (change_at hubs i (with_member m)) other ≡ rank hubs other
rank_other [] i m other not = refl
rank_other (h ∷ hs) zero m other not =
    ap (λ (here : Bool). cond here 1 (passed (rank hs other)))
    (has_more h.members m other ∙ or_false (has_member h.members other) (same_member m other) not)
rank_other (h ∷ hs) (suc i) m other not =
    ap (λ (n : ℕ). cond (has_member h.members other) 1 (passed n)) (rank_other hs i m other not)

-- ---- the numbers of all members

apart :
    (a m : Member) → a.board.0 < 256 → m.board.0 < 256 → same_member a m ≡ false → place m ≢ place a
apart a m low_a low_m not = grind (arith, nat_tests)

pub ranks_connected :
    (numbers : List ℕ) (hubs : List Hub) (i : ℕ) (m : Member) → AreRanks numbers hubs → m.board.0 < 256 →
    place m < length numbers → is_connected (members_of hubs) m ≡ false → i < length hubs →
    AreRanks (set numbers (place m) (i + 1)) (change_at hubs i (with_member m))
ranks_connected numbers hubs i m are low room absent below other low_other =
    elim (cases_Bool (same_member m other)) [
      | inl same ↦
          subst (λ (it : Member). get_or (set numbers (place m) (i + 1)) (place it) 0
          ≡ rank (change_at hubs i (with_member m)) it) (member_is m other same)
          (get_or-set_same numbers (place m) (i + 1) 0 room
          ∙ (let more : i + 1 ≡ suc i = omega arith in more)
          ∙ sym (rank_connected hubs i m absent below))
      | inr not ↦
          get_or-set_other numbers (place m) (place other) (i + 1) 0 (apart m other low low_other not)
          ∙ are other low_other ∙ sym (rank_other hubs i m other not)
    ]

-- numbers that are read the same
pub ranks_kept :
    (numbers others : List ℕ) (hubs : List Hub) → ((k : ℕ) → get_or others k 0 ≡ get_or numbers k 0) →
    AreRanks numbers hubs → AreRanks others hubs
ranks_kept numbers others hubs same are m low = same (place m) ∙ are m low
