-- A laboratory as a snapshot holds it, and the one that it holds, part by part.
use Rattle.std.proofs.Common.{◌≡◌, ◌∙◌, ℕ, zero, suc, ◌+◌, ◌*◌, Bool, true, false, List, [], ◌∷◌, length, map}
use Rattle.std.proofs.Common.{cond, refl, sym, ap, subst, arith}
use Rattle.std.specs.Prelude.{Option, None, Some, find, option_and_then, slice_get, IsTrue}
use Rattle.std.specs.List.{All}
use Rattle.std.specs.Option.{ForSome, option_map}
use Rattle.std.proofs.lemmas.Bool.{leb-true, le-leb}
use Rattle.std.proofs.lemmas.List.Elements.{All-cons, All-head, All-map, All-nil, All-tail, All-weaker}
use Rattle.board.specs.Valid.{IsStateFor}
use Rattle.board.specs.View.{View}
use Rattle.lab_num.specs.declared.key.Member.{Member}
use Rattle.lab_num.specs.Name.{is_name}
use Rattle.lab_num.specs.Route.{has_member}
use Rattle.lab_num.proofs.ListLemmas.{All-unmap}
use Rattle.lab_state.specs.Hub.{delay_of, members_of}
use Rattle.lab_state.specs.One.{kind_at, view_at}
use Rattle.lab_state.specs.Valid as valid
use Rattle.lab_snap.specs.declared.hub.SavedHub.{SavedHub}
use Rattle.lab_snap.specs.declared.lab.SavedBoard.{SavedBoard}
use Rattle.lab_snap.specs.Inner.Parts.{FitTheirPlans, IsBoardAt, IsHubIn, IsMachineAt, IsMemberOf, delay_in, kind_in}
use Rattle.lab_snap.specs.Inner.Parts.{machine_at, members_in}
use Rattle.lab_snap.specs.Loaded.{loaded_board, loaded_boards, loaded_hub, loaded_view}
use Rattle.lab_snap.specs.Machine.{Machine}
use Rattle.lab_snap.proofs.LoadedView.{board_loaded}

-- ---- boards

pub boards_count : (n : ℕ) (boards : List SavedBoard) → length (loaded_boards n boards) ≡ length boards
unfolding loaded_boards
boards_count n [] = refl
boards_count n (board ∷ boards) = omega (arith, boards_count (suc n) boards)

pub board_names : (n : ℕ) (boards : List SavedBoard) →
    map (λ board. board.name) (loaded_boards n boards) ≡ map (λ board. board.name) boards
unfolding loaded_boards
board_names n [] = refl
board_names n (board ∷ boards) = ap (λ names. board.name ∷ names) (board_names (suc n) boards)

pub view_loaded : (n : ℕ) (boards : List SavedBoard) (b k : ℕ) → k ≡ n + b →
    view_at (loaded_boards n boards) b ≡ option_map (loaded_view k) (machine_at boards b)
unfolding loaded_boards
view_loaded n [] b k is = refl
view_loaded n (board ∷ boards) zero k is =
    let same : k ≡ n = omega (arith, is) in rw same refl
view_loaded n (board ∷ boards) (suc b) k is = view_loaded (suc n) boards b k (omega (arith, is))

pub kind_loaded : (boards : List SavedBoard) (m : Member) → kind_at (loaded_boards 0 boards) m ≡ kind_in boards m
kind_loaded boards m =
    rw (view_loaded 0 boards m.board.0 m.board.0 (omega arith)) (by_machine (machine_at boards m.board.0))
  where
    by_machine : (o : Option Machine) →
        option_and_then (λ v. slice_get v.space.plan.kinds m.dev) (option_map (loaded_view m.board.0) o)
        ≡ option_and_then (λ machine. slice_get machine.plan.kinds m.dev) o
    by_machine None = refl
    by_machine (Some machine) = refl

-- a machine that can stand is loaded as one that stands there
standing : (time k : ℕ) (m : Machine) → IsMachineAt time m → valid.IsStanding time k (loaded_view k m)
standing time k m own = record {
  board = board_loaded k m own.sound own.state;
  number = refl;
  posted = leb-true m.state.posted (1000 * time) own.posted;
  entries = leb-true m.state.entries (1000 * time) own.entries;
}

pub all_standing : (time n : ℕ) (boards : List SavedBoard) → All (IsBoardAt time) boards → (b k : ℕ) (v : View) →
    k ≡ n + b → view_at (loaded_boards n boards) b ≡ Some v → valid.IsStanding time k v
unfolding loaded_boards
all_standing time n [] all b k v is found = absurd (cc)
all_standing time n (board ∷ boards) all zero k v is found = by_machine board.machine refl found
  where
    by_machine : (o : Option Machine) → board.machine ≡ o → option_map (loaded_view n) o ≡ Some v →
        valid.IsStanding time k v
    by_machine None there e = absurd (cc)
    by_machine (Some m) there e =
        let same : n ≡ k = omega (arith, is) in
        let own = (All-head (IsBoardAt time) board boards all).machine m there in
        let seen : loaded_view n m ≡ v = cc in
        subst (λ w. valid.IsStanding time k w) seen
        (subst (λ i. valid.IsStanding time i (loaded_view n m)) same (standing time n m own))
all_standing time n (board ∷ boards) all (suc b) k v is found =
    all_standing time (suc n) boards (All-tail (IsBoardAt time) board boards all) b k v (omega (arith, is)) found

-- boards that stand where they are loaded, in states that fit their plans, can stand
pub all_stand : (time n : ℕ) (boards : List SavedBoard) →
    All (λ board. IsTrue (is_name board.name)) (loaded_boards n boards) → FitTheirPlans boards →
    ((b k : ℕ) (v : View) → k ≡ n + b → view_at (loaded_boards n boards) b ≡ Some v → valid.IsStanding time k v) →
    All (IsBoardAt time) boards
unfolding loaded_boards
all_stand time n [] named fit each = All-nil (IsBoardAt time)
all_stand time n (board ∷ boards) named fit each =
    let own =
    All-head (λ board. IsTrue (is_name board.name)) (loaded_board n board) (loaded_boards (suc n) boards) named in
    let others =
    All-tail (λ board. IsTrue (is_name board.name)) (loaded_board n board) (loaded_boards (suc n) boards) named in
    All-cons (IsBoardAt time) board boards (record { name = own; machine = machine })
    (all_stand time (suc n) boards others
    (All-tail (λ board. ForSome board.machine (λ m. IsStateFor m.plan m.state)) board boards fit)
    (λ b k v is. each (suc b) k v (omega (arith, is))))
  where
    machine : (m : Machine) → board.machine ≡ Some m → IsMachineAt time m
    machine m there =
        let seen = each 0 n (loaded_view n m) (omega arith) (ap (option_map (loaded_view n)) there) in
        record {
          sound = record { plan = seen.board.plan; memories = seen.board.sizes };
          state = All-head (λ board. ForSome board.machine (λ m. IsStateFor m.plan m.state)) board boards fit m there;
          posted = le-leb m.state.posted (1000 * time) seen.posted;
          entries = le-leb m.state.entries (1000 * time) seen.entries;
        }

pub names_kept : (n : ℕ) (boards : List SavedBoard) → All (λ board. IsTrue (is_name board.name)) boards →
    All (λ board. IsTrue (is_name board.name)) (loaded_boards n boards)
unfolding loaded_boards
names_kept n [] all = All-nil (λ board. IsTrue (is_name board.name))
names_kept n (board ∷ boards) all =
    let own = All-head (λ board. IsTrue (is_name board.name)) board boards all in
    All-cons (λ board. IsTrue (is_name board.name)) (loaded_board n board) (loaded_boards (suc n) boards) own
    (names_kept (suc n) boards (All-tail (λ board. IsTrue (is_name board.name)) board boards all))

-- ---- hubs

pub hub_names : (hubs : List SavedHub) → map (λ hub. hub.name) (map loaded_hub hubs) ≡ map (λ hub. hub.name) hubs
hub_names [] = refl
hub_names (hub ∷ hubs) = ap (λ names. hub.name ∷ names) (hub_names hubs)

pub members_loaded : (hubs : List SavedHub) → members_of (map loaded_hub hubs) ≡ members_in hubs
members_loaded [] = refl
members_loaded (hub ∷ hubs) = ap (λ members. hub.members ∷ members) (members_loaded hubs)

pub delay_loaded : (hubs : List SavedHub) (m : Member) → delay_of (map loaded_hub hubs) m ≡ delay_in hubs m
delay_loaded [] m = refl
delay_loaded (hub ∷ hubs) m = by_test (has_member hub.members m) (delay_loaded hubs m)
  where
    by_test : (b : Bool) → delay_of (map loaded_hub hubs) m ≡ delay_in hubs m →
        option_map (λ hub. hub.delay)
        (cond b (Some (loaded_hub hub)) (find (λ hub. has_member hub.members m) (map loaded_hub hubs)))
        ≡ option_map (λ hub. hub.delay) (cond b (Some hub) (find (λ hub. has_member hub.members m) hubs))
    by_test true rest = refl
    by_test false rest = rest

pub hubs_loaded : (boards : List SavedBoard) (hubs : List SavedHub) → All (IsHubIn boards) hubs →
    All (valid.IsHub (loaded_boards 0 boards)) (map loaded_hub hubs)
hubs_loaded boards hubs all =
    All-map (valid.IsHub (loaded_boards 0 boards)) loaded_hub hubs
    (All-weaker (IsHubIn boards) (λ hub. valid.IsHub (loaded_boards 0 boards) (loaded_hub hub))
    (λ hub is. record {
      name = is.own.name;
      kind = is.own.kind;
      delay = is.own.delay;
      members =
          All-weaker (IsMemberOf boards hub.kind)
          (λ m. kind_at (loaded_boards 0 boards) m ≡ Some hub.kind)
          (λ m own. kind_loaded boards m ∙ own) hub.members is.members;
    }) hubs all)

pub hubs_from : (boards : List SavedBoard) (hubs : List SavedHub) →
    All (valid.IsHub (loaded_boards 0 boards)) (map loaded_hub hubs) → All (IsHubIn boards) hubs
hubs_from boards hubs all =
    All-weaker (λ hub. valid.IsHub (loaded_boards 0 boards) (loaded_hub hub)) (IsHubIn boards)
    (λ hub is. record {
      own = record { kind = is.kind; name = is.name; delay = is.delay };
      members =
          All-weaker (λ m. kind_at (loaded_boards 0 boards) m ≡ Some hub.kind)
          (IsMemberOf boards hub.kind)
          (λ m own. sym (kind_loaded boards m) ∙ own) hub.members is.members;
    }) hubs (All-unmap (valid.IsHub (loaded_boards 0 boards)) loaded_hub hubs all)
