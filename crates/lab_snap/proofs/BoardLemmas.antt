-- Boards that are made one after another, and brought to their states.
use Rattle.std.proofs.Common.{◌≡◌, ◌∙◌, ℕ, zero, suc, ◌+◌, ◌<◌, Bool, false, List, [], ◌∷◌, ◌++◌, length, map}
use Rattle.std.proofs.Common.{get_or, take, refl, sym, ap, arith, add-zero, Option, Some, None, slice_get}
use Rattle.std.specs.Prelude.{IsTrue, is_some, option_and_then}
use Rattle.std.specs.List.{All, position, position_or_len, zip}
use Rattle.std.specs.Option.{option_map, ForSome}
use Rattle.std.specs.Str.{bytes_eq}
use Rattle.std.proofs.lemmas.Bool.Decides.{nat_tests}
use Rattle.std.proofs.lemmas.List.{get_or-map, get_or-take, get_or_default, length-map}
use Rattle.std.proofs.lemmas.List.{length-take-le, take-map}
use Rattle.std.proofs.lemmas.List.Elements.{All-head, All-map, All-tail}
use Rattle.std.proofs.lemmas.List.Sums.{position_or_len_is}
use Rattle.lab_num.specs.declared.key.Member.{Member}
use Rattle.lab_num.specs.Name.{is_name}
use Rattle.lab_num.proofs.ListLemmas.{change_last, All-unmap}
use Rattle.dev_core.specs.declared.post.Post.{Post}
use Rattle.board_space.specs.declared.state.BoardState.{BoardState}
use Rattle.board.specs.New.{new_board}
use Rattle.board.specs.Valid.{IsStateFor}
use Rattle.board.specs.View.{View}
use Rattle.sys_bus.specs.declared.plan.BoardPlan.{BoardPlan}
use Rattle.lab_state.specs.Board.{Board}
use Rattle.lab_state.specs.Lab.{Lab, Seen}
use Rattle.lab_state.specs.Names.{is_taken, NamesDiffer}
use Rattle.lab_state.specs.One.{fitted, kind_at, view_at}
use Rattle.lab_state.specs.Resumed.{FitTheirBoards, resumed, resumed_board}
use Rattle.lab_state.specs.Valid.{IsHub, IsLab}
use Rattle.lab_snap.specs.declared.hub.SavedHub.{SavedHub}
use Rattle.lab_snap.specs.declared.lab.SavedBoard.{SavedBoard}
use Rattle.lab_snap.specs.declared.lab.SavedLab.{SavedLab}
use Rattle.lab_snap.specs.Inner.Building.{made_board, made_boards, made_view, state_in, with_boards, with_hubs}
use Rattle.lab_snap.specs.Inner.Building.{with_memories, CanBeAdded, CanBeCreated}
use Rattle.lab_snap.specs.Inner.Parts.{FitTheirPlans}
use Rattle.lab_snap.specs.Loaded.{loaded, loaded_boards, loaded_hub, loaded_view}
use Rattle.lab_snap.specs.Machine.{Machine}
use Rattle.lab_snap.proofs.LoadedParts.{board_names, hub_names, members_loaded}

-- ---- names

module _ {A : Type 0} (f : A → List ℕ) (xs : List A) where
  position_or_len-map :
      (p : List ℕ → Bool) (ys : List A) → position_or_len p (map f ys) ≡ position_or_len (λ x. p (f x)) ys
  position_or_len-map p [] = refl
  position_or_len-map p (y ∷ ys) = rw (position_or_len-map p ys) refl

  position-map : (p : List ℕ → Bool) → position p (map f xs) ≡ position (λ x. p (f x)) xs
  position-map p = rw (position_or_len-map p xs, length-map xs f) refl

  -- a name that differs from all names is not found
  pub not_found :
      (name : List ℕ) → All (λ y. bytes_eq y name ≡ false) (map f xs) → position (λ x. bytes_eq (f x) name) xs ≡ None
  not_found name none =
      let all = position_or_len_is (λ y. bytes_eq y name) (map f xs) (length (map f xs)) [] (omega arith)
      (λ k before. none k [] before) (λ within. absurd (omega arith)) in
      let out : position (λ y. bytes_eq y name) (map f xs) ≡ None = grind (arith, nat_tests, all) in
      sym (position-map (λ y. bytes_eq y name)) ∙ out

-- a name differs from those before it
pub apart_before : (names : List (List ℕ)) (i : ℕ) (name : List ℕ) → NamesDiffer names → i < length names →
    name ≡ get_or names i name → All (λ y. bytes_eq y name ≡ false) (take i names)
apart_before names i name differ below is = λ k d within.
    let before : k < i = omega (arith, within, length-take-le i names (omega (arith, below))) in
    let here : get_or names i d ≡ name = get_or_default names i d name below ∙ sym is in
    rw (get_or-take i names k d before, ← here) (differ k i d before below)

-- ---- boards that were made

names_made : (n : ℕ) (boards : List SavedBoard) →
    map (λ board. board.name) (made_boards n boards) ≡ map (λ board. board.name) boards
unfolding made_boards
names_made n [] = refl
names_made n (board ∷ boards) = ap (λ l. board.name ∷ l) (names_made (suc n) boards)

pub length_made : (n : ℕ) (boards : List SavedBoard) → length (made_boards n boards) ≡ length boards
unfolding made_boards
length_made n [] = refl
length_made n (board ∷ boards) = ap suc (length_made (suc n) boards)

-- one more
made_more_at : (n i : ℕ) (boards : List SavedBoard) (board : SavedBoard) → i ≡ n + length boards →
    made_boards n (boards ++ board ∷ []) ≡ made_boards n boards ++ made_board i board ∷ []
unfolding made_boards
made_more_at n i [] board is = ap (λ i. made_board i board ∷ []) (sym (is ∙ add-zero n))
made_more_at n i (first ∷ boards) board is =
    ap (λ l. made_board n first ∷ l) (made_more_at (suc n) i boards board (omega (arith, is)))

pub made_more : (boards : List SavedBoard) (board : SavedBoard) →
    made_boards 0 boards ++ made_board (length (made_boards 0 boards)) board ∷ [] ≡ made_boards 0 (boards ++ board ∷ [])
made_more boards board =
    sym (made_more_at 0 (length (made_boards 0 boards)) boards board (omega (arith, length_made 0 boards)))

pub none_made_yet : (seen : Seen) → seen.lab.boards ≡ [] → seen ≡ with_boards seen (made_boards 0 [])
unfolding made_boards
none_made_yet seen none = ap (with_boards seen) none

-- a board that was added and got its plan and its memories
pub board_added : (seen : Seen) (board : SavedBoard) (m : Machine) (n : ℕ)
    (parts : BoardPlan × BoardState × List (List ℕ)) {bare now : Seen} → board.machine ≡ Some m →
    parts ≡ (m.plan, m.state, m.memories) → n ≡ length seen.lab.boards →
    bare ≡ with_boards seen (seen.lab.boards ++ record { name = board.name; view = None } ∷ []) →
    now ≡ record bare { lab = fitted bare.lab n (with_memories (new_board n parts.0) parts.2) } →
    now ≡ with_boards seen (seen.lab.boards ++ made_board (length seen.lab.boards) board ∷ [])
board_added seen board m n parts machine parts_are number bare_is made =
    let bare_board : Board = record { name = board.name; view = None } in
    let bare_seen : Seen = with_boards seen (seen.lab.boards ++ bare_board ∷ []) in
    let view : Some (made_view n m) ≡ option_map (made_view (length seen.lab.boards)) board.machine =
    ap (λ n. Some (made_view n m)) number
    ∙ ap (option_map (made_view (length seen.lab.boards))) (sym machine) in
    made
    ∙ ap (λ (s : Seen). record s { lab = fitted s.lab n (with_memories (new_board n parts.0) parts.2) }) bare_is
    ∙ ap (λ (p : BoardPlan × BoardState × List (List ℕ)). record bare_seen {
      lab = fitted bare_seen.lab n (with_memories (new_board n p.0) p.2);
    }) parts_are
    ∙ ap (with_boards seen)
    (change_last seen.lab.boards n bare_board (λ board. record board { view = Some (made_view n m) }) number)
    ∙ ap (λ (view : Option View). with_boards seen (seen.lab.boards ++ record { name = board.name; view = view } ∷ []))
    view

-- the name of the next is free
pub is_free : (lab : Lab) (all boards : List SavedBoard) (board : SavedBoard) → lab.hubs ≡ [] →
    lab.boards ≡ made_boards 0 boards → NamesDiffer (map (λ board. board.name) all) →
    boards ≡ take (length boards) all → length boards < length all → board ≡ get_or all (length boards) board →
    is_taken lab board.name ≡ false
is_free lab all boards board no_hub made differ front below is =
    let names : List SavedBoard → List (List ℕ) = map (λ (board : SavedBoard). board.name) in
    let i : ℕ = length boards in
    let before : All (λ y. bytes_eq y board.name ≡ false) (take i (names all)) =
    apart_before (names all) i board.name differ
    (omega (arith, below, length-map all (λ (board : SavedBoard). board.name)))
    (ap {A = SavedBoard} (λ b. b.name) is
    ∙ sym (get_or-map (λ (b : SavedBoard). b.name) all i board board.name below)) in
    let same : take i (names all) ≡ map (λ board. board.name) (made_boards 0 boards) =
    take-map (λ (b : SavedBoard). b.name) i all ∙ ap names (sym front) ∙ sym (names_made 0 boards) in
    let none = not_found (λ (b : Board). b.name) (made_boards 0 boards) board.name (rw same at before) in
    rw (no_hub, made, none) refl

-- ---- boards that are brought to their states

resumed_one : (n : ℕ) (name : List ℕ) (o : Option Machine) →
    resumed_board (record { name = name; view = option_map (made_view n) o }) (option_map (λ m. m.state) o)
    ≡ record { name = name; view = option_map (loaded_view n) o }
resumed_one n name None = refl
resumed_one n name (Some m) = refl

pub resumed_made : (n : ℕ) (boards : List SavedBoard) →
    map (λ (board, s). resumed_board board s) (zip (made_boards n boards) (map state_in boards))
    ≡ loaded_boards n boards
unfolding made_boards loaded_boards
resumed_made n [] = refl
resumed_made n (board ∷ boards) =
    λ i. resumed_one n board.name board.machine i ∷ resumed_made (suc n) boards i

-- there is a state for each board that has a plan, which it can have
some_there : (n : ℕ) (o : Option Machine) →
    is_some (option_map (λ m. m.state) o) ≡ is_some (option_map (made_view n) o)
some_there n None = refl
some_there n (Some m) = refl

pub states_there : (n : ℕ) (boards : List SavedBoard) →
    map is_some (map state_in boards) ≡ map (λ board. is_some board.view) (made_boards n boards)
unfolding made_boards
states_there n [] = refl
states_there n (board ∷ boards) = λ i. some_there n board.machine i ∷ states_there (suc n) boards i

fits_one : (n : ℕ) (o : Option Machine) (v : View) (s : BoardState) → ForSome o (λ m. IsStateFor m.plan m.state) →
    option_map (made_view n) o ≡ Some v → option_map (λ m. m.state) o ≡ Some s → IsStateFor v.space.plan s
fits_one n None v s fits at is = absurd (cc)
fits_one n (Some m) v s fits at is =
    let v_is : made_view n m ≡ v = cc in
    let s_is : m.state ≡ s = cc in
    rw (← v_is, ← s_is) (fits m refl)

pub states_fit : (n : ℕ) (boards : List SavedBoard) → FitTheirPlans boards →
    FitTheirBoards (made_boards n boards) (map state_in boards)
unfolding made_boards
states_fit n [] fits b v s at is = absurd (cc)
states_fit n (board ∷ boards) fits zero v s at is =
    let P : SavedBoard → Type 0 = λ board. ForSome board.machine (λ m. IsStateFor m.plan m.state) in
    fits_one n board.machine v s (All-head P board boards fits) at (cc)
states_fit n (board ∷ boards) fits (suc b) v s at is =
    let P : SavedBoard → Type 0 = λ board. ForSome board.machine (λ m. IsStateFor m.plan m.state) in
    states_fit (suc n) boards (All-tail P board boards fits) b v s at is

-- ---- what boards that were made share with those that are loaded

kind_one : (n : ℕ) (o : Option Machine) (dev : ℕ) →
    option_and_then (λ v. slice_get v.space.plan.kinds dev) (option_map (made_view n) o)
    ≡ option_and_then (λ v. slice_get v.space.plan.kinds dev) (option_map (loaded_view n) o)
kind_one n None dev = refl
kind_one n (Some m) dev = refl

kinds_at : (n : ℕ) (boards : List SavedBoard) (b dev : ℕ) →
    option_and_then (λ v. slice_get v.space.plan.kinds dev) (view_at (made_boards n boards) b)
    ≡ option_and_then (λ v. slice_get v.space.plan.kinds dev) (view_at (loaded_boards n boards) b)
unfolding made_boards loaded_boards
kinds_at n [] b dev = refl
kinds_at n (board ∷ boards) zero dev = kind_one n board.machine dev
kinds_at n (board ∷ boards) (suc b) dev = kinds_at (suc n) boards b dev

kind_made :
    (boards : List SavedBoard) (m : Member) → kind_at (made_boards 0 boards) m ≡ kind_at (loaded_boards 0 boards) m
kind_made boards m = kinds_at 0 boards m.board.0 m.dev

-- ---- what can be loaded can be made

pub can_be_added : (s : SavedLab) → IsLab (loaded s) → CanBeAdded s.boards
can_be_added s valid =
    let boards = loaded_boards 0 s.boards in
    let names = board_names 0 s.boards in
    let named : All (λ name. IsTrue (is_name name)) (map (λ board. board.name) s.boards) =
    rw names at (All-map (λ name. IsTrue (is_name name)) (λ (board : Board). board.name) boards valid.board_names) in
    record {
      names = All-unmap (λ name. IsTrue (is_name name)) (λ (board : SavedBoard). board.name) s.boards named;
      differ = rw names at valid.names.boards_differ;
      few =
          omega (
            arith,
            valid.few_boards,
            ap length names,
            length-map boards (λ (board : Board). board.name),
            length-map s.boards (λ (board : SavedBoard). board.name),
          );
    }

pub can_be_created : (s : SavedLab) → IsLab (loaded s) → CanBeCreated (made_boards 0 s.boards) s.hubs
can_be_created s valid =
    let boards = loaded_boards 0 s.boards in
    let each = All-unmap (IsHub boards) loaded_hub s.hubs valid.hubs in
    let names : map (λ board. board.name) boards ≡ map (λ board. board.name) (made_boards 0 s.boards) =
    board_names 0 s.boards ∙ sym (names_made 0 s.boards) in
    record {
      kinds = λ k d below. (each k d below).kind;
      forms = λ k d below. (each k d below).name;
      delays = λ k d below. (each k d below).delay;
      names = rw (names, hub_names s.hubs) at valid.names;
      few = omega (arith, valid.few_hubs, length-map s.hubs loaded_hub);
      members = λ k d below n m inside.
          kind_made s.boards (get_or (get_or s.hubs k d).members n m) ∙ (each k d below).members n m inside;
      once = rw (members_loaded s.hubs) at valid.once;
    }

-- nothing was sent before time 0
pub none_before : (posts : List Post) {seen : List Post} {now : ℕ} → seen ≡ posts →
    All (λ post. post.key.at.0 < now) seen → now ≡ 0 → posts ≡ []
none_before [] same sent new = refl
none_before (post ∷ posts) {now = now} same sent new =
    let first : post.key.at.0 < now = All-head (λ (post : Post). post.key.at.0 < now) post posts (rw same at sent) in
    absurd (omega (arith, first, new))

-- ---- all together

-- the laboratory before it goes on from where the other one has stood
abbrev pub ready : Seen → SavedLab → Seen
ready seen s =
    record seen {
      lab = record seen.lab {
        boards = made_boards 0 s.boards;
        hubs = map loaded_hub s.hubs;
        quantum = s.quantum;
      };
    }

pub is_ready : (seen : Seen) (s : SavedLab) {boarded joined now : Seen} {hubs : List SavedHub} →
    boarded ≡ with_boards seen (made_boards 0 s.boards) → hubs ≡ s.hubs →
    joined ≡ with_hubs boarded (map loaded_hub hubs) →
    now ≡ record joined { lab = record joined.lab { quantum = s.quantum } } → now ≡ ready seen s
is_ready seen s {boarded = boarded} boards_are hubs_are joined_is made =
    made
    ∙ ap (λ (seen : Seen). record seen { lab = record seen.lab { quantum = s.quantum } })
    (joined_is
    ∙ ap (λ hubs. with_hubs boarded (map loaded_hub hubs)) hubs_are
    ∙ ap (λ (seen : Seen). with_hubs seen (map loaded_hub s.hubs)) boards_are)

pub resumed_is : (seen : Seen) (s : SavedLab) {now : Seen} {states : List (Option BoardState)} {pending : List Post} →
    now ≡ ready seen s → states ≡ map state_in s.boards → pending ≡ s.pending →
    resumed now.lab s.time.0 states pending ≡ loaded s
resumed_is seen s now_is states_are pending_are = rw (now_is, states_are, pending_are, resumed_made 0 s.boards) refl
