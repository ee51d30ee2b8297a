-- A laboratory that is saved and loaded is itself, and so is what is loaded and saved.
use Rattle.std.proofs.Common.{◌≡◌, ◌∙◌, ℕ, suc, ◌+◌, List, [], ◌∷◌, map, refl, sym, ap, subst, arith}
use Rattle.std.specs.Prelude.{Option, None, Some}
use Rattle.std.specs.Option.{option_map, ForSome}
use Rattle.std.proofs.lemmas.List.Elements.{All-cons, All-head, All-tail}
use Rattle.clint.specs.Clint.{Timer}
use Rattle.plic.specs.State.{Controller}
use Rattle.board.specs.BoardState.{board_state, brought_to, controller_to, timer_to}
use Rattle.board.specs.New.{new_controller, new_timer, size_of}
use Rattle.board.specs.Valid.{IsBoard, IsStateFor}
use Rattle.board.specs.View.{View}
use Rattle.board_space.proofs.StateLemmas.{controller_back, timer_back}
use Rattle.log_text.specs.declared.line.OpenLine.{OpenLine}
use Rattle.lab_state.specs.Board.{Board}
use Rattle.lab_state.specs.Hub.{Hub}
use Rattle.lab_state.specs.Lab.{Lab}
use Rattle.lab_state.specs.One.{view_at}
use Rattle.lab_state.specs.Valid.{IsLab}
use Rattle.lab_snap.specs.declared.hub.SavedHub.{SavedHub}
use Rattle.lab_snap.specs.declared.lab.SavedBoard.{SavedBoard}
use Rattle.lab_snap.specs.declared.lab.SavedLab.{SavedLab}
use Rattle.lab_snap.specs.Inner.Parts.{FitTheirPlans}
use Rattle.lab_snap.specs.Loaded.{loaded, loaded_boards, loaded_hub, loaded_view}
use Rattle.lab_snap.specs.Machine.{Machine}
use Rattle.lab_snap.specs.Saved.{saved, saved_board, saved_hub, saved_machine}
use Rattle.lab_snap.proofs.LoadedView.{state_loaded}

-- a law of `states_are_put_back`
abbrev Same : Type 0
Same = (v : View) → IsBoard v → brought_to v (board_state v) ≡ v

-- ---- what was saved and is loaded

timer_again :
    (timer : Option Timer) →
    timer_to (option_map new_timer (option_map (λ t. t.frequency) timer)) (option_map (λ t. t.state) timer) ≡ timer
timer_again None = refl
timer_again (Some timer) = refl

controller_again :
    (c : Option Controller) →
    controller_to (option_map new_controller (option_map size_of c)) (option_map (λ c. c.state) c) ≡ c
controller_again None = refl
controller_again (Some c) = refl

view_again : Same → (n : ℕ) (v : View) → IsBoard v → v.numbers.number ≡ n → loaded_view n (saved_machine v) ≡ v
view_again same n v board is =
    let timer :
    timer_to (option_map new_timer v.space.plan.frequency) (option_map (λ t. t.state) v.space.timer)
    ≡ timer_to v.space.timer (option_map (λ t. t.state) v.space.timer) =
    ap (λ f. timer_to (option_map new_timer f) (option_map (λ t. t.state) v.space.timer)) (sym board.timer)
    ∙ timer_again v.space.timer ∙ sym (timer_back v.space.timer) in
    let controller :
    controller_to (option_map new_controller v.space.plan.plic) (option_map (λ c. c.state) v.space.controller)
    ≡ controller_to v.space.controller (option_map (λ c. c.state) v.space.controller) =
    ap (λ f. controller_to (option_map new_controller f) (option_map (λ c. c.state) v.space.controller))
    (sym board.controller)
    ∙ controller_again v.space.controller ∙ sym (controller_back v.space.controller) in
    let to : View = brought_to v (board_state v) in
    let step : loaded_view n (saved_machine v) ≡ to =
    λ i. record to {
      numbers = record to.numbers { number = sym is i };
      space = record to.space { timer = timer i; controller = controller i };
    } in
    step ∙ same v board

-- what stands under the name of a board
view_of_again : Same → (n : ℕ) (o : Option View) → ((v : View) → o ≡ Some v → IsBoard v × (v.numbers.number ≡ n)) →
    option_map (loaded_view n) (option_map saved_machine o) ≡ o
view_of_again same n None is = refl
view_of_again same n (Some v) is = let b = is v refl in ap Some (view_again same n v b.0 b.1)

boards_again : Same → (n : ℕ) (boards : List Board) →
    ((b : ℕ) (v : View) → view_at boards b ≡ Some v → IsBoard v × (v.numbers.number ≡ n + b)) →
    loaded_boards n (map saved_board boards) ≡ boards
unfolding loaded_boards
boards_again same n [] are = refl
boards_again same n (board ∷ boards) are =
    let first : option_map (loaded_view n) (option_map saved_machine board.view) ≡ board.view =
    view_of_again same n board.view
    (λ v is. let b = are 0 v is in (b.0, b.1 ∙ omega arith)) in
    let rest : loaded_boards (suc n) (map saved_board boards) ≡ boards =
    boards_again same (suc n) boards
    (λ b v is. let next = are (suc b) v is in (next.0, next.1 ∙ omega arith)) in
    λ i. record board { view = first i } ∷ rest i

hubs_again : (hubs : List Hub) → map loaded_hub (map saved_hub hubs) ≡ hubs
hubs_again [] = refl
hubs_again (hub ∷ hubs) = ap (λ (rest : List Hub). hub ∷ rest) (hubs_again hubs)

pub loaded_saved : Same → (l : Lab) (ls : List OpenLine) → IsLab l → loaded (saved l ls) ≡ l
loaded_saved same l ls valid =
    let boards = boards_again same 0 l.boards
    (λ b v at. let is = valid.boards b v at in (is.board, is.number ∙ omega arith)) in
    let hubs = hubs_again l.hubs in
    λ i. record l { boards = boards i; hubs = hubs i }

-- the states of boards that there can be fit their plans
view_fits : (o : Option View) → ((v : View) → o ≡ Some v → IsBoard v) →
    ForSome (option_map saved_machine o) (λ m. IsStateFor m.plan m.state)
view_fits None are m is = absurd (cc)
view_fits (Some v) are m is =
    let same : saved_machine v ≡ m = cc in
    subst (λ (m : Machine). IsStateFor m.plan m.state) same (are v refl).state

boards_fit : (boards : List Board) → ((b : ℕ) (v : View) → view_at boards b ≡ Some v → IsBoard v) →
    FitTheirPlans (map saved_board boards)
boards_fit [] are = λ k d below. absurd (omega arith)
boards_fit (board ∷ boards) are =
    All-cons (λ (board : SavedBoard). ForSome board.machine (λ m. IsStateFor m.plan m.state)) (saved_board board)
    (map saved_board boards)
    (view_fits board.view (λ v is. are 0 v is)) (boards_fit boards (λ b v is. are (suc b) v is))

pub saved_fits : (l : Lab) (ls : List OpenLine) → IsLab l → FitTheirPlans (saved l ls).boards
saved_fits l ls valid = boards_fit l.boards (λ b v at. (valid.boards b v at).board)

-- ---- what was loaded and is saved

machine_of_again : (n : ℕ) (o : Option Machine) → ForSome o (λ m. IsStateFor m.plan m.state) →
    option_map saved_machine (option_map (loaded_view n) o) ≡ o
machine_of_again n None fits = refl
machine_of_again n (Some m) fits =
    let state = state_loaded n m (fits m refl) in λ i. Some (record m { state = state i })

saved_boards_again : (n : ℕ) (boards : List SavedBoard) → FitTheirPlans boards →
    map saved_board (loaded_boards n boards) ≡ boards
unfolding loaded_boards
saved_boards_again n [] fits = refl
saved_boards_again n (board ∷ boards) fits =
    let P : SavedBoard → Type 0 = λ board. ForSome board.machine (λ m. IsStateFor m.plan m.state) in
    let first = machine_of_again n board.machine (All-head P board boards fits) in
    let rest = saved_boards_again (suc n) boards (All-tail P board boards fits) in
    λ i. record board { machine = first i } ∷ rest i

saved_hubs_again : (hubs : List SavedHub) → map saved_hub (map loaded_hub hubs) ≡ hubs
saved_hubs_again [] = refl
saved_hubs_again (hub ∷ hubs) = ap (λ (rest : List SavedHub). hub ∷ rest) (saved_hubs_again hubs)

pub saved_loaded : (s : SavedLab) → FitTheirPlans s.boards → saved (loaded s) s.lines ≡ s
saved_loaded s fits =
    let boards = saved_boards_again 0 s.boards fits in
    let hubs = saved_hubs_again s.hubs in
    λ i. record s { boards = boards i; hubs = hubs i }
