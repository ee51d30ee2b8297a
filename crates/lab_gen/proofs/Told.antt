-- What is told of one board, and of one board more.
use Rattle.std.proofs.Common.{◌≡◌, ◌∙◌, ℕ, ◌+◌, ◌<◌, List, [], ◌++◌, length, map, take, sum, get_or, refl, sym, ap}
use Rattle.std.proofs.Common.{Option, Some, None, slice_get, false, arith}
use Rattle.std.specs.Prelude.{is_some, option_and_then}
use Rattle.std.specs.List.{flat_map}
use Rattle.std.specs.Option.{option_map, option_map_or}
use Rattle.std.proofs.lemmas.Grind.{common_steps, flat_map-append}
use Rattle.std.proofs.lemmas.List.{take_more}
use Rattle.std.proofs.lemmas.Option.{slice_get-get_or}
use Rattle.board.specs.View.{View}
use Rattle.lab_state.specs.Board.{Board}
use Rattle.lab_state.specs.One.{view_at}
use Rattle.lab_gen.specs.Summary.{no_board, posts_of, line_by, line_of}

-- what stands under the number of a board is that board's
view_is : (boards : List Board) (b : ℕ) → b < length boards → view_at boards b ≡ (get_or boards b no_board).view
view_is boards b small = ap (option_and_then (λ (board : Board). board.view)) (slice_get-get_or boards b no_board small)

name_is :
    (boards : List Board) (b : ℕ) (name : List ℕ) → b < length boards →
    Some name ≡ option_map (λ (board : Board). board.name) (slice_get boards b) →
    name ≡ (get_or boards b no_board).name
name_is boards b name small is =
    let there : Some name ≡ Some (get_or boards b no_board).name =
    is ∙ ap (option_map (λ (board : Board). board.name)) (slice_get-get_or boards b no_board small) in
    cc

-- ---- a board without a plan

no_posts : (o : Option View) → is_some o ≡ false → option_map_or (λ (v : View). v.numbers.posted) o 0 ≡ 0
no_posts None is = refl
no_posts (Some v) is = cc

no_line : (name : List ℕ) (o : Option View) → is_some o ≡ false → option_map_or (line_by name) o [] ≡ []
no_line name None is = refl
no_line name (Some v) is = cc

pub bare_posts :
    (boards : List Board) (b : ℕ) → b < length boards → is_some (view_at boards b) ≡ false →
    posts_of (get_or boards b no_board) ≡ 0
unfolding posts_of
bare_posts boards b small bare =
    no_posts (get_or boards b no_board).view (ap is_some (sym (view_is boards b small)) ∙ bare)

pub bare_line :
    (boards : List Board) (b : ℕ) → b < length boards → is_some (view_at boards b) ≡ false →
    line_of (get_or boards b no_board) ≡ []
unfolding line_of
bare_line boards b small bare =
    no_line (get_or boards b no_board).name (get_or boards b no_board).view
    (ap is_some (sym (view_is boards b small)) ∙ bare)

-- ---- a board with a plan

pub plan_posts :
    (boards : List Board) (b : ℕ) (v : View) → b < length boards → Some v ≡ view_at boards b →
    posts_of (get_or boards b no_board) ≡ v.numbers.posted
unfolding posts_of
plan_posts boards b v small is =
    ap (λ o. option_map_or (λ (v : View). v.numbers.posted) o 0) (sym (is ∙ view_is boards b small))

pub plan_line :
    (boards : List Board) (b : ℕ) (name : List ℕ) (v : View) → b < length boards → Some v ≡ view_at boards b →
    Some name ≡ option_map (λ (board : Board). board.name) (slice_get boards b) →
    line_of (get_or boards b no_board) ≡ line_by name v
unfolding line_of
plan_line boards b name v small is named =
    ap (λ o. option_map_or (line_by (get_or boards b no_board).name) o []) (sym (is ∙ view_is boards b small))
    ∙ ap (λ n. line_by n v) (sym (name_is boards b name small named))

-- what is told of a board, with a plan or without one
pub ruleset told_of_board = (bare_posts, bare_line, plan_posts, plan_line)

-- ---- a board more

pub lines_more :
    (boards : List Board) (b : ℕ) → b < length boards →
    flat_map line_of (take (b + 1) boards)
    ≡ flat_map line_of (take b boards) ++ line_of (get_or boards b no_board)
lines_more boards b small = grind (arith, common_steps, take_more boards b no_board small, flat_map-append {X = Board})

pub posts_more :
    (boards : List Board) (b : ℕ) → b < length boards →
    sum (map posts_of (take (b + 1) boards))
    ≡ sum (map posts_of (take b boards)) + posts_of (get_or boards b no_board)
posts_more boards b small = grind (arith, common_steps, take_more boards b no_board small)
