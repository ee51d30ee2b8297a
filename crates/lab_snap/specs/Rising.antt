-- Lists that rise, and posts in order.
use Rattle.std.specs.Prelude.{Bool, true, ◌==◌, nat_lt, ◌&&◌, ◌||◌, List, [], ◌∷◌}
use Rattle.std.specs.List.{list_all}
use Rattle.lab_num.specs.declared.key.Key.{Key}
use Rattle.dev_core.specs.declared.post.Post.{Post}

-- keys come in order of their times, then of their boards, then of their numbers
abbrev pub is_before : Key → Key → Bool
is_before a b =
    nat_lt a.at.0 b.at.0
    || (a.at.0 == b.at.0
    && (nat_lt a.board.0 b.board.0 || (a.board.0 == b.board.0 && nat_lt a.number.0 b.number.0)))

-- each item is before all items after it
abbrev pub rise_by : {A : Type 0} → (A → A → Bool) → List A → Bool
rise_by before [] = true
rise_by before (x ∷ xs) = list_all (λ later. before x later) xs && rise_by before xs

-- posts rise by their keys
abbrev pub rise : List Post → Bool
rise posts = rise_by (λ post later. is_before post.key later.key) posts
