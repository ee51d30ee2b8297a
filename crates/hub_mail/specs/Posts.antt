-- Posts by board and by number.
use Rattle.std.specs.Prelude.{◌≡◌, ℕ, ◌<◌, ◌==◌, List, [], filter, slice_index_or, All, AllPairs, IfSome, None}
use Rattle.std.specs.List.{last_or}
use Rattle.dev_core.specs.declared.post.Post.{Post}

-- the posts of one board, in order
abbrev pub of_board : ℕ → List Post → List Post
of_board board posts = filter (λ p. p.key.board.0 == board) posts

-- each post has a lower number than all that follow it
abbrev pub RiseByNumber : List Post → Type 0
RiseByNumber posts = AllPairs (λ a b. a.key.number.0 < b.key.number.0) posts

-- the number is above that of the last post, if there is one
abbrev pub IsAbove : ℕ → List Post → Type 0
IsAbove number posts = IfSome (last_or None posts) (λ last. last.key.number.0 < number)

-- the list of one board among lists that stand in order of board, the first one's from 0 on
abbrev pub list_of : ℕ → List (List Post) → List Post
list_of board lists = slice_index_or lists board []

-- each list has posts of its board alone, and they rise by number
abbrev pub AreOfBoards : List (List Post) → Type 0
AreOfBoards lists = (board : ℕ) →
    All (λ p. p.key.board.0 ≡ board) (list_of board lists) × RiseByNumber (list_of board lists)
