-- What a board is, apart from what it has made and nobody has taken.
use Rattle.std.specs.Prelude.{ℕ, List, [], ◌++◌, Option, slice_index_or, slice_set}
use Rattle.dev_core.specs.declared.post.Post.{Post}
use Rattle.dev_core.specs.declared.post.Entry.{Entry}
use Rattle.rv_hart.specs.Core.{Core, initial}
use Rattle.board.specs.Numbers.{Numbers}
use Rattle.board_space.specs.Space.{Space}

-- a board's numbers, its processors, the number of the one that takes the next slot, the words that they have
-- reserved, and what they reach, which has the board's plan
pub record View : Type 0 where
  pub numbers : Numbers
  pub cores : List Core
  pub next : ℕ
  pub watch : List (Option ℕ)
  pub space : Space

-- a board, with the posts and the entries that nobody has taken yet
pub record State : Type 0 where
  pub view : View
  pub posts : List Post
  pub entries : List Entry

-- nothing is made
abbrev pub quiet : View → State
quiet v = record { view = v; posts = []; entries = [] }

-- the processor of a number
abbrev pub core_at : View → ℕ → Core
core_at v hart = slice_index_or v.cores hart initial

abbrev pub with_core : View → ℕ → Core → View
with_core v hart core = record v { cores = slice_set v.cores hart core }

-- a board that has made something more
abbrev pub after : State → State → State
after s run = record { view = run.view; posts = s.posts ++ run.posts; entries = s.entries ++ run.entries }
