-- The numbers of what a board makes.
use Rattle.std.specs.Prelude.{◌≡◌, ℕ, ◌+◌, ◌≤◌, length, map}
use Rattle.lab_num.specs.Numbered.{AreNumbered}
use Rattle.board.specs.Numbers.{Numbers}
use Rattle.board.specs.View.{State}

-- what a board of these numbers has come to in at most so many slots
pub record IsNumbered (old : Numbers) (n : ℕ) (run : State) : Type 0 where
  pub number : run.view.numbers.number ≡ old.number
  pub speed : run.view.numbers.speed ≡ old.speed
  pub posted : run.view.numbers.posted ≡ old.posted + length run.posts
  pub entered : run.view.numbers.entered ≡ old.entered + length run.entries
  pub few_posts : length run.posts ≤ n
  pub few_entries : length run.entries ≤ n
  pub post_keys : AreNumbered old.number old.posted (map (λ post. post.key) run.posts)
  pub entry_keys : AreNumbered old.number old.entered (map (λ entry. entry.key) run.entries)
