-- The work of one board in one round, whatever the board is.
use Rattle.std.specs.Prelude.{◌≡◌, ℕ, ◌+◌, ◌≤◌, List, [], ◌++◌, length, take, drop, Option}
use Rattle.std.specs.List.{filter_map}
use Rattle.dev_core.specs.declared.post.Post.{Post}

-- a job: its state, the slots that are still to come, each with its post or none, and the unsent posts
pub record Job (S : Type 0) : Type 0 where
  pub state : S
  pub coming : List (Option Post)
  pub unsent : List Post

-- how many slots are left
abbrev pub left : {S : Type 0} → Job S → ℕ
left j = length j.coming

-- the posts of some slots
abbrev pub posts : List (Option Post) → List Post
posts slots = filter_map (λ slot. slot) slots

-- the unsent posts, followed by those of the next n slots
abbrev pub made : {S : Type 0} → Job S → ℕ → List Post
made j n = j.unsent ++ posts (take n j.coming)

-- a job whose unsent posts are set aside
abbrev pub aside : {S : Type 0} → Job S → Job S
aside j = record j { unsent = [] }

module _ {S : Type 0} (state_after : S → List (Option Post) → ℕ → S) where
  -- the job after its next n slots
  abbrev pub after : Job S → ℕ → Job S
  after j n = record { state = state_after j.state j.coming n; coming = drop n j.coming; unsent = made j n }

  -- a turn of a slots and then of b slots is a turn of a + b
  abbrev pub Adds : Type 0
  Adds = (s : S) (coming : List (Option Post)) (a b : ℕ) → a + b ≤ length coming →
      state_after (state_after s coming a) (drop a coming) b ≡ state_after s coming (a + b)

  -- a turn of no slot changes nothing
  abbrev pub Rests : Type 0
  Rests = (s : S) (coming : List (Option Post)) → state_after s coming 0 ≡ s
