-- What holds of a floor at every moment.
use Rattle.std.specs.Prelude.{◌≡◌, ℕ, ◌≤◌, List, ◌++◌, length, Option, Some, slice_get}
use Rattle.dev_core.specs.declared.post.Post.{Post}
use Rattle.floor_core.specs.Floor.{Board, Floor, posted_by}
use Rattle.floor_core.specs.Job.{Job, left, after, made, aside}

module _ {S : Type 0} (state_after : S → List (Option Post) → ℕ → S) where
  -- A board that began with one job, and the posts of it that are in the mail. Posts aside, the job is the first one
  -- after the slots that are used; those are at most the slots that it began with; and the posts in the mail, and then
  -- the unsent ones, are those that these slots have made.
  pub record IsSound (start : Job S) (b : Board S) (mailed : List Post) : Type 0 where
    pub job : aside b.job ≡ aside (after state_after start b.used)
    pub paid : b.used ≤ left start
    pub posts : mailed ++ b.job.unsent ≡ made start b.used

  -- the boards are those that the round began with, and each is sound
  pub record Sound (starts : List (Job S)) (f : Floor S) : Type 0 where
    pub boards : length f.boards ≡ length starts
    pub each : (i : ℕ) (start : Job S) (b : Board S) → slice_get starts i ≡ Some start → slice_get f.boards i ≡ Some b →
        IsSound start b (posted_by i f.mail)
