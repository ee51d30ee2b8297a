-- What a round comes to, whatever the order of its events.
use Rattle.std.specs.Prelude.{◌≡◌, ℕ, List, map, Option, Some, slice_get}
use Rattle.lab_num.specs.Numbered.{AreNumbered}
use Rattle.dev_core.specs.declared.post.Post.{Post}
use Rattle.dev_core.specs.Post.{post_key}
use Rattle.floor_core.specs.Floor.{Floor, posted_by}
use Rattle.floor_core.specs.Job.{Job, left, made, aside, after}

-- the jobs of a floor, by number
abbrev pub jobs : {S : Type 0} → Floor S → List (Job S)
jobs f = map (λ b. b.job) f.boards

-- the posts in the mail, in order of arrival
abbrev pub mailed : {S : Type 0} → Floor S → List Post
mailed f = map (λ m. m.post) f.mail

-- a job after all its slots, without unsent posts
abbrev pub finished : {S : Type 0} → (S → List (Option Post) → ℕ → S) → Job S → Job S
finished state_after start = aside (after state_after start (left start))

-- each job is finished, and in the mail are all the posts that it had and made, in their order
pub record IsOver {S : Type 0} (state_after : S → List (Option Post) → ℕ →
    S) (starts : List (Job S)) (f : Floor S) : Type 0 where
  pub jobs : jobs f ≡ map (finished state_after) starts
  pub posts : (i : ℕ) (start : Job S) → slice_get starts i ≡ Some start → posted_by i f.mail ≡ made start (left start)

-- all that each job is to post names its board, with numbers that rise by one
abbrev pub IsNumbered : {S : Type 0} → List (Job S) → Type 0
IsNumbered {S} starts = (i : ℕ) (start : Job S) → slice_get starts i ≡ Some start →
    (first : ℕ) × AreNumbered i first (map post_key (made start (left start)))
