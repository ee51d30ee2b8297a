-- Jobs that have taken some of their slots.
use Rattle.std.specs.Prelude.{◌≡◌, ℕ, ◌≤◌, List, ◌++◌, set, slice_get, Option, Some}
use Rattle.dev_core.specs.declared.post.Post.{Post}
use Rattle.floor_core.specs.Job.{Job, left, made, aside, after}

-- the next n slots of a job are idle: they post nothing, and leave its state as so many idle slots do
pub record AreIdle {S : Type 0} (state_after : S → List (Option Post) → ℕ → S) (idled : S → ℕ → S)
    (job : Job S) (n : ℕ) : Type 0 where
  pub state_is : state_after job.state job.coming n ≡ idled job.state n
  pub no_post : made job n ≡ job.unsent

module _ {J S : Type 0} (meaning : J → Job S) where
  abbrev pub slots_left : J → ℕ
  slots_left job = left (meaning job)

  module _ (sent : J → List Post) (state_after : S → List (Option Post) → ℕ → S) where
    -- the job after the next n slots of the start, all of whose posts it has sent
    pub record After (start : J) (n : ℕ) (job : J) : Type 0 where
      pub job_is : meaning job ≡ aside (after state_after (meaning start) n)
      pub sent_is : sent job ≡ sent start ++ made (meaning start) n

    -- the job after some of its slots
    abbrev pub Partly : J → J → Type 0
    Partly start job = (n : ℕ) × (n ≤ slots_left start) × After start n job

    -- of these jobs the one in this place takes its next n slots, and no other takes any
    abbrev pub OneTakes : ℕ → ℕ → List J → List J → Type 0
    OneTakes place n jobs later =
        (job : J) × (next : J) × (slice_get jobs place ≡ Some job) × (n ≤ slots_left job) × After job n next ×
        (later ≡ set jobs place next)
