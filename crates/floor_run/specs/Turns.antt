-- The job of a board after turns, whose posts are sent.
use Rattle.std.specs.Prelude.{◌≡◌, ℕ, ◌*◌, List, ◌++◌, min, Option}
use Rattle.dev_core.specs.declared.post.Post.{Post}
use Rattle.floor_core.specs.Job.{Job, left, made, aside, after}

module _ {J S : Type 0} (meaning : J → Job S) where
  abbrev pub slots_left : J → ℕ
  slots_left job = left (meaning job)

  -- the slots of so many turns of at most 4,096 slots
  abbrev pub paid : J → ℕ → ℕ
  paid start turns = min (slots_left start) (4096 * turns)

  module _ (sent : J → List Post) (state_after : S → List (Option Post) → ℕ → S) where
    -- the job after the next n slots of the start, all of whose posts it has sent
    pub record After (start : J) (n : ℕ) (job : J) : Type 0 where
      pub job_is : meaning job ≡ aside (after state_after (meaning start) n)
      pub sent_is : sent job ≡ sent start ++ made (meaning start) n

    -- the job after so many turns of the start
    abbrev pub AfterTurns : J → ℕ → J → Type 0
    AfterTurns start turns job = After start (paid start turns) job

    -- the job after one turn of the one that was claimed
    abbrev pub IsTurned : J → J → Type 0
    IsTurned claimed job = After claimed (min 4096 (slots_left claimed)) job
