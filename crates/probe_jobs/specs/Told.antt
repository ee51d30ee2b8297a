-- What a watcher has been told of the jobs of a round.
use Rattle.std.specs.Prelude.{◌≡◌, ◌⊎◌, ℕ, ◌<◌, List, Option, length, slice_get, Some}
use Rattle.dev_core.specs.declared.post.Post.{Post}
use Rattle.floor_core.specs.Job.{Job}
use Rattle.probe_jobs.specs.Course.{After, AreIdle, OneTakes}
use Rattle.probe_jobs.specs.Next.{IsNext, NoneBefore}
use Rattle.probe_jobs.specs.declared.slot.Slot.{Slot}

pub record Told (J : Type 0) : Type 0 where
  -- the jobs before the first of their slots
  pub began : List J
  -- the jobs when it was told last
  pub jobs : List J
  -- the slot that it was told of last
  pub last : Slot
  -- how many slots it was told of then, from that one on, that were still to come
  pub slots : ℕ

-- it is told that the jobs begin
abbrev pub first : {J : Type 0} → List J → Told J
first jobs = record { began = jobs; jobs = jobs; last = record { at = 0; place = 0 }; slots = 0 }

-- it is told of a slot before the job takes it
abbrev pub shown : {J : Type 0} → Told J → Slot → List J → Told J
shown told slot jobs = record { began = told.began; jobs = jobs; last = slot; slots = 1 }

-- it is told of slots that a job has taken
abbrev pub passed : {J : Type 0} → Told J → Slot → List J → Told J
passed told slot jobs = record { began = told.began; jobs = jobs; last = slot; slots = 0 }

module _ {J S : Type 0} (meaning : J → Job S) (sent : J → List Post)
    (state_after : S → List (Option Post) → ℕ → S) where
  -- the jobs have taken the slots that it was told of, and no others
  abbrev pub Follow : Told J → List J → Type 0
  Follow told jobs =
      ((told.slots ≡ 0) × (jobs ≡ told.jobs)) ⊎
      ((0 < told.slots) × OneTakes meaning sent state_after told.last.place told.slots told.jobs jobs)

  -- one job has passed over n idle slots, of which this one came next and lies no earlier than the last that was told
  abbrev pub HavePassed : (S → ℕ) → (S → ℕ → S) → Told J → Slot → ℕ → List J → Type 0
  HavePassed time idled told slot n jobs =
      (before : List J) × (job : J) × Follow told before × IsNext meaning time slot before (length before) ×
      NoneBefore meaning time told.last before (length before) × (slice_get before slot.place ≡ Some job) × (0 < n) ×
      AreIdle state_after idled (meaning job) n × OneTakes meaning sent state_after slot.place n before jobs
