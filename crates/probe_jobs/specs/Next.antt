-- Which of several jobs has the slot that comes next.
use Rattle.std.specs.Prelude.{◌≡◌, ℕ, ◌<◌, ◌≤◌, List, Some, slice_get}
use Rattle.floor_core.specs.Job.{Job, left}
use Rattle.probe_jobs.specs.declared.slot.Slot.{Slot}

module _ {J S : Type 0} (meaning : J → Job S) where
  -- none of the first n jobs has a slot left
  abbrev pub NoneLeft : List J → ℕ → Type 0
  NoneLeft jobs n = (k : ℕ) → k < n → (job : J) → slice_get jobs k ≡ Some job → left (meaning job) ≡ 0

  module _ (time : S → ℕ) where
    -- when the next slot of a job lies
    abbrev pub due : J → ℕ
    due job = time (meaning job).state

    -- none of the first n jobs has a slot left that lies before this one, nor at its time in a lower place
    abbrev pub NoneBefore : Slot → List J → ℕ → Type 0
    NoneBefore slot jobs n =
        (k : ℕ) → k < n → (job : J) → slice_get jobs k ≡ Some job → 0 < left (meaning job) →
        (slot.at ≤ due job) × (k < slot.place → slot.at < due job)

    -- of the slots of the first n jobs this one comes next
    abbrev pub IsNext : Slot → List J → ℕ → Type 0
    IsNext slot jobs n =
        (job : J) × (slot.place < n) × (slice_get jobs slot.place ≡ Some job) × (0 < left (meaning job)) ×
        (due job ≡ slot.at) × NoneBefore slot jobs n
