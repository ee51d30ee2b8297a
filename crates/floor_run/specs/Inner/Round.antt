-- What a round makes of its jobs, one by one.
use Rattle.std.specs.Prelude.{ℕ, ◌≡◌, ◌≤◌, List, [], length, Option, Some}
use mathlib.Core.Option.{some}
use lib.ListN.{get_elem?}
use Rattle.dev_core.specs.declared.post.Post.{Post}
use Rattle.floor_core.specs.Job.{Job}
use Rattle.floor_run.specs.Turns.{After, slots_left}

-- each of xs has its partner in ys, at the same place
abbrev pub Pairs : {X Y : Type 0} → (X → Y → Type 0) → List X → List Y → Type 0
Pairs {X} {Y} R xs ys =
    (length ys ≡ length xs) ×
    ((i : ℕ) (x : X) → get_elem? xs i ≡ some x → (y : Y) × (get_elem? ys i ≡ some y) × R x y)

module _ {J S : Type 0} (meaning : J → Job S) (sent : J → List Post)
    (state_after : S → List (Option Post) → ℕ → S) where
  -- the job after all its slots
  abbrev pub Ended : J → J → Type 0
  Ended start job = After meaning sent state_after start (slots_left meaning start) job

  -- what is made of what lay on a board when the bench was closed
  abbrev pub Finished : Option J → J → Type 0
  Finished cell done = (job : J) × (cell ≡ Some job) × ((meaning job).unsent ≡ [] → Ended job done)

  -- the job after some of its slots
  abbrev pub Partly : J → J → Type 0
  Partly start job = (n : ℕ) × (n ≤ slots_left meaning start) × After meaning sent state_after start n job
