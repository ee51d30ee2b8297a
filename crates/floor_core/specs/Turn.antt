-- What a turn of a job comes to.
use Rattle.std.specs.Prelude.{◌≡◌, ℕ, ◌<◌, List, Option}
use Rattle.dev_core.specs.declared.post.Post.{Post}
use Rattle.floor_core.specs.declared.job.Turn.{Turn}
use Rattle.floor_core.specs.declared.job.Turn.TheVariants.{Used, Starved}
use Rattle.floor_core.specs.Job.{Job, after}

-- all n slots are taken; or memory runs out after exactly so many
abbrev pub IsTurn : {S : Type 0} → (S → List (Option Post) → ℕ → S) → Job S → ℕ → Turn → Job S → Type 0
IsTurn state_after old n (Used m) new = (m ≡ n) × (new ≡ after state_after old n)
IsTurn state_after old n (Starved m) new = (m < n) × (new ≡ after state_after old m)
