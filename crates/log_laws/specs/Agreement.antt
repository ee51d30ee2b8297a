-- Files and kept snapshots that agree where a run looks, and runs that are alike.
use Rattle.std.specs.Prelude.{◌≡◌, ℕ, List, map, All}
use Rattle.std.specs.FinMap.{get}
use Rattle.lab_io.specs.Held.{Held}
use Rattle.lab_top.specs.Transcript.{Transcript, Use}

-- the same is held under each of these names, or nothing by both
abbrev pub AgreeOn : List (List ℕ) → Held → Held → Type 0
AgreeOn names held other = All (λ name. get other name ≡ get held name) names

-- the names of calls on the store
abbrev pub names_used : List Use → List (List ℕ)
names_used uses = map (λ made. made.call.name) uses

-- two runs are the same in all but what is kept at their ends
pub record IsAlike (one two : Transcript) : Type 0 where
  pub bytes : two.bytes ≡ one.bytes
  pub outcome : two.outcome ≡ one.outcome
  pub reads : two.reads ≡ one.reads
  pub uses : two.uses ≡ one.uses
