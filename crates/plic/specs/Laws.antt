-- Laws of every PLIC.
use Rattle.std.specs.Prelude.{◌≡◌, ℕ, ◌<◌, ◌^◌, ◌≤◌, Bool, IsTrue, true, false, List, slice_index}
use Rattle.plic.specs.declared.state.PlicState.{PlicState}
use Rattle.plic.specs.Sources.{has, is_source, set_of}
use Rattle.plic.specs.State.{Controller, IsController}
use Rattle.plic.specs.Gateway.{sample, is_enabled}
use Rattle.plic.specs.Claim.{priority, threshold, is_claimable, output, claim}
use Rattle.plic.specs.Course.{PlicStep, Claims, after, course, is_completed}

-- in the set that a test gives is what passes it
abbrev pub HasWhatPasses : Type 0
HasWhatPasses = (test : ℕ → Bool) (source : ℕ) → source < 128 → has (set_of test) source ≡ test source

-- sets with the same sources are one
abbrev pub SameSets : Type 0
SameSets =
    (a b : ℕ) → a < 2 ^ 128 → b < 2 ^ 128 → ((source : ℕ) → source < 128 → has a source ≡ has b source) → a ≡ b

-- a second sample of the same lines changes nothing
abbrev pub SamplesOnce : Type 0
SamplesOnce = (n : ℕ) (p : PlicState) (lines : ℕ) → sample n (sample n p lines) lines ≡ sample n p lines

-- a gateway that is shut stays shut until its source is completed, whatever befalls the PLIC
abbrev pub StaysShut : Type 0
StaysShut =
    (c : Controller) (steps : List PlicStep) (source : ℕ) → source < 128 →
    has c.state.shut source ≡ true → is_completed c steps source ≡ false →
    has (course c steps).state.shut source ≡ true

-- A claimed source whose gateway is shut is not pending again before its completion, whatever the lines do and whatever
-- else is claimed, completed, loaded and stored.
abbrev pub AwaitsCompletion : Type 0
AwaitsCompletion =
    (c : Controller) (context : ℕ) (steps : List PlicStep) → IsController c →
    let source = claim c.sources c.state context in
    0 < source → IsTrue (has c.state.shut source) →
    is_completed (after c (Claims context)) steps source ≡ false →
    has (course (after c (Claims context)) steps).state.pending source ≡ false

-- the source that a context is to claim: it is pending and enabled, no source that can be claimed is of a greater
-- priority, and none of the same priority has a lesser number
pub record IsChosen (n : ℕ) (p : PlicState) (context source : ℕ) : Type 0 where
  pub there : IsTrue (is_source n source)
  pub pending : IsTrue (has p.pending source)
  pub enabled : IsTrue (is_enabled p context source)
  pub above_zero : 0 < priority p source
  pub greatest : (s : ℕ) → IsTrue (is_source n s) → IsTrue (is_claimable p context s) →
      priority p s ≤ priority p source
  pub least : (s : ℕ) → IsTrue (is_source n s) → IsTrue (is_claimable p context s) →
      priority p s ≡ priority p source → source ≤ s

-- what is claimed is that source
abbrev pub ClaimsTheChosen : Type 0
ClaimsTheChosen =
    (n : ℕ) (p : PlicState) (context : ℕ) → 0 < claim n p context → IsChosen n p context (claim n p context)

-- and 0 is claimed only where there is none
abbrev pub ClaimsWhatIsThere : Type 0
ClaimsWhatIsThere =
    (n : ℕ) (p : PlicState) (context source : ℕ) → claim n p context ≡ 0 →
    IsTrue (is_source n source) → is_claimable p context source ≡ false

-- the output to a context depends on nothing of another context: of enables and thresholds its own alone count
abbrev pub OutputsApart : Type 0
OutputsApart =
    (n : ℕ) (p q : PlicState) (context : ℕ) → p.pending ≡ q.pending → p.priorities ≡ q.priorities →
    slice_index p.enables context ≡ slice_index q.enables context → threshold p context ≡ threshold q context →
    output n p context ≡ output n q context
