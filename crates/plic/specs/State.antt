-- A PLIC: how many sources and contexts it has, which nothing changes, and its state; and which states it can have.
use Rattle.std.specs.Prelude.{◌≡◌, ℕ, ◌+◌, ◌≤◌, List, replicate, drop, slice_index, All}
use Rattle.plic.specs.declared.state.PlicState.{PlicState}
use Rattle.plic.specs.Sources.{AreSources}

pub record Controller : Type 0 where
  pub sources : ℕ
  pub contexts : ℕ
  pub state : PlicState

-- the state after a reset: nothing is pending or enabled, and every gateway is open
abbrev pub plic_reset : PlicState
plic_reset = record {
  priorities = replicate 128 0;
  pending = 0;
  shut = 0;
  enables = replicate 15 0;
  thresholds = replicate 15 0;
}

-- the priorities of n sources: 0 to 7, and 0 where there is no source
pub record ArePriorities (n : ℕ) (xs : List ℕ) : Type 0 where
  pub levels : All (λ x. x ≤ 7) xs
  pub no_source : slice_index xs 0 ≡ 0
  pub absent : All (λ x. x ≡ 0) (drop (n + 1) xs)

-- the enables of k contexts: sources that are there, and none where there is no context
pub record AreEnables (n k : ℕ) (xs : List ℕ) : Type 0 where
  pub sources : All (AreSources n) xs
  pub absent : All (λ x. x ≡ 0) (drop k xs)

-- the thresholds of k contexts: 0 to 7, and 0 where there is no context
pub record AreThresholds (k : ℕ) (xs : List ℕ) : Type 0 where
  pub levels : All (λ x. x ≤ 7) xs
  pub absent : All (λ x. x ≡ 0) (drop k xs)

-- a state that a PLIC of n sources and k contexts can have: what is absent is 0
pub record IsPlicState (n k : ℕ) (p : PlicState) : Type 0 where
  pub pending : AreSources n p.pending
  pub shut : AreSources n p.shut
  pub priorities : ArePriorities n p.priorities
  pub enables : AreEnables n k p.enables
  pub thresholds : AreThresholds k p.thresholds

-- a PLIC: 1 to 127 sources, 1 to 15 contexts, and a state that it can have
pub record IsController (c : Controller) : Type 0 where
  pub a_source : 1 ≤ c.sources
  pub sources : c.sources ≤ 127
  pub a_context : 1 ≤ c.contexts
  pub contexts : c.contexts ≤ 15
  pub state : IsPlicState c.sources c.contexts c.state
