-- How far a search for the source to claim has come.
use Rattle.std.specs.Prelude.{◌≡◌, ℕ, ◌<◌, ◌≤◌, true}
use Rattle.plic.specs.declared.state.PlicState.{PlicState}
use Rattle.plic.specs.Claim.{is_ready, priority}

-- of the sources below a bound that are ready, the first of the greatest priority; 0 of priority 0 for none
pub record IsBest (p : PlicState) (context bound source highest : ℕ) : Type 0 where
  pub greatest : (s : ℕ) → 1 ≤ s → s < bound → is_ready p context s ≡ true → priority p s ≤ highest
  pub first : (s : ℕ) → 1 ≤ s → s < source → is_ready p context s ≡ true → priority p s < highest
  pub none : highest ≡ 0 → source ≡ 0
  pub at_least : 0 < highest → 1 ≤ source
  pub below : 0 < highest → source < bound
  pub ready : 0 < highest → is_ready p context source ≡ true
  pub rank : 0 < highest → priority p source ≡ highest
