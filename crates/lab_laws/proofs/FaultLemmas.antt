-- A run that is refused, and another after it.
use Rattle.std.proofs.Common.{◌≡◌, ◌≢◌, ◌↔◌, Result, Ok, Err, OnErr}
use Rattle.lab_num.specs.declared.number.BoardNo.{BoardNo}
use Rattle.lab_state.specs.declared.faults.RunFault.{RunFault}
use Rattle.lab_state.specs.declared.faults.RunFault.TheVariants as fault

-- a fault that is handed on names a board exactly where it did
pub handed_on :
    {A B P : Type 0} (cause : RunFault) (answer : Result A RunFault) (result : Result B RunFault) (b : BoardNo) →
    answer ≡ Err cause → result ≡ Err cause → (answer ≡ Err (fault.NoPlan b)) ↔ P →
    (result ≡ Err (fault.NoPlan b)) ↔ P
handed_on (fault.NoPlan board) answer result b was is exactly = (
  (λ told. exactly.0 (cc)),
  (λ holds. let named = exactly.1 holds in cc),
)
handed_on fault.TooLong answer result b was is exactly = (
  (λ told. absurd (cc)),
  (λ holds. let named = exactly.1 holds in absurd (cc)),
)
handed_on fault.Memory answer result b was is exactly = (
  (λ told. absurd (cc)),
  (λ holds. let named = exactly.1 holds in absurd (cc)),
)

-- two runs that are made name none where the first does not
pub both_made :
    {A B P : Type 0} (first : Result A RunFault) (both : Result B RunFault) (one : A) (two : B) (b : BoardNo) →
    first ≡ Ok one → both ≡ Ok two → (first ≡ Err (fault.NoPlan b)) ↔ P → (both ≡ Err (fault.NoPlan b)) ↔ P
both_made first both one two b was is exactly = (
  (λ told. absurd (cc)),
  (λ holds. let named = exactly.1 holds in absurd (cc)),
)

on_err : {A B P : Type 0} (r : Result A B) → P → OnErr r P
on_err (Ok a) p = tt
on_err (Err b) p = p

-- where a run was made, one that is refused exactly where the first is has found no memory
pub not_refused :
    {A B Q : Type 0} {P : BoardNo → Type 0} (X : Type 0) (cause : RunFault) (first second : Result A RunFault) (one : A)
    (result : Result B RunFault) →
    first ≡ Ok one → second ≡ Err cause → result ≡ Err cause →
    ((b : BoardNo) → (first ≡ Err (fault.NoPlan b)) ↔ P b) → (first ≡ Err fault.TooLong) ↔ Q →
    ((b : BoardNo) → (second ≡ Err (fault.NoPlan b)) ↔ P b) → (second ≡ Err fault.TooLong) ↔ Q →
    OnErr result (result ≢ Err fault.Memory → X)
not_refused X (fault.NoPlan b) first second one result made was is no_plan too_long no_plan' too_long' =
    let named = (no_plan b).1 ((no_plan' b).0 was) in
    on_err result (λ other. absurd (cc))
not_refused X fault.TooLong first second one result made was is no_plan too_long no_plan' too_long' =
    let long = too_long.1 (too_long'.0 was) in
    on_err result (λ other. absurd (cc))
not_refused X fault.Memory first second one result made was is no_plan too_long no_plan' too_long' =
    on_err result (λ other. absurd (other is))
