-- A run that may not be made is refused for its cause.
use Rattle.std.proofs.Common.{◌≡◌, ◌↔◌, Result, Err}
use Rattle.lab_num.specs.declared.number.BoardNo.{BoardNo}
use Rattle.lab_state.specs.declared.faults.RunCause.{RunCause}
use Rattle.lab_state.specs.declared.faults.RunCause.TheVariants as run_cause
use Rattle.lab_state.specs.declared.faults.RunFault.{RunFault}
use Rattle.lab_state.specs.declared.faults.RunFault.TheVariants as fault
use Rattle.lab_state.specs.Inner.Fault.{run_fault}

-- whether it is refused for want of a plan, which is the cause exactly where this holds
pub no_plan_told :
    {A P Q : Type 0} (cause : RunCause) (answer : Result (Unit {0}) RunCause) (result : Result A RunFault)
    (b : BoardNo) → answer ≡ Err cause → result ≡ Err (run_fault cause) → Q →
    (answer ≡ Err (run_cause.NoPlan b)) ↔ P → (result ≡ Err (fault.NoPlan b)) ↔ (Q × P)
no_plan_told (run_cause.NoPlan board) answer result b was is holds exactly = (
  (λ told. (holds, exactly.0 (cc))),
  (λ both. let named = exactly.1 both.1 in cc),
)
no_plan_told run_cause.TooLong answer result b was is holds exactly = (
  (λ told. absurd (cc)),
  (λ both. let named = exactly.1 both.1 in absurd (cc)),
)
