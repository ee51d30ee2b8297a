-- A run of a script and its check, at the same line.
use Rattle.std.specs.Prelude.{◌≡◌, ◌≢◌, ◌≤◌, ◌⊎◌, true, map}
use Rattle.monitor.specs.declared.fault.Cause.TheVariants.{Script}
use Rattle.monitor.specs.declared.fault.ScriptFault.{ScriptFault}
use Rattle.monitor.specs.Answer.{Answer, Goes, Saves, Loads, Ends, Faults, Misses}
use Rattle.monitor.specs.State.{State}
use Rattle.resc_vars.specs.declared.cause.ScriptCause.TheVariants.{LabTime, Occupied}
use Rattle.check_laws.specs.Standing.{standing}

-- A state of a check is at the line of a state of a run: the same lines, variables and macros are to come; the same
-- board is selected; boards and hubs are the same in what a line may be refused for; and no more time has passed, and
-- `start` runs no longer.
pub record IsCheckOf (ran checked : State) : Type 0 where
  pub dry : checked.dry ≡ true
  pub flow : checked.flow ≡ ran.flow
  pub selected : checked.selected ≡ ran.selected
  pub boards : map standing checked.lab.boards ≡ map standing ran.lab.boards
  pub hubs : checked.lab.hubs ≡ ran.lab.hubs
  pub now : checked.lab.now ≤ ran.lab.now
  pub until : checked.until ≤ ran.until

-- How a check answers a line that a run answers so: as the run, and it goes on beside it; where the run is refused the
-- check is refused for the same, unless it is for the time of the laboratory.
abbrev pub IsFound : Answer → Answer → Type 0
IsFound (Goes text next) (Goes other after) = IsCheckOf next after
IsFound (Saves name place next) (Saves other at after) = (other ≡ name) × (at ≡ place) × IsCheckOf next after
IsFound (Loads name place next) (Loads other at after) = (other ≡ name) × (at ≡ place) × IsCheckOf next after
IsFound Ends Ends = Unit {0}
IsFound (Faults fault) answer = (fault.cause ≡ Script LabTime) ⊎ (answer ≡ Faults fault)
IsFound Misses Misses = Unit {0}
IsFound _ _ = ⊥

-- a check finds a fault, unless it is for the time of the laboratory, or that something was made in the laboratory into
-- which a snapshot is to be loaded
pub record IsToBeFound (fault : ScriptFault) : Type 0 where
  pub time : fault.cause ≢ Script LabTime
  pub occupied : fault.cause ≢ Script Occupied
