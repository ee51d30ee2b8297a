-- How an instruction ends, and the counters after its slot.
use Rattle.std.specs.Prelude.{ℕ, Some, None}
use Rattle.rv_hart.specs.declared.numbers.Counter.TheVariants.{Mcycle, Minstret}
use Rattle.rv_hart.specs.Core.{Core, ticked, retired}
use Rattle.rv_hart.specs.Trap.{enter}
use Rattle.rv_exec.specs.declared.ending.Ending.{Ending}
use Rattle.rv_exec.specs.declared.ending.Ending.TheVariants.{Retired, Trapped}

-- the core that an instruction leaves, whose counters have not risen yet, and how it has ended: it has retired, and
-- written a half of this counter or of none, or it was an exception
pub record Outcome : Type 0 where
  pub core : Core
  pub ending : Ending

abbrev pub outcome : Core → Ending → Outcome
outcome core ending = record { core = core; ending = ending }

-- an instruction that retires, and has written no counter
abbrev pub retires : Core → Outcome
retires core = outcome core (Retired None)

-- an exception, by its cause and what mtval shows (Privileged ISA 3.3.1)
abbrev pub traps : Core → ℕ → ℕ → Outcome
traps core cause value = outcome (enter core cause value) Trapped

-- The counters at the end of a slot: mcycle counts each slot, and minstret each instruction that retires, but one of
-- which the instruction has written a half stays as written (Privileged ISA 3.1.10).
abbrev pub counted_by : Ending → Core → Core
counted_by (Retired None) core = ticked (retired core)
counted_by (Retired (Some Mcycle)) core = retired core
counted_by (Retired (Some Minstret)) core = ticked core
counted_by Trapped core = ticked core

-- the core at the end of the slot
abbrev pub counted : Outcome → Core
counted outcome = counted_by outcome.ending outcome.core
