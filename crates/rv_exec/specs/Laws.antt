-- What each slot leaves of the counters, of the letters and of the number.
use Rattle.std.specs.Prelude.{◌≡◌, ◌≢◌, ◌+◌, ◌%◌, ◌^◌, Some}
use Rattle.rv_hart.specs.declared.numbers.Counter.TheVariants.{Mcycle, Minstret}
use Rattle.rv_hart.specs.Core.{Core}
use Rattle.rv_exec.specs.declared.ending.Ending.TheVariants.{Retired, Trapped}
use Rattle.rv_exec.specs.Outcome.{Outcome}

-- mcycle rises by one, unless the instruction has written a half of it
abbrev pub RaisesMcycle : Core → Outcome → Core → Type 0
RaisesMcycle core outcome after =
    outcome.ending ≢ Retired (Some Mcycle) → after.mcycle ≡ (core.mcycle + 1) % 2 ^ 64

-- minstret rises by one where the instruction retires, unless it has written a half of it
abbrev pub RaisesMinstret : Core → Outcome → Core → Type 0
RaisesMinstret core outcome after =
    outcome.ending ≢ Trapped → outcome.ending ≢ Retired (Some Minstret) →
    after.minstret ≡ (core.minstret + 1) % 2 ^ 64

-- minstret stays in an exception
abbrev pub KeepsMinstret : Core → Outcome → Core → Type 0
KeepsMinstret core outcome after = outcome.ending ≡ Trapped → after.minstret ≡ core.minstret

-- the letters and the number stay
pub record IsSameHart (core after : Core) : Type 0 where
  pub letters : after.letters ≡ core.letters
  pub number : after.number ≡ core.number
