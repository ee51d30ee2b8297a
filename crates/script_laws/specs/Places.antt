-- Runs that are the same but for the place of a refusal.
use Rattle.std.specs.Prelude.{◌≡◌, ◌⊎◌, ℕ, List, ◌++◌}
use Rattle.lab_top.specs.Transcript.{Transcript, Outcome, Done, Usage, Script, Absent, last_line}
use Rattle.monitor.specs.declared.fault.Cause.TheVariants as cause
use Rattle.resc_vars.specs.declared.cause.ScriptCause.TheVariants.{Commands, Depth}

-- a line is refused for what is open, or for the commands that were taken before
abbrev pub IsAtLimit : Outcome → Type 0
IsAtLimit (Script fault) = (fault.cause ≡ cause.Script Depth) ⊎ (fault.cause ≡ cause.Script Commands)
IsAtLimit _ = ⊥

-- two runs end in the same way, and for the same cause where they are refused
abbrev pub EndAlike : Outcome → Outcome → Type 0
EndAlike Done Done = Unit {0}
EndAlike (Usage why) (Usage other) = other ≡ why
EndAlike (Script fault) (Script other) = other.cause ≡ fault.cause
EndAlike Absent Absent = Unit {0}
EndAlike _ _ = ⊥

-- two runs are the same but for file and line of a refusal
pub record AreOneButPlace (one two : Transcript) : Type 0 where
  pub written : List ℕ
  pub first : one.bytes ≡ written ++ last_line one.outcome
  pub second : two.bytes ≡ written ++ last_line two.outcome
  pub ends : EndAlike one.outcome two.outcome
  pub reads : two.reads ≡ one.reads
  pub uses : two.uses ≡ one.uses
  pub kept : two.kept ≡ one.kept

-- two runs are so, unless one of them is refused for what is open or for the commands that were taken
abbrev pub AreOneWithinLimits : Transcript → Transcript → Type 0
AreOneWithinLimits one two = IsAtLimit one.outcome ⊎ IsAtLimit two.outcome ⊎ AreOneButPlace one two
