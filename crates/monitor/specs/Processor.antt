-- Commands to a processor of the selected board: each prints a value, or sets it.
use Rattle.std.specs.Prelude.{ℕ, ◌*◌, ◌/◌, ◌%◌, ◌==◌, nat_le, Bool, true, false, List, ◌++◌, length, codes}
use Rattle.std.specs.Prelude.{Option, None, Some, Result, Ok}
use Rattle.std.specs.Fmt.{decimal}
use Rattle.board.specs.Changes.{with_pc, with_halted, with_speed}
use Rattle.board.specs.View.{View, core_at}
use Rattle.rv_hart.specs.Core.{alignment}
use Rattle.resc_vars.specs.declared.cause.ScriptCause.{ScriptCause}
use Rattle.resc_vars.specs.declared.cause.ScriptCause.TheVariants.{Address, Arguments}
use Rattle.monitor.specs.Answer.{Done, says, leaves}
use Rattle.monitor.specs.Memory.{word_line}
use Rattle.monitor.specs.Refusal.{◌>>=◌, require}
use Rattle.monitor.specs.Selected.{Equipped, equipped, processor, with_board}
use Rattle.monitor.specs.State.{State}

abbrev pub truth_line : Bool → List ℕ
truth_line true = codes "true\n"
truth_line false = codes "false\n"

-- of a processor, the address of the next instruction, which is divisible by 4, or with compressed instructions by 2
abbrev pub pc_on : State → Equipped → ℕ → Option ℕ → Result Done ScriptCause
pc_on s on hart None = Ok (says s (word_line (core_at on.view hart).pc))
pc_on s on hart (Some value) = do
  is ← require (value % alignment on.view.space.plan.letters == 0) Address
  Ok (leaves (with_board s on (λ v. with_pc v hart value)))

-- cpu PC [value]
abbrev pub pc : State → List ℕ → Option ℕ → Result Done ScriptCause
pc s cpu value = do
  on ← equipped s
  hart ← processor on cpu
  pc_on s on hart value

-- whether a processor is halted
abbrev pub halted_on : State → Equipped → ℕ → Option Bool → Done
halted_on s on hart None = says s (truth_line (core_at on.view hart).halted)
halted_on s on hart (Some value) = leaves (with_board s on (λ v. with_halted v hart value))

-- cpu IsHalted [value]
abbrev pub halted : State → List ℕ → Option Bool → Result Done ScriptCause
halted s cpu value = do
  on ← equipped s
  hart ← processor on cpu
  Ok (halted_on s on hart value)

-- the speed of a board each of whose processors makes so many instructions in a microsecond
abbrev pub speed_of : View → ℕ → ℕ
speed_of v each = each * length v.cores

-- a board makes at most 1,000 instructions in a microsecond
abbrev pub may_go_at : View → Option ℕ → Bool
may_go_at v None = true
may_go_at v (Some each) = nat_le (speed_of v each) 1000

-- the instructions that each processor makes in a microsecond
abbrev pub mips_on : State → Equipped → Option ℕ → Done
mips_on s on None = says s (decimal (on.view.numbers.speed / length on.view.cores) ++ codes "\n")
mips_on s on (Some each) = leaves (with_board s on (λ v. with_speed v (speed_of on.view each)))

-- cpu PerformanceInMips [value], of which every processor of the board has the same
abbrev pub mips : State → List ℕ → Option ℕ → Result Done ScriptCause
mips s cpu value = do
  on ← equipped s
  fits ← require (may_go_at on.view value) Arguments
  hart ← processor on cpu
  Ok (mips_on s on value)
