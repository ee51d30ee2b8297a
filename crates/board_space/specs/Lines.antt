-- The interrupt lines of a board, and what a processor sees of them (RISC-V Privileged Architecture 20211203, 3.1.9).
-- A wire leads from where a line begins to a pin of a processor or to a source of the interrupt controller. Several
-- wires may lead to one place, which is up where the line of any of them is.
use Rattle.std.specs.Prelude.{ℕ, ◌+◌, ◌^◌, ◌==◌, ◌&&◌, ◌||◌, not, nat_lt, length, is_some, Bool, false, if◌then◌else◌}
use Rattle.std.specs.Prelude.{Option, None, Some}
use Rattle.std.specs.List.{list_any}
use Rattle.clint.specs.Clint.{Timer, mtime, software_line, timer_line}
use Rattle.dev_core.specs.Device.{dev_line}
use Rattle.plic.specs.Claim.{output}
use Rattle.plic.specs.Gateway.{sample}
use Rattle.plic.specs.Sources.{set_of}
use Rattle.plic.specs.State.{Controller}
use Rattle.rv_hart.specs.Cause.{software_interrupt, timer_interrupt, external_interrupt}
use Rattle.rv_hart.specs.declared.csr.Lines.{Lines}
use Rattle.sys_bus.specs.declared.plan.BoardPlan.{BoardPlan}
use Rattle.sys_bus.specs.declared.wire.Wire.{Wire}
use Rattle.sys_bus.specs.declared.wire.WireFrom.{WireFrom}
use Rattle.sys_bus.specs.declared.wire.WireFrom.TheVariants.{Soft, Timer as TimerLine, Context, Dev}
use Rattle.sys_bus.specs.declared.wire.WirePin.{WirePin}
use Rattle.sys_bus.specs.declared.wire.WirePin.TheVariants.{Cpu, Source}
use Rattle.board_space.specs.Space.{Space, device_at}

-- ---- where lines begin

-- the lines of the timer, at a microsecond
abbrev pub software_up : Option Timer → Bool
software_up None = false
software_up (Some timer) = software_line timer

abbrev pub timer_up : Option Timer → ℕ → Bool
timer_up None t = false
timer_up (Some timer) t = timer_line timer t

-- the line to a context of the controller
abbrev pub context_up : Option Controller → ℕ → Bool
context_up None context = false
context_up (Some c) context = nat_lt context c.contexts && output c.sources c.state context

-- the line of a device
abbrev pub device_up : Space → ℕ → Bool
device_up s dev = dev_line (device_at s dev).state

-- whether the line is up where a wire begins, if that of the timer interrupt is up or not: it alone goes by the time
abbrev pub is_up : Space → Bool → WireFrom → Bool
is_up s timer Soft = software_up s.timer
is_up s timer TimerLine = timer
is_up s timer (Context context) = context_up s.controller context
is_up s timer (Dev dev) = device_up s dev

-- whether a board has a line that may be up: one without a timer, an interrupt controller and wires has none
abbrev pub is_wired : BoardPlan → Bool
is_wired plan = is_some plan.frequency || is_some plan.plic || not (length plan.wires == 0)

-- ---- what the controller samples

-- lines of devices alone lead to its sources
abbrev pub is_from_device : Space → WireFrom → Bool
is_from_device s (Dev dev) = device_up s dev
is_from_device s _ = false

abbrev pub ends_at_source : ℕ → WirePin → Bool
ends_at_source n (Source source) = source == n
ends_at_source n (Cpu hart pin) = false

abbrev pub brings_source_up : Space → ℕ → Wire → Bool
brings_source_up s source wire = ends_at_source source wire.pin && is_from_device s wire.from

abbrev pub source_up : Space → ℕ → Bool
source_up s source = list_any (brings_source_up s source) s.plan.wires

abbrev pub sources_up : Space → ℕ
sources_up s = set_of (source_up s)

abbrev pub sampled_by : Option Controller → ℕ → Option Controller
sampled_by None lines = None
sampled_by (Some c) lines = Some (record c { state = sample c.sources c.state lines })

-- the controller samples the lines of its sources
unfoldable pub sampled : Space → Space
sampled s = record s { controller = sampled_by s.controller (sources_up s) }

-- ---- what a processor sees

abbrev pub ends_at_pin : ℕ → ℕ → WirePin → Bool
ends_at_pin hart n (Cpu number pin) = (number == hart) && (pin == n)
ends_at_pin hart n (Source source) = false

abbrev pub brings_pin_up : Space → Bool → ℕ → ℕ → Wire → Bool
brings_pin_up s timer hart pin wire = ends_at_pin hart pin wire.pin && is_up s timer wire.from

abbrev pub pin_up : Space → Bool → ℕ → ℕ → Bool
pin_up s timer hart pin = list_any (brings_pin_up s timer hart pin) s.plan.wires

-- a pin that is up is pending in mip, at the bit of its number
abbrev pub pending : Space → Bool → ℕ → ℕ → ℕ
pending s timer hart pin = if pin_up s timer hart pin then 2 ^ pin else 0

unfoldable pub mip_of : Space → Bool → ℕ → ℕ
mip_of s timer hart =
    pending s timer hart software_interrupt + pending s timer hart timer_interrupt
    + pending s timer hart external_interrupt

-- the time that a processor reads: the timer's, and 0 where there is none
abbrev pub mtime_of : Option Timer → ℕ → ℕ
mtime_of None t = 0
mtime_of (Some timer) t = mtime timer t

unfoldable pub lines_of : Space → ℕ → ℕ → Lines
lines_of s hart t = record { mip = mip_of s (timer_up s.timer t) hart; mtime = mtime_of s.timer t }
