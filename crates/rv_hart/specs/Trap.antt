-- Trap entry and return in machine mode, and the choice of an interrupt.
use Rattle.std.specs.Prelude.{ℕ, ◌+◌, ◌*◌, ◌/◌, ◌%◌, ◌^◌, ◌==◌, ◌&&◌, not, Bool, true, false, if◌then◌else◌, [], ◌∷◌}
use Rattle.std.specs.Prelude.{Option, None, find, bit_and}
use Rattle.std.specs.Int.{bit_at}
use Rattle.rv_hart.specs.Cause.{interrupt_cause, external_interrupt, software_interrupt, timer_interrupt}
use Rattle.rv_hart.specs.Core.{Core}

-- whether a bit of a word is 1
abbrev pub is_set : ℕ → ℕ → Bool
is_set word n = bit_at word n == 1

-- the cause of an interrupt has its top bit set (Privileged ISA 3.1.15)
abbrev pub is_interrupt : ℕ → Bool
is_interrupt cause = is_set cause 31

-- where a trap goes: to the base of mtvec, and in the vectored mode, which is bit 0 of mtvec, an interrupt n goes 4 n
-- beyond it (Privileged ISA 3.1.7)
unfoldable pub target : Core → ℕ → ℕ
target core cause =
    let base = core.mtvec / 4 * 4 in
    if is_interrupt cause && is_set core.mtvec 0 then (base + 4 * (cause % 2 ^ 31)) % 2 ^ 32 else base

-- the entry of a trap: an exception, or an interrupt n as the cause 2 ^ 31 + n
-- (Privileged ISA 3.1.6.1, 3.1.14 to 3.1.16)
unfoldable pub enter : Core → ℕ → ℕ → Core
enter core cause value =
    record core {
      pc = target core cause;
      mepc = core.pc;
      mcause = cause;
      mtval = value;
      mstatus_mpie = core.mstatus_mie;
      mstatus_mie = false;
    }

-- the entry of the interrupt n
abbrev pub interrupt : Core → ℕ → Core
interrupt core n = enter core (interrupt_cause n) 0

-- the return from a trap, MRET (Privileged ISA 3.1.6.1, 3.3.2)
unfoldable pub leave : Core → Core
leave core = record core { pc = core.mepc; mstatus_mie = core.mstatus_mpie; mstatus_mpie = true }

-- of the interrupts whose bits are set the most urgent: external, then software, then timer (Privileged ISA 3.1.9)
unfoldable pub most_urgent : ℕ → Option ℕ
most_urgent ready = find (λ n. is_set ready n) (external_interrupt ∷ software_interrupt ∷ timer_interrupt ∷ [])

-- the interrupt that is taken now: none where MIE is 0, and else the most urgent that is both pending and enabled
unfoldable pub chosen : Core → ℕ → Option ℕ
chosen core mip = if core.mstatus_mie then most_urgent (bit_and mip core.mie) else None

-- whether an interrupt is both pending and enabled, which ends a wait whatever MIE is (Privileged ISA 3.3.3)
abbrev pub is_ready : Core → ℕ → Bool
is_ready core mip = not (bit_and mip core.mie == 0)
