-- The CLINT of a board, with the registers of one hart whatever the number of harts: its timer and its software
-- interrupt (RISC-V Privileged Architecture 20211203, 3.1.9 and 3.2.1), at the addresses that boards have them at.
use Rattle.std.specs.Prelude.{ℕ, ◌-◌, ◌%◌, ◌^◌, ◌==◌, ◌&&◌, nat_le, Bool, false, if◌then◌else◌, List, [], ◌∷◌, find}
use Rattle.std.specs.Prelude.{unwrap_or}
use Rattle.clint.specs.declared.state.ClintState.{ClintState}
use Rattle.lab_num.specs.Halves.{low, high, with_low, with_high}
use Rattle.clint.specs.Mtime.{ticks, counter, offset_for}

-- a CLINT: the hertz of its counter, which nothing changes, and its state
pub record Timer : Type 0 where
  pub frequency : ℕ
  pub state : ClintState

abbrev pub clint_reset : ClintState
clint_reset = record { msip = false; mtimecmp = 2 ^ 64 - 1; offset = 0 }

-- mtime at a microsecond of lab time
abbrev pub mtime : Timer → ℕ → ℕ
mtime c now = counter c.state.offset (ticks c.frequency now)

-- the state in which mtime shows a value at a microsecond
abbrev pub showing : Timer → ℕ → ℕ → ClintState
showing c now value = record c.state { offset = offset_for value (ticks c.frequency now) }

-- the line of the software interrupt
abbrev pub software_line : Timer → Bool
software_line c = c.state.msip

-- the line of the timer interrupt: up while mtime has come to mtimecmp or is past it (3.2.1)
abbrev pub timer_line : Timer → ℕ → Bool
timer_line c now = nat_le c.state.mtimecmp (mtime c now)

-- one register of 32 bits: its address, what a load gives, and what a store of a word leaves
pub record Register : Type 0 where
  pub address : ℕ
  pub value : Timer → ℕ → ℕ
  pub stored : Timer → ℕ → ℕ → ClintState

abbrev pub register : ℕ → (Timer → ℕ → ℕ) → (Timer → ℕ → ℕ → ClintState) → Register
register address value stored = record { address = address; value = value; stored = stored }

-- msip: bit 0 alone is there
abbrev pub msip : Timer → ℕ
msip c = if c.state.msip then 1 else 0

abbrev pub msip_stored : Timer → ℕ → ClintState
msip_stored c word = record c.state { msip = word % 2 == 1 }

-- mtimecmp after a store
abbrev pub compared_with : Timer → ℕ → ClintState
compared_with c value = record c.state { mtimecmp = value }

-- the registers, where t is the microsecond of the access and w the word that is stored
abbrev pub registers : List Register
registers =
    -- msip
    register 0x0000 (λ c t. msip c) (λ c t w. msip_stored c w) ∷
    -- mtimecmp, low and high
    register 0x4000 (λ c t. low c.state.mtimecmp) (λ c t w. compared_with c (with_low c.state.mtimecmp w)) ∷
    register 0x4004 (λ c t. high c.state.mtimecmp) (λ c t w. compared_with c (with_high c.state.mtimecmp w)) ∷
    -- mtime, low and high
    register 0xBFF8 (λ c t. low (mtime c t)) (λ c t w. showing c t (with_low (mtime c t) w)) ∷
    register 0xBFFC (λ c t. high (mtime c t)) (λ c t w. showing c t (with_high (mtime c t) w)) ∷
    []

-- what stands at an address without a register
abbrev pub no_register : Register
no_register = register 0 (λ c t. 0) (λ c t w. c.state)

-- the register that an access reaches: words alone reach one
abbrev pub reached : ℕ → ℕ → Register
reached at width =
    if width == 4 then unwrap_or (find (λ r. r.address == at) registers) no_register else no_register

-- a load
unfoldable pub clint_load : Timer → ℕ → ℕ → ℕ → ℕ
clint_load c at width now = (reached at width).value c now

-- the state after a store
unfoldable pub clint_stored : Timer → ℕ → ℕ → ℕ → ℕ → ClintState
clint_stored c at width value now = (reached at width).stored c now value

-- mtime after a store, at the microsecond of the store
unfoldable pub mtime_stored : Timer → ℕ → ℕ → ℕ → ℕ → ℕ
mtime_stored c at width value now =
    if width == 4 && at == 0xBFF8 then with_low (mtime c now) value
    else if width == 4 && at == 0xBFFC then with_high (mtime c now) value
    else mtime c now
