-- What is remembered of the lines of a board.
use Rattle.std.specs.Prelude.{◌≡◌, ℕ, ◌<◌, length, Bool, true, false, List, slice_index}
use Rattle.std.specs.Prelude.{Option, None, Some}
use Rattle.rv_hart.specs.declared.csr.Lines.{Lines}
use Rattle.board_space.specs.Lines.{sampled, timer_up, mip_of, mtime_of}
use Rattle.board_space.specs.Space.{Space}
use Rattle.board_space.specs.declared.remembered.Remembered.{Remembered}

-- the lines that are remembered of a processor
abbrev pub remembered_lines : Remembered → ℕ → Lines
remembered_lines r hart = record { mip = slice_index r.mips hart; mtime = r.mtime }

-- these are what the processors of a board see, if the line of the timer interrupt is up or not
abbrev pub AreMips : Space → Bool → List ℕ → Type 0
AreMips s timer mips = (hart : ℕ) → hart < length s.plan.cpus → slice_index mips hart ≡ mip_of s timer hart

-- what reading the lines gives
pub record IsRead (s : Space) (r : Remembered) : Type 0 where
  pub timer : r.timer ≡ timer_up s.timer r.at.0
  pub mips : AreMips s r.timer r.mips
  pub mtime : r.mtime ≡ mtime_of s.timer r.at.0

-- what is remembered is what sampling and reading the lines would give
abbrev pub IsRight : Space → Option Remembered → Type 0
IsRight s None = Unit {0}
IsRight s (Some r) = (sampled s ≡ s) × IsRead s r

-- what is still remembered after the line of a device was up or not before and after something
abbrev pub still : Option Remembered → Bool → Bool → Option Remembered
still r true true = r
still r false false = r
still r _ _ = None

-- what is remembered of the line of a device is right
abbrev pub IsLine : Option Bool → Bool → Type 0
IsLine None line = Unit {0}
IsLine (Some up) line = up ≡ line
