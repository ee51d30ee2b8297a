-- Boards whose processors all wait or are halted, and go on so.
use Rattle.std.specs.Prelude.{◌≡◌, ℕ, ◌+◌, ◌%◌, ◌^◌, ◌<◌, ◌==◌, ◌&&◌, ◌||◌, not, Bool, IsTrue, if◌then◌else◌, length}
use Rattle.std.specs.Prelude.{List, map, count_by}
use Rattle.std.specs.List.{list_all, range_with_len}
use Rattle.lab_num.specs.Paid.{slot_at}
use Rattle.rv_hart.specs.Core.{Core}
use Rattle.rv_hart.specs.Trap.{is_ready}
use Rattle.board_space.specs.Lines.{sampled, timer_up, mip_of}
use Rattle.board.specs.View.{View, core_at}

-- the slots of a processor pass by themselves where these interrupts are pending: it is halted, or goes on waiting
abbrev pub is_idle : Core → ℕ → Bool
is_idle core mip = core.halted || (core.waiting && not (is_ready core mip))

-- all processors go on so as long as the line of the timer interrupt is up, or is not: to sample changes nothing, and
-- no interrupt is pending and enabled
pub record IsIdle (v : View) (timer : Bool) : Type 0 where
  pub settled : sampled v.space ≡ v.space
  pub rests : (hart : ℕ) → hart < length v.cores → IsTrue (is_idle (core_at v hart) (mip_of v.space timer hart))

-- that line is so in each of the slots `a` to `a + n - 1` of the grant that begins at `from`
abbrev pub IsStillFor : View → Bool → ℕ → ℕ → ℕ → Type 0
IsStillFor v timer from a n =
    (i : ℕ) → i < n → timer_up v.space.timer (slot_at from v.numbers.speed (a + i)) ≡ timer

-- all processors are halted
abbrev pub all_halted : List Core → Bool
all_halted cores = list_all (λ core. core.halted) cores

-- how many of the next n slots a processor takes, where so many take them in turn from `next` on
abbrev pub turns_of : ℕ → ℕ → ℕ → ℕ → ℕ
turns_of harts next n hart = count_by (λ i. (next + i) % harts == hart) (range_with_len 0 n)

-- a processor that so many of its slots have passed by: its cycles count, unless it is halted
abbrev pub core_passed : ℕ → Core → Core
core_passed n core = if core.halted then core else record core { mcycle = (core.mcycle + n) % 2 ^ 64 }

-- a board that so many slots have passed by
abbrev pub passed : View → ℕ → View
passed v n = record v {
  cores = map (λ hart. core_passed (turns_of (length v.cores) v.next n hart) (core_at v hart))
      (range_with_len 0 (length v.cores));
  next = (v.next + n) % length v.cores;
}
