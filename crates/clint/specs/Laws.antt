-- Laws of every timer.
use Rattle.std.specs.Prelude.{◌≡◌, ◌≢◌, ℕ, ◌^◌, ◌<◌, ◌≤◌, true, false}
use Rattle.clint.specs.Clint.{Timer, mtime, timer_line}

-- a timer that there can be: registers of 64 bits, and at most a thousand million hertz
pub record IsTimer (c : Timer) : Type 0 where
  pub frequency : c.frequency ≤ 1000000000
  pub mtimecmp : c.state.mtimecmp < 2 ^ 64
  pub offset : c.state.offset < 2 ^ 64

-- While no register is stored, the line of the timer interrupt changes at most twice in the 10^10 microseconds that
-- there are: where it changes from a to b and from b to c, it is the same at c and at every later d.
abbrev pub ChangesTwice : Type 0
ChangesTwice =
    (timer : Timer) (a b c d : ℕ) → IsTimer timer → a ≤ b → b ≤ c → c ≤ d → d ≤ 10000000000 →
    timer_line timer a ≢ timer_line timer b → timer_line timer b ≢ timer_line timer c →
    timer_line timer c ≡ timer_line timer d

-- It goes down only where mtime wraps.
abbrev pub FallsAtWraps : Type 0
FallsAtWraps =
    (timer : Timer) (a b : ℕ) → timer_line timer a ≡ true → timer_line timer b ≡ false → mtime timer b < mtime timer a
