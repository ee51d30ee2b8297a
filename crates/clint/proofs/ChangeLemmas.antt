-- Until when the line of the timer interrupt stays.
use Rattle.std.proofs.Common.{ℕ, ◌+◌, ◌-◌, ◌*◌, ◌^◌, ◌<◌, ◌≤◌, arith}
use Rattle.std.proofs.lemmas.Bool.Decides.{nat_tests}
use Rattle.std.proofs.Math.Nat.{mul-le-mul_right}
use Rattle.clint.specs.Mtime.{ticks, counter}
use Rattle.clint.specs.Clint.{Timer, mtime}
use Rattle.clint.specs.FirstChange.{IsStill}
use Rattle.clint.proofs.LineLemmas.{ticks-rise}

-- the least microsecond whose product with the frequency is enough
pub ticks-before :
    (frequency t rises first : ℕ) → 1 ≤ frequency → first * frequency ≤ rises * 1000000 + (frequency - 1) → t < first →
    ticks frequency t < rises
unfolding ticks
ticks-before frequency t rises first positive h before =
    let more : (t + 1) * frequency ≤ first * frequency = mul-le-mul_right frequency (omega arith) in
    omega (arith, more, h)

pub ticks-reached :
    (frequency rises first : ℕ) → rises * 1000000 ≤ first * frequency → rises ≤ ticks frequency first
unfolding ticks
ticks-reached frequency rises first h = omega (arith, h)

-- a counter that has risen more often was read later
pub later :
    (frequency now rises first : ℕ) → ticks frequency now < rises → rises ≤ ticks frequency first → now < first
later frequency now rises first below reached = grind (arith, below, reached, ticks-rise frequency first now)

-- what a counter shows before it comes to a bound above it, and before it wraps
stays-below :
    (bound o a b : ℕ) → bound < 2 ^ 64 → a ≤ b → counter o a < bound → b < a + (bound - counter o a) →
    counter o b < bound
unfolding counter
stays-below bound o a b fits ab below near = omega arith

stays-above :
    (bound o a b : ℕ) → a ≤ b → bound ≤ counter o a → b < a + (2 ^ 64 - counter o a) → bound ≤ counter o b
unfolding counter
stays-above bound o a b ab above near = omega arith

-- the line before the counter comes to mtimecmp
pub still-below :
    (c : Timer) (now first : ℕ) → c.state.mtimecmp < 2 ^ 64 → mtime c now < c.state.mtimecmp →
    ((t : ℕ) → t < first → ticks c.frequency t < ticks c.frequency now + (c.state.mtimecmp - mtime c now)) →
    IsStill c now first
still-below c now first fits below near = λ t from before.
    let more = ticks-rise c.frequency now t from in
    let low = stays-below c.state.mtimecmp c.state.offset _ _ fits more below (near t before) in
    grind (arith, nat_tests, low, below)

-- the line before the counter wraps
pub still-above :
    (c : Timer) (now first : ℕ) → c.state.mtimecmp ≤ mtime c now →
    ((t : ℕ) → t < first → ticks c.frequency t < ticks c.frequency now + (2 ^ 64 - mtime c now)) →
    IsStill c now first
still-above c now first above near = λ t from before.
    let more = ticks-rise c.frequency now t from in
    let high = stays-above c.state.mtimecmp c.state.offset _ _ more above (near t before) in
    grind (arith, nat_tests, high, above)
