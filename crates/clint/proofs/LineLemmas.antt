-- How often the line of the timer interrupt changes.
use Rattle.std.proofs.Common.{◌≡◌, ◌≢◌, ℕ, ◌*◌, ◌^◌, ◌<◌, ◌≤◌, Bool, true, false, refl, arith}
use Rattle.std.proofs.lemmas.Bool.Decides.{nat_tests}
use Rattle.std.proofs.Math.Nat.{mul-le-mul, mul-le-mul_right}
use Rattle.clint.specs.Laws.{ChangesTwice, FallsAtWraps}
use Rattle.clint.specs.Mtime.{ticks, counter}

-- how far a counter has come, and what it shows
pub ticks-rise : (frequency a b : ℕ) → a ≤ b → ticks frequency a ≤ ticks frequency b
unfolding ticks
ticks-rise frequency a b h = let more : a * frequency ≤ b * frequency = mul-le-mul_right frequency h in omega arith

ticks-most : (frequency t : ℕ) → frequency ≤ 1000000000 → t ≤ 10000000000 → ticks frequency t ≤ 10000000000000
unfolding ticks
ticks-most frequency t h k =
    let most : t * frequency ≤ 10000000000 * 1000000000 = mul-le-mul k h in omega (arith, most)

-- four counts of a counter that wraps at most once: where it was at a bound, fell below it and came to it again, it
-- stays; and where it rose to the bound and fell, it stays below
stays_up :
    (bound o a b c d : ℕ) → o < 2 ^ 64 → a ≤ b → b ≤ c → c ≤ d → d ≤ 10000000000000 →
    bound ≤ counter o a → counter o b < bound → bound ≤ counter o c → bound ≤ counter o d
unfolding counter
stays_up bound o a b c d fits ab bc cd most up down again = omega arith

stays_down :
    (bound o a b c d : ℕ) → o < 2 ^ 64 → a ≤ b → b ≤ c → c ≤ d → d ≤ 10000000000000 →
    counter o a < bound → bound ≤ counter o b → counter o c < bound → counter o d < bound
unfolding counter
stays_down bound o a b c d fits ab bc cd most down up again = omega arith

alternate :
    (a b c d : Bool) → (a ≡ true → b ≡ false → c ≡ true → d ≡ true) →
    (a ≡ false → b ≡ true → c ≡ false → d ≡ false) → a ≢ b → b ≢ c → c ≡ d
alternate true true c d up down ab bc = absurd (ab refl)
alternate false false c d up down ab bc = absurd (ab refl)
alternate true false false d up down ab bc = absurd (bc refl)
alternate false true true d up down ab bc = absurd (bc refl)
alternate true false true true up down ab bc = refl
alternate true false true false up down ab bc = absurd (let no = up refl refl refl in cc)
alternate false true false false up down ab bc = refl
alternate false true false true up down ab bc = absurd (let no = down refl refl refl in cc)

pub changes_twice : ChangesTwice
changes_twice timer a b c d is ab bc cd most =
    let f = timer.frequency in
    let at_b = ticks-rise f a b ab in
    let at_c = ticks-rise f b c bc in
    let at_d = ticks-rise f c d cd in
    let last = ticks-most f d is.frequency most in
    alternate _ _ _ _
    (λ first second third.
    let up = stays_up timer.state.mtimecmp timer.state.offset _ _ _ _ is.offset at_b at_c at_d last
    (grind (arith, nat_tests, first)) (grind (arith, nat_tests, second)) (grind (arith, nat_tests, third)) in
    grind (arith, nat_tests, up))
    (λ first second third.
    let down = stays_down timer.state.mtimecmp timer.state.offset _ _ _ _ is.offset at_b at_c at_d last
    (grind (arith, nat_tests, first)) (grind (arith, nat_tests, second)) (grind (arith, nat_tests, third)) in
    grind (arith, nat_tests, down))

pub falls_at_wraps : FallsAtWraps
falls_at_wraps timer a b up down = grind (arith, nat_tests, up, down)
