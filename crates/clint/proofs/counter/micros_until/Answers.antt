use Rattle.std.proofs.Common.{◌≡◌, ℕ, ◌+◌, ◌-◌, ◌*◌, ◌/◌, ◌≤◌, refl, arith}
use Rattle.std.proofs.lemmas.Nat.{div-add-mod', mod_below}
use Rattle.clint.proofs.ChangeLemmas.{ticks-before, ticks-reached}
use Rattle.clint.proofs.counter.micros_until.Goals as goal

-- the quotient, rounded up
rounded_up :
    (frequency rises first : ℕ) → 1 ≤ frequency → first ≡ (rises * 1000000 + (frequency - 1)) / frequency →
    (first * frequency ≤ rises * 1000000 + (frequency - 1)) × (rises * 1000000 ≤ first * frequency)
rounded_up frequency rises first positive is =
    let sum = rises * 1000000 + (frequency - 1) in
    let whole = div-add-mod' sum frequency in
    let rest = mod_below sum frequency positive in
    rw is (omega (arith, whole, rest), omega (arith, whole, rest))

pub returns-clause-before : goal.returns-clause-before
returns-clause-before c =
    rw (c.from.ensures, c.from-hertz.ensures)
    (λ t before. ticks-before _ _ _ _ c.requires.frequency (rounded_up _ _ _ c.requires.frequency refl).0 before)

pub returns-clause-reached : goal.returns-clause-reached
returns-clause-reached c =
    rw (c.from.ensures, c.from-hertz.ensures)
    (ticks-reached _ _ _ (rounded_up _ _ _ c.requires.frequency refl).1)
