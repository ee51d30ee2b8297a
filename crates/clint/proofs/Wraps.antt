-- How a counter of 64 bits is computed: whole seconds apart from the rest, and the offset with which it shows a value.
use Rattle.std.proofs.Common.{◌≡◌, ℕ, ◌+◌, ◌-◌, ◌*◌, ◌/◌, ◌%◌, ◌<◌, ◌∙◌, ap, sym, arith}
use Rattle.std.proofs.Math.Nat.{add-mul, mul_right_comm, mul-add-div_right, mod-add-mod, add-mul-mod_self_right}
use Rattle.std.proofs.Math.Nat.{mod-eq_of_lt}
use Rattle.std.proofs.lemmas.Nat.{div-add-mod', mod_below}

-- a quotient, with a multiple of the divisor taken out of the dividend
pub div-apart : (d : ℕ) (positive : 0 < d) (n f : ℕ) → n * f / d ≡ n / d * f + n % d * f / d
div-apart d positive n f =
    ap (λ (x : ℕ). x * f / d) (sym (div-add-mod' n d))
    ∙ ap (λ (x : ℕ). x / d) (add-mul (n / d * d) (n % d) f ∙ ap (λ (x : ℕ). x + n % d * f) (mul_right_comm (n / d) d f))
    ∙ mul-add-div_right positive (n / d * f) (n % d * f)

-- what is added to a number to come round to another, and the number itself, give the other
pub come-round : (m value ticks : ℕ) (fits : value < m) → ((value + (m - ticks % m)) % m + ticks) % m ≡ value
come-round m value ticks fits =
    let positive : 0 < m = omega arith in
    let rounds : value + (m - ticks % m) + ticks ≡ value + (ticks / m + 1) * m =
    omega (arith, div-add-mod' ticks m, add-mul (ticks / m) 1 m, mod_below ticks m positive) in
    mod-add-mod (value + (m - ticks % m)) m ticks
    ∙ ap (λ (x : ℕ). x % m) rounds
    ∙ add-mul-mod_self_right value (ticks / m + 1) m
    ∙ mod-eq_of_lt fits
