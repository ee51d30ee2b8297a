-- The whole seconds and the rest give the quotient, and the sum wraps as it does.
use Rattle.std.proofs.Common.{◌%◌, ◌*◌, ◌/◌, ℕ, ◌∙◌, ap, sym, arith}
use Rattle.std.proofs.Math.Nat.{mod-add-mod}
use Rattle.clint.specs.Mtime.{ticks}
use Rattle.clint.proofs.Wraps.{div-apart}
use Rattle.clint.proofs.counter.ticks.Goals as goal

pub returns : goal.returns
unfolding ticks
returns c =
    rw c.from-hertz.ensures
    (mod-add-mod (c.args.micros / 1000000 * c.args.frequency) 18446744073709551616
    (c.args.micros % 1000000 * c.args.frequency / 1000000)
    ∙ ap (λ (n : ℕ). n % 18446744073709551616)
    (sym (div-apart 1000000 (omega arith) c.args.micros c.args.frequency)))
