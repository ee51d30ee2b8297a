-- The instructions of some are no more than those of all.
use Rattle.std.proofs.Common.{◌≡◌, ℕ, ◌+◌, ◌<◌, ◌≤◌, true, nat_lt, arith, take}
use Rattle.std.proofs.lemmas.Bool.Decides.{nat_tests}
use Rattle.std.proofs.lemmas.List.Sums.{sum_by-take-le}
use Rattle.std.specs.List.{sum_by}
use Rattle.sys_bus.specs.Limits.{most_speed}
use Rattle.repl_build.specs.Processors.{speed_of}
use Rattle.repl_build.proofs.processors.are_too_fast.Goals as goal

more : (m a b n t : ℕ) → m < t → t ≡ n + a → a ≤ b → true ≡ nat_lt m (n + b)
more m a b n t passes is le =
    let below : m < n + b = omega arith in
    grind (arith, nat_tests)

pub returns-then-total-from : goal.returns-then-total-from
returns-then-total-from c =
    more most_speed (sum_by speed_of (take c.loop-p.p-index c.args.before.now)) (sum_by speed_of c.args.before.now)
    c.args.speed c.loop-p.total (rw c.from.ensures at c.if-total-from.true) c.loop-p.invariant
    (sum_by-take-le speed_of c.args.before.now c.loop-p.p-index)
