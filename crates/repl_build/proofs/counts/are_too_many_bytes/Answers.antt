-- The bytes of some are no more than those of all.
use Rattle.std.proofs.Common.{◌≡◌, ℕ, ◌+◌, ◌<◌, ◌≤◌, true, nat_lt, arith, take}
use Rattle.std.proofs.lemmas.Bool.Decides.{nat_tests}
use Rattle.std.proofs.lemmas.List.Sums.{sum_by-take-le}
use Rattle.std.specs.List.{sum_by}
use Rattle.sys_bus.specs.Limits.{most_memory}
use Rattle.repl_build.specs.Counts.{bytes_of}
use Rattle.repl_build.proofs.counts.are_too_many_bytes.Goals as goal

more : (m a b n t : ℕ) → m < t → t ≡ n + a → a ≤ b → true ≡ nat_lt m (n + b)
more m a b n t passes is le =
    let below : m < n + b = omega arith in
    grind (arith, nat_tests)

pub returns-then-total-gt-MOST_MEMORY : goal.returns-then-total-gt-MOST_MEMORY
returns-then-total-gt-MOST_MEMORY c =
    more most_memory (sum_by bytes_of (take c.loop-p.p-index c.args.before.now)) (sum_by bytes_of c.args.before.now)
    c.args.bytes c.loop-p.total c.if-total-gt-MOST_MEMORY.true c.loop-p.invariant
    (sum_by-take-le bytes_of c.args.before.now c.loop-p.p-index)
