-- A set of 128 sources has none from 128 on.
use Rattle.std.proofs.Common.{rules}
use Rattle.plic.proofs.SetLemmas.{has-above}
use Rattle.plic.proofs.sources.has.Goals as goal

pub returns-else-source-lt128-clause-has : goal.returns-else-source-lt128-clause-has
returns-else-source-lt128-clause-has c =
    rw (has-above c.args.set c.args.source c.ranges.set.fits c.if-source-lt128.false)
    (search rules)
