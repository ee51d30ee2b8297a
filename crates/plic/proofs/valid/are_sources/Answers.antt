use Rattle.std.proofs.Common.{eqb-true, eq-eqb}
use Rattle.plic.proofs.SetLemmas.{AreSources-from_and, and-AreSources}
use Rattle.plic.proofs.valid.are_sources.Goals as goal

pub returns : goal.returns
returns c =
    rw c.all_sources.ensures (
      λ t. AreSources-from_and c.args.n c.args.set (eqb-true _ _ t),
      λ all. eq-eqb _ _ (and-AreSources c.args.n c.args.set c.ranges.set.fits all),
    )
