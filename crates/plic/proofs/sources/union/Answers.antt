use Rattle.plic.proofs.SetLemmas.{union-or}
use Rattle.plic.proofs.sources.union.Goals as goal

pub returns : goal.returns
returns c = union-or c.args.a c.args.b c.ranges.a.fits c.ranges.b.fits
