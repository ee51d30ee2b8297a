use Rattle.plic.proofs.SetLemmas.{without-and}
use Rattle.plic.proofs.sources.without.Goals as goal

pub returns : goal.returns
returns c = without-and c.args.set c.args.source c.ranges.set.fits c.requires
