use Rattle.plic.proofs.SetLemmas.{raised-and}
use Rattle.plic.proofs.sources.raised.Goals as goal

pub returns : goal.returns
returns c =
    rw c.all_sources.ensures
    (raised-and c.args.n c.args.shut c.args.lines c.ranges.lines.fits c.ranges.shut.fits)
