use Rattle.plic.proofs.SetLemmas.{with_word-or}
use Rattle.plic.proofs.sources.with_word.Goals as goal

pub returns : goal.returns
returns c =
    rw (c.all_sources.ensures, c.from.ensures)
    (with_word-or c.args.n c.args.set c.args.k c.args.word c.ranges.set.fits c.ranges.word.fits c.requires.word)
