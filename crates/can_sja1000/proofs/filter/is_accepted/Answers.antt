use Rattle.std.proofs.Common.{◌/◌, arith}
use Rattle.can_sja1000.proofs.FilterLemmas.{accepted_by_bits}
use Rattle.can_sja1000.proofs.filter.is_accepted.Goals as goal

pub returns : goal.returns
returns c =
    accepted_by_bits (c.args.id / 8) c.args.code c.args.mask (omega (arith, c.requires)) c.ranges.code.fits
    c.ranges.mask.fits
