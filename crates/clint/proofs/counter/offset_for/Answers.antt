-- The offset is the way from the ticks round to the value.
use Rattle.std.proofs.Common.{refl}
use Rattle.clint.specs.Mtime.{counter, offset_for, ticks}
use Rattle.clint.proofs.Wraps.{come-round}
use Rattle.clint.proofs.counter.offset_for.Goals as goal

pub returns-clause-offset : goal.returns-clause-offset
unfolding offset_for
returns-clause-offset c = rw c.ticks.ensures refl

pub returns-clause-shown : goal.returns-clause-shown
unfolding counter
returns-clause-shown c =
    rw c.ticks.ensures
    (come-round 18446744073709551616 c.args.value (ticks c.args.frequency c.args.micros) c.ranges.value.fits)
