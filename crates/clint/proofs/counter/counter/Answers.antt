-- A sum wraps as the sum with what is left of its second part.
use Rattle.std.proofs.Math.Nat.{add-mod-mod}
use Rattle.clint.specs.Mtime.{counter, ticks}
use Rattle.clint.proofs.counter.counter.Goals as goal

pub returns : goal.returns
unfolding counter
returns c =
    rw c.ticks.ensures
    (add-mod-mod c.args.offset (ticks c.args.frequency c.args.micros) 18446744073709551616)
