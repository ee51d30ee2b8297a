use Rattle.std.proofs.Common.{arith}
use Rattle.can_sja1000.proofs.HeldLemmas.{length-held}
use Rattle.can_sja1000.proofs.receiver.keep.Goals as goal

pub push-requires : goal.push-requires
push-requires c = omega (arith, c.requires.room, length-held c.args.can.now.received)
