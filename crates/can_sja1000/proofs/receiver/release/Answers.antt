use Rattle.std.proofs.Common.{arith}
use Rattle.can_sja1000.proofs.HeldLemmas.{held-drop_first}
use Rattle.can_sja1000.proofs.receiver.release.Goals as goal

pub returns-then-is_set-clause-valid : goal.returns-then-is_set-clause-valid
returns-then-is_set-clause-valid c = record {
  control = c.requires.control;
  divider = c.requires.divider;
  received =
      rw c.pop_first-released.ensures.rest
      (omega (arith, held-drop_first c.args.can.now.received, c.requires.received));
}

pub returns-else-is_more_held-clause-valid : goal.returns-else-is_more_held-clause-valid
returns-else-is_more_held-clause-valid c = record {
  control = c.requires.control;
  divider = c.requires.divider;
  received =
      rw c.pop_first-released.ensures.rest
      (omega (arith, held-drop_first c.args.can.now.received, c.requires.received));
}
