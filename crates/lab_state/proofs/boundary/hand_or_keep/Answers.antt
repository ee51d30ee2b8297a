-- The members of a hub are devices of boards.
use Rattle.std.proofs.Common.{◌∙◌}
use Rattle.lab_state.specs.Inner.Standing.{outlines}
use Rattle.lab_state.proofs.RoundLemmas.{hub_devices}
use Rattle.lab_state.proofs.boundary.hand_or_keep.Goals as goal

pub hand_over-requires : goal.hand_over-requires
hand_over-requires g c =
    rw (c.members.ensures ∙ c.in-Some.ensures.members)
    (hub_devices (outlines c.args.boards.now) c.args.hubs.now c.args.post.now.from c.requires)
