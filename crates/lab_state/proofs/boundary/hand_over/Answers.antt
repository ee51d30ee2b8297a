-- One device more was handed the payload, unless it sent it.
use Rattle.std.proofs.Common.{ap, take}
use Rattle.lab_num.specs.declared.key.Member.{Member}
use Rattle.lab_num.specs.Route.{others}
use Rattle.lab_state.specs.Boundary.{Handed}
use Rattle.lab_state.specs.Inner.Standing.{outlines}
use Rattle.lab_state.proofs.RoundLemmas.{handed-more_others, outlines-members}
use Rattle.lab_state.proofs.boundary.hand_over.Goals as goal

abbrev nobody : Member
nobody = record { board = record { 0 = 0 }; dev = 0 }

pub hand_to_other-requires : goal.hand_to_other-requires
hand_to_other-requires g c =
    let at = c.args.at.0 in
    let start : Handed = record { boards = c.args.boards.now; notes = c.args.notes.now.items } in
    rw (
      ap (λ (h : Handed). outlines h.boards) c.loop-member.invariant,
      outlines-members at c.args.payload.now start
          (others (take c.loop-member.member-index c.args.members.now) c.args.from),
    )
    (c.requires c.loop-member.member-index nobody c.loop-member-test.true)

pub loop-member-preserved : goal.loop-member-preserved
loop-member-preserved g c =
    let start : Handed = record { boards = c.args.boards.now; notes = c.args.notes.now.items } in
    handed-more_others c.args.at.0 c.args.payload.now c.args.from start c.args.members.now
    c.loop-member.member-index nobody c.loop-member-test.true c.loop-member.invariant
    c.in_ok-hand_to_other.ensures
