-- One member more.
use Rattle.std.proofs.Common.{◌∙◌, refl, ap, map}
use Rattle.std.proofs.lemmas.List.{take_all}
use Rattle.lab_state.specs.Inner.Time.{number_of, numbers_of, speed_of}
use Rattle.lab_state.proofs.ResumeLemmas.{one_member_more}
use Rattle.lab_state.proofs.resume.source_at.Goals as goal

pub loop-board-init : goal.loop-board-init
loop-board-init g c = rw c.at-source.ensures (record { closed = refl; end = refl; speeds = refl })

pub add-member-requires-clause-closed : goal.add-member-requires-clause-closed
add-member-requires-clause-closed g c = c.loop-board.invariant.closed

pub loop-board-preserved : goal.loop-board-preserved
loop-board-preserved g c =
    let more =
    one_member_more c.loop-board.source c.add-member.new.self c.args.boards.now c.loop-board.board-index
    c.board-item.result c.speed.result c.add-member.result c.add-member.ensures.full c.add-member.ensures.added
    (c.speed.ensures.value ∙ ap (λ b. speed_of (number_of b)) c.board-item.is) c.loop-board-test.true c.requires.few
    c.loop-board.invariant.speeds in
    record {
      closed = rw more.0 c.loop-board.invariant.closed;
      end = rw more.0 c.loop-board.invariant.end;
      speeds = more.1;
    }

pub returns-clause-closed : goal.returns-clause-closed
returns-clause-closed g c = c.loop-board.invariant.closed

pub returns-clause-end : goal.returns-clause-end
returns-clause-end g c = c.loop-board.invariant.end

pub returns-clause-speeds : goal.returns-clause-speeds
returns-clause-speeds g c =
    c.loop-board.invariant.speeds
    ∙ ap (λ boards. map speed_of (numbers_of boards))
    (take_all c.loop-board.board-index c.args.boards.now c.loop-board-test.false)
