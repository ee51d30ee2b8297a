-- One board more is brought to its state.
use Rattle.std.proofs.Common.{◌∙◌, ap, arith}
use Rattle.std.proofs.lemmas.List.{take_all}
use Rattle.lab_state.specs.Resumed.{resumed_board}
use Rattle.lab_state.specs.Inner.Lending.{each_by}
use Rattle.lab_state.proofs.ResumeLemmas.{none_by, by-zip, next_fits, one_more_resumed}
use Rattle.lab_state.proofs.resume.put_states.Goals as goal

pub loop-n-init : goal.loop-n-init
loop-n-init g c = none_by resumed_board c.args.boards.now

pub resume-requires : goal.resume-requires
resume-requires g c =
    next_fits c.args.boards.now c.args.states.now c.loop-n.n c.index-boards-n.result c.loop-n.invariant
    c.requires.count c.loop-n-test.true c.requires.fit c.index-states-n.result c.index-states-n.is

pub loop-n-preserved : goal.loop-n-preserved
loop-n-preserved g c =
    one_more_resumed c.args.boards.now c.args.states.now c.loop-n.n c.index-boards-n.result c.loop-n.invariant
    c.requires.count c.loop-n-test.true c.index-states-n.result c.index-states-n.is c.resume.ensures

pub returns : goal.returns
returns g c =
    c.loop-n.invariant
    ∙ ap (each_by resumed_board c.args.boards.now)
    (take_all c.loop-n.n c.args.states.now (omega (arith, c.requires.count, c.loop-n-test.false)))
    ∙ by-zip resumed_board c.args.boards.now c.args.states.now c.requires.count
