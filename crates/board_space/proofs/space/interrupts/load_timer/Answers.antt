use Rattle.board_space.proofs.LineLemmas.{timer_fits}
use Rattle.board_space.proofs.space.interrupts.load_timer.Goals as goal

pub returns-in-Some-clause-fits : goal.returns-in-Some-clause-fits
returns-in-Some-clause-fits c =
    timer_fits c.in-Some.timer c.args.at c.args.width c.args.now.0 c.load.result c.requires c.load.type_inv
    c.load.ensures
