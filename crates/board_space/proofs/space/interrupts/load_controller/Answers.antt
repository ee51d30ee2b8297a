use Rattle.board_space.proofs.LineLemmas.{controller_fits}
use Rattle.board_space.proofs.space.interrupts.load_controller.Goals as goal

pub returns-in-Some-clause-fits : goal.returns-in-Some-clause-fits
returns-in-Some-clause-fits c =
    controller_fits _ c.args.at c.args.width c.load.result c.requires c.load.type_inv c.load.ensures.value
