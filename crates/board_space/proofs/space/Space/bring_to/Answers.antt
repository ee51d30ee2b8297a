use Rattle.board_space.proofs.StateLemmas.{plic_there}
use Rattle.board_space.proofs.space.Space.bring_to.Goals as goal

pub put_controller-requires : goal.put_controller-requires
put_controller-requires g c =
    rw c.put_timer.ensures (plic_there c.args.self.now c.args.s.now.plic c.plan-plan.ensures.fit c.requires.plic)
