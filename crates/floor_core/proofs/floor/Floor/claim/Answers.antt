use Rattle.std.proofs.Common.{refl}
use Rattle.std.proofs.lemmas.Result.{on_ok_weaker}
use Rattle.floor_core.specs.Events.{MayClaim, claimed}
use Rattle.floor_core.proofs.BoardLemmas.{placed, within}
use Rattle.floor_core.proofs.floor.Floor.claim.Goals as goal

pub returns-clause-claimed : goal.returns-clause-claimed
returns-clause-claimed g c =
    rw (← c.self.view_is)
    (on_ok_weaker c.claim.result
    (λ is. let boards =
    placed (claimed g.J.Job.state_after c.args.worker c.args.slots) c.self.inside.desks.items c.self.inside.desks.items
    c.args.board.0 c.from.result c.index_mut.result.now c.claim.new.self refl c.from.ensures
    (within (MayClaim c.args.slots) c.self.inside.desks.items c.args.board.0 (rw (← c.self.view_is) at c.requires))
    c.index_mut.ensures.value is in
    λ k. record { boards = boards k; mail = c.self.inside.mail.items; is_ended = c.self.inside.is_ended })
    c.claim.ensures)
