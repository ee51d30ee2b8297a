use Rattle.std.proofs.Common.{refl}
use Rattle.floor_core.specs.Events.{MayReport, at_home}
use Rattle.floor_core.proofs.BoardLemmas.{placed, within}
use Rattle.floor_core.proofs.floor.Floor.report.Goals as goal

pub returns-clause-reported : goal.returns-clause-reported
returns-clause-reported g c =
    rw (← c.self.view_is)
    (let boards =
    placed at_home c.self.inside.desks.items c.self.inside.desks.items
    c.args.board.0 c.from.result c.index_mut.result.now c.report.new.self refl c.from.ensures
    (within (MayReport c.args.worker) c.self.inside.desks.items c.args.board.0 (rw (← c.self.view_is) at c.requires))
    c.index_mut.ensures.value c.report.ensures in
    λ k. record { boards = boards k; mail = c.self.inside.mail.items; is_ended = c.self.inside.is_ended })
