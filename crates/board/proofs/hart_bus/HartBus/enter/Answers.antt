use Rattle.std.proofs.Common.{◌∙◌, ap}
use Rattle.std.proofs.lemmas.Result.{on_ok_weaker, on_err_weaker}
use Rattle.board.specs.HartBus.{HartBus, entered}
use Rattle.board.proofs.hart_bus.HartBus.enter.Goals as goal

pub returns-clause-ok : goal.returns-clause-ok
returns-clause-ok g c =
    on_ok_weaker c.enter.result
    (λ ok. ok c.self.inside.space ∙ ap {A = HartBus} (λ w. entered w c.args.note) c.self.view_is) c.enter.ensures.ok

pub returns-clause-err : goal.returns-clause-err
returns-clause-err g c =
    on_err_weaker c.enter.result (λ err. err c.self.inside.space ∙ c.self.view_is) c.enter.ensures.err
