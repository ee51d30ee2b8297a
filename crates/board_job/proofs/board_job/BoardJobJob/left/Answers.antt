use Rattle.std.proofs.Common.{◌∙◌, sym}
use Rattle.time_handle.specs.Grant.{left}
use Rattle.board_job.proofs.SlotLemmas.{length-coming}
use Rattle.board_job.proofs.board_job.BoardJobJob.left.Goals as goal

pub returns : goal.returns
returns g c =
    rw (← c.self.view_is)
    (c.left.ensures.value
    ∙ sym (length-coming c.self.inside.board.view c.self.inside.handle (left c.self.inside.handle)))
