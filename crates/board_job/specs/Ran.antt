-- What a round makes of a board with its grant and its pass.
use Rattle.std.specs.Prelude.{[], ◌++◌}
use Rattle.time_handle.specs.Grant.{left}
use Rattle.board_job.specs.BoardJob.{BoardJob}
use Rattle.board_job.specs.Slots.{stepped, spent}

-- the board after all slots of its grant, whose posts have gone out by its pass
abbrev pub ran : BoardJob → BoardJob
ran p = record {
  board = record (stepped p.board p.grant (left p.grant)) { posts = [] };
  grant = spent p.grant (left p.grant);
  pass = record p.pass { posted = p.pass.posted ++ (stepped p.board p.grant (left p.grant)).posts };
}
