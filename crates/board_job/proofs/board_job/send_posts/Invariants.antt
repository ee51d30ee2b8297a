-- The posts that are sent so far were the first of the board, and all else is as it was.
use Rattle.std.proofs.Common.{length}
use Rattle.board_job.proofs.SendLemmas.{Sending}
use Rattle.board_job.proofs.board_job.send_posts.Given as goal

abbrev pub invariant-loop-post : goal.invariant-loop-post
invariant-loop-post g l = Sending l.fn.board l.fn.pass l.board l.pass

abbrev pub decreases-loop-post : goal.decreases-loop-post
decreases-loop-post g l = length l.board.posts
