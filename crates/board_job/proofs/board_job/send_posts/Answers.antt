use Rattle.std.proofs.Common.{ap, sym}
use Rattle.board.specs.View.{State}
use Rattle.board_job.proofs.SendLemmas.{begins, fewer_left, goes, may_go, some_left}
use Rattle.board_job.proofs.board_job.send_posts.Goals as goal
use Rattle.lab_num.proofs.ListLemmas.{first_none}

pub loop-post-init : goal.loop-post-init
loop-post-init g c = begins c.args.board.now c.args.pass.now c.requires

pub post-requires-clause-board : goal.post-requires-clause-board
post-requires-clause-board g c =
    (may_go c.args.board.now c.args.pass.now c.loop-post.board c.loop-post.pass c.in-Some.post c.in-Some.ensures
    c.loop-post.invariant).0

pub post-requires-clause-number : goal.post-requires-clause-number
post-requires-clause-number g c =
    (may_go c.args.board.now c.args.pass.now c.loop-post.board c.loop-post.pass c.in-Some.post c.in-Some.ensures
    c.loop-post.invariant).1

pub drop_post-requires : goal.drop_post-requires
drop_post-requires g c = some_left c.loop-post.board.posts c.in-Some.post c.in-Some.ensures

pub loop-post-smaller : goal.loop-post-smaller
loop-post-smaller g c =
    fewer_left c.loop-post.board.posts c.drop_post.new.self.posts c.in-Some.post c.in-Some.ensures
    (ap (λ (b : State). b.posts) c.drop_post.ensures)

pub loop-post-preserved : goal.loop-post-preserved
loop-post-preserved g c =
    goes c.args.board.now c.args.pass.now c.loop-post.board c.loop-post.pass c.in-Some.post c.in-Some.ensures
    c.loop-post.invariant c.drop_post.new.self c.post.new.self c.drop_post.ensures c.in-Ok.ensures.added

-- no post is left
pub returns-clause-all : goal.returns-clause-all
returns-clause-all g c = λ _. first_none c.loop-post.board.posts (sym c.in_default.ensures)
