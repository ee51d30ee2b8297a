use Rattle.board_job.proofs.PostLemmas.{one_dropped}
use Rattle.board_job.proofs.board_job.BoardJobJob.drop_post.Goals as goal

pub invariant_of-self : goal.invariant_of-self
invariant_of-self g c =
    one_dropped c.self.inside.board c.drop_post.new.self c.self.inside.handle c.self.inside.pass c.self.invariant
    c.drop_post.ensures
