use Rattle.std.proofs.Common.{refl}
use Rattle.board.proofs.outbox.Outbox.send.Goals as goal

pub returns : goal.returns
returns c = λ s.
    rw (c.note.ensures s, c.count_post.ensures, c.push_back_reserved.ensures.items, c.post-post.ensures s) refl
