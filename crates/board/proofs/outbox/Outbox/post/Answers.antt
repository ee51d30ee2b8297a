use Rattle.std.proofs.Common.{refl}
use Rattle.board.proofs.outbox.Outbox.post.Goals as goal

pub returns : goal.returns
returns c = λ s. rw (c.key.ensures s, ← c.self.view_is) refl
