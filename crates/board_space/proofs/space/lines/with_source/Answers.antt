use Rattle.board_space.proofs.SourceLemmas.{has_more, has_no_more}
use Rattle.board_space.proofs.space.lines.with_source.Goals as goal

pub returns-then-source-lt128 : goal.returns-then-source-lt128
returns-then-source-lt128 c = λ s below. has_more c.args.set c.args.source s c.if-source-lt128.true below

pub returns-else-source-lt128 : goal.returns-else-source-lt128
returns-else-source-lt128 c = λ s below. has_no_more c.args.set c.args.source s c.if-source-lt128.false below
