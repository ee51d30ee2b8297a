use Rattle.std.proofs.Common.{sym}
use Rattle.resc_read.specs.Arguments.{delay}
use Rattle.resc_read.proofs.HubLemmas.{too_many}
use Rattle.resc_read.proofs.arguments.delay_or_none.Goals as goal

pub returns-in_default : goal.returns-in_default
returns-in_default c = sym (too_many delay (λ word. word.now) c.args.words.now c.in_default.len_at_least)
