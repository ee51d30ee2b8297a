use Rattle.hub_mail.proofs.Keeps.{begins}
use Rattle.hub_mail.proofs.mail.Boss.begin.Goals as goal

pub with_rule-requires : goal.with_rule-requires
with_rule-requires c = begins
