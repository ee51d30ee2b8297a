use Rattle.hub_mail.proofs.Begins.{one_more_pass}
use Rattle.hub_mail.proofs.mail.Mail.begin.Goals as goal

pub loop-preserved : goal.loop-preserved
loop-preserved g c =
    let before = c.loop.invariant in
    let split = c.in_ok-split.ensures in
    let after =
    one_more_pass c.loop.boss c.split.new.self c.loop.passes.items c.push.new.self.items c.in_ok-split.field-0
    c.loop.counter before.count before.taken before.passes split.pass split.count c.in_ok-push.ensures.items in
    record { count = after.0; taken = after.1; passes = after.2 }
