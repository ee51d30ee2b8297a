use Rattle.std.proofs.Common.{◌∙◌}
use Rattle.floor_tests.proofs.Passes.{one_posted}
use Rattle.floor_tests.proofs.mails.posted.Goals as goal

pub loop-number-preserved : goal.loop-number-preserved
loop-number-preserved g c =
    let before = c.loop-number.invariant in
    let after =
    one_posted c.loop-number.pass c.post-in-loop-number.new.self c.post.result c.loop-number.number
    c.in-Ok.ensures.added c.post.ensures.number in
    record { mail = after.0 ∙ before.mail; board = after.1 ∙ before.board; above = after.2 }
