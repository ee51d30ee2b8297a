use Rattle.std.proofs.Common.{◌≡◌, ◌∙◌, length, ap, arith, sym, Some, true}
use Rattle.std.proofs.lemmas.Bool.Decides.{nat_tests}
use Rattle.monitor.specs.Processor.{may_go_at}
use Rattle.monitor.proofs.monitor.Monitor.mips.Goals as goal

pub set_speed-requires-clause-most : goal.set_speed-requires-clause-most
set_speed-requires-clause-most g c =
    let on = c.in_ok-b.ensures.ok in
    let harts = c.harts-harts.ensures.count on.view on.seen in
    let fits : may_go_at on.view (Some c.in-Some.each) ≡ true =
    ap (may_go_at on.view) (sym c.in-Some.is) ∙ sym (c.may_go_at.ensures on.view harts) ∙ c.if-not-may_go_at.false in
    let same : c.from-in-Some.result ≡ length on.view.cores = grind (arith, c.from-in-Some.ensures, harts) in
    rw same (grind (arith, nat_tests, fits))
