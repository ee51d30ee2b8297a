use Rattle.std.proofs.Common.{◌≡◌, ◌∙◌, length, sym, ap, arith}
use Rattle.hub_mail.specs.Pass.{Pass}
use Rattle.floor_tests.proofs.Passes.{last_pass, none_ready, one_ready}
use Rattle.floor_tests.proofs.mails.all_posted.Goals as goal

pub loop-pass-init : goal.loop-pass-init
loop-pass-init g c =
    let first = none_ready c.args.boss.now.mail c.args.passes.items c.new-all.result.items (length c.args.counts.now)
    c.requires.passes c.new-all.ensures.items in
    record { passes = first.0; mail = first.1; len = first.2 }

pub posted-requires-clause-board : goal.posted-requires-clause-board
posted-requires-clause-board g c =
    let last = last_pass c.args.boss.now.mail c.loop-pass.passes.items c.pop.new.self.items c.in-Some.pass
    c.in-Some.ensures.items c.loop-pass.invariant.passes in
    let len : c.len-board.result ≡ length c.pop.new.self.items =
    omega (arith, c.len-board.ensures, c.pop.new.self.ok.0) in
    ap (λ (p : Pass). p.board) last.1 ∙ sym len

pub posted-requires-clause-new : goal.posted-requires-clause-new
posted-requires-clause-new g c =
    let last = last_pass c.args.boss.now.mail c.loop-pass.passes.items c.pop.new.self.items c.in-Some.pass
    c.in-Some.ensures.items c.loop-pass.invariant.passes in
    ap (λ (p : Pass). p.posted) last.1

pub loop-pass-preserved : goal.loop-pass-preserved
loop-pass-preserved g c =
    let before = c.loop-pass.invariant in
    let next = one_ready c.args.boss.now.mail c.loop-pass.passes.items c.pop.new.self.items c.loop-pass.all.items
    c.push.new.self.items c.in-Some.pass c.in_ok-posted.field-0 (length c.args.counts.now) before.passes before.mail
    before.len c.in-Some.ensures.items c.in_ok-posted.ensures.mail c.in_ok-push.ensures.items in
    record { passes = next.0; mail = next.1; len = next.2 }
