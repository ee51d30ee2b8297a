use Rattle.std.proofs.Common.{[]}
use Rattle.hub_mail.proofs.Keeps.{merges}
use Rattle.hub_mail.proofs.mail.Boss.take_in.Goals as goal

pub absorb-requires-clause-rule : goal.absorb-requires-clause-rule
absorb-requires-clause-rule g c =
    let s = c.self.invariant.1 in
    let p = c.pass.invariant.1 in
    merges _ _ _ _ s.0 [] s.1 p.0 p.1 s.2 p.2
