use Rattle.std.proofs.Common.{[]}
use Rattle.hub_mail.proofs.Keeps.{forks}
use Rattle.hub_mail.proofs.mail.Boss.split.Goals as goal

pub another-seat-requires-clause-rule : goal.another-seat-requires-clause-rule
another-seat-requires-clause-rule c = let s = c.self.invariant.1 in forks _ _ s.0 [] s.1 s.2
