use Rattle.hub_mail.proofs.Arrival.{keys_differ}
use Rattle.hub_mail.proofs.Drains.{learned, tells}
use Rattle.hub_mail.proofs.Gathered.{all_posts}
use Rattle.hub_mail.proofs.Keeps.{draws}
use Rattle.hub_mail.proofs.mail.Boss.drain.Goals as goal

pub pop_as-requires-clause-rule : goal.pop_as-requires-clause-rule
pop_as-requires-clause-rule g c =
    (draws _ _ _ _ _ c.loop.invariant.drawn, tells _ _ _ _ _ c.loop.invariant.drawn c.requires.passes)

pub returns-in_default-clause-all : goal.returns-in_default-clause-all
returns-in_default-clause-all g c =
    all_posts _ _ (learned _ _ _ _ c.loop.invariant.drawn c.in_default.ensures.rule.1)

pub returns-in_default-clause-keys : goal.returns-in_default-clause-keys
returns-in_default-clause-keys g c =
    keys_differ _ (learned _ _ _ _ c.loop.invariant.drawn c.in_default.ensures.rule.1).rising
