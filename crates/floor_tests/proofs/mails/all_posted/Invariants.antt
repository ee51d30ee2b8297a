use Rattle.std.proofs.Common.{◌≡◌, ◌+◌, All, length}
use Rattle.hub_mail.specs.Pass.{fresh_passes}
use Rattle.floor_tests.proofs.mails.all_posted.Given as goal

abbrev pub invariant-loop-pass : goal.invariant-loop-pass
invariant-loop-pass g l = record {
  passes : l.passes.items ≡ fresh_passes l.boss.mail (length l.passes.items);
  mail : All (λ p. p.mail ≡ l.boss.mail) l.all.items;
  len : length l.all.items + length l.passes.items ≡ length l.counts;
}

abbrev pub decreases-loop-pass : goal.decreases-loop-pass
decreases-loop-pass g l = length l.passes.items
