use Rattle.std.proofs.Common.{◌≡◌, []}
use Rattle.hub_mail.specs.Pass.{fresh_passes}
use Rattle.hub_mail.proofs.mail.Mail.begin.Given as goal

abbrev pub invariant-loop : goal.invariant-loop
invariant-loop g l = record {
  count : l.boss.count ≡ l.counter;
  taken : l.boss.taken ≡ [];
  passes : l.passes.items ≡ fresh_passes l.boss.mail l.counter;
}
