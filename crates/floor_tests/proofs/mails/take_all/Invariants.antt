use Rattle.std.proofs.Common.{◌≡◌, ◌+◌, All, length}
use Rattle.floor_tests.proofs.mails.take_all.Given as goal

abbrev pub invariant-loop-pass : goal.invariant-loop-pass
invariant-loop-pass g l = record {
  taken : length l.boss.taken + length l.passes.items ≡ length l.fn.boss.taken + length l.fn.passes.items;
  count : l.boss.count ≡ l.fn.boss.count;
  mail : l.boss.mail ≡ l.fn.boss.mail;
  each : All (λ p. p.mail ≡ l.fn.boss.mail) l.passes.items;
}

abbrev pub decreases-loop-pass : goal.decreases-loop-pass
decreases-loop-pass g l = length l.passes.items
