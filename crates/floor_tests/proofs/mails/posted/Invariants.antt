use Rattle.std.proofs.Common.{◌≡◌}
use Rattle.hub_mail.specs.Posts.{IsAbove}
use Rattle.floor_tests.proofs.mails.posted.Given as goal

abbrev pub invariant-loop-number : goal.invariant-loop-number
invariant-loop-number g l = record {
  mail : l.pass.mail ≡ l.fn.pass.mail;
  board : l.pass.board ≡ l.board;
  above : IsAbove l.number l.pass.posted;
}
