use Rattle.std.proofs.Common.{◌≡◌, false}
use Rattle.floor_tests.proofs.source.the_seventeenth_member_is_refused.Given as goal

abbrev pub invariant-loop-board : goal.invariant-loop-board
invariant-loop-board g l = l.source.is_open ≡ false
