use Rattle.std.proofs.Common.{append_assoc}
use Rattle.log_text.specs.Number.{seconds}
use Rattle.log_text.proofs.Digits.{filled_six}
use Rattle.log_text.proofs.number.SecondsDisplay.fmt.Goals as goal

pub returns-clause-writes : goal.returns-clause-writes
unfolding seconds
returns-clause-writes g c = rw append_assoc (rw (c.laid_out.ensures, filled_six) at c.write.ensures.writes)
