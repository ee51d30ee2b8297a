-- By the opcode, which each row of either table fixes.
use Rattle.rv_atomic.proofs.Opcodes.{no_other}
use Rattle.rv_atomic.proofs.decoder.atomic_words_mean_no_other.Goals as goal

pub returns : goal.returns
returns c = no_other
