-- Without the opcode or the funct3 no row matches.
use Rattle.std.proofs.Common.{rules}
use Rattle.rv_atomic.specs.Inner.ByFields.{op_by}
use Rattle.rv_atomic.proofs.decoder.op_by_fields.Goals as goal

pub returns-else-bits-eq-OPCODE : goal.returns-else-bits-eq-OPCODE
unfolding op_by
returns-else-bits-eq-OPCODE c = search rules
