use Rattle.std.proofs.Common.{rules}
use Rattle.rv_decode.specs.Inner.ByFields.{op_by}
use Rattle.rv_decode.proofs.opcodes.register_op.Goals as goal

pub returns-in_default : goal.returns-in_default
unfolding op_by
returns-in_default c = search rules
