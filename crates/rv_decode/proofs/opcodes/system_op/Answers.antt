-- A fixed word matches its row, whatever its fields.
use Rattle.std.proofs.Common.{rules}
use Rattle.rv_decode.specs.Inner.ByFields.{op_by}
use Rattle.rv_decode.proofs.opcodes.system_op.Goals as goal

pub returns-in-115 : goal.returns-in-115
unfolding op_by
returns-in-115 c = search rules

pub returns-in-1048691 : goal.returns-in-1048691
unfolding op_by
returns-in-1048691 c = search rules

pub returns-in-807403635 : goal.returns-in-807403635
unfolding op_by
returns-in-807403635 c = search rules

pub returns-in-273678451 : goal.returns-in-273678451
unfolding op_by
returns-in-273678451 c = search rules
