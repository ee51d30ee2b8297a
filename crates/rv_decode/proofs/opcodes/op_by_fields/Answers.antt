-- An opcode of one row decides alone, and one of no row matches none.
use Rattle.std.proofs.Common.{rules}
use Rattle.rv_decode.specs.Inner.ByFields.{op_by}
use Rattle.rv_decode.proofs.opcodes.op_by_fields.Goals as goal

pub returns-in-55 : goal.returns-in-55
unfolding op_by
returns-in-55 c = search rules

pub returns-in-23 : goal.returns-in-23
unfolding op_by
returns-in-23 c = search rules

pub returns-in-111 : goal.returns-in-111
unfolding op_by
returns-in-111 c = search rules

pub returns-in_default : goal.returns-in_default
unfolding op_by
returns-in_default c = search rules
