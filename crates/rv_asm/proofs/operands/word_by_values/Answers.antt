-- Both values are in their fields.
use Rattle.std.proofs.Common.{arith}
use Rattle.rv_asm.proofs.operands.word_by_values.Goals as goal

pub fields_of-requires : goal.fields_of-requires
fields_of-requires c =
    rw c.from.ensures
    (c.requires c.in-Some.b c.in-Some-c.c (omega arith) (omega arith) c.in-Some.is c.in-Some-c.is)
