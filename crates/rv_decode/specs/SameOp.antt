-- Whether two names of instructions are one, by their places in `Op`.
use Rattle.std.specs.Prelude.{◌==◌, Bool}
use Rattle.rv_decode.specs.declared.instruction.Op.{Op}
use Rattle.rv_decode.specs.contracts.instruction.Op.{the_type}
use denote.Enum.Declared.{tag_of}

abbrev pub is_same_op : Op → Op → Bool
is_same_op a b = tag_of the_type a == tag_of the_type b
