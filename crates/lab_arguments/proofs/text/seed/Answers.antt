use Rattle.std.proofs.Common.{arith}
use Rattle.lab_arguments.proofs.TextLemmas.{too_large}
use Rattle.lab_arguments.proofs.text.seed.Goals as goal

pub returns-in-Err : goal.returns-in-Err
returns-in-Err c =
    too_large c.in-Err.field-0 64 c.args.text.now 0 18446744073709551615 c.requires (omega arith)
    c.in-Err.ensures.value.0
