use Rattle.std.proofs.Common.{arith}
use Rattle.lab_arguments.proofs.TextLemmas.{too_large}
use Rattle.lab_arguments.proofs.text.count.Goals as goal

pub returns-in-Err-clause-value : goal.returns-in-Err-clause-value
returns-in-Err-clause-value c =
    too_large c.in-Err.field-0 8 c.args.text.now 1 c.args.most c.requires (omega (arith, c.ranges.most.fits))
    c.in-Err.ensures.value.0
