-- The magnitude is told apart up to a limit.
use Rattle.std.proofs.Common.{◌∙◌, sym}
use Rattle.rv_asm.specs.Numbers.{magnitude_of}
use Rattle.rv_asm.proofs.NumeralLemmas.{none_signed, some_signed}
use Rattle.rv_asm.proofs.numbers.signed.Goals as goal

pub returns-in_err-magnitude : goal.returns-in_err-magnitude
returns-in_err-magnitude c =
    c.from_residual.ensures ∙
    none_signed (magnitude_of c.args.digits.now) c.args.negative
    (sym c.magnitude_of.ensures ∙ c.in_err-magnitude.was {u = tt})

pub returns : goal.returns
returns c =
    some_signed (magnitude_of c.args.digits.now) c.args.negative c.in_ok-magnitude.magnitude
    (sym c.magnitude_of.ensures ∙ c.in_ok-magnitude.was {u = tt})
