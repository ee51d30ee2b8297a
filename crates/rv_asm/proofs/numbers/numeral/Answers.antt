-- All bytes are digits, so a plus does not stand in front.
use Rattle.std.proofs.Common.{◌∙◌, ap, Some, rules}
use Rattle.rv_asm.specs.Inner.Saturated.{is_digit_of}
use Rattle.rv_asm.proofs.NumeralLemmas.{numeral_parses, is_digit_of-below}
use Rattle.rv_asm.proofs.numbers.numeral.Goals as goal

pub returns : goal.returns
returns c =
    ap Some c.unwrap_or.ensures ∙
    numeral_parses (is_digit_of c.args.radix) c.args.radix c.args.digits.now _
    (is_digit_of-below c.args.radix c.requires.least) c.requires.most c.from_str_radix.ensures.value
    (search rules) (search rules)
