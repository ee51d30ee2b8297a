-- All bytes are digits, so a plus does not stand in front.
use Rattle.std.proofs.Common.{◌∙◌, lit≤, rules}
use Rattle.std.specs.Char.{is_ascii_hexdigit}
use Rattle.lab_num.proofs.NumeralLemmas.{numeral_parses, hexadecimal_digit}
use Rattle.lab_num.proofs.numeral.hexadecimal.Goals as goal

pub returns : goal.returns
returns c =
    c.ok.ensures.value ∙
    numeral_parses is_ascii_hexdigit 16 c.args.text.now _ hexadecimal_digit (lit≤ tt) c.from_str_radix.ensures.value
    (search rules) (search rules)
