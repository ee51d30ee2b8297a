-- `parse` gives what the digits say, which is below 10 to their number.
use Rattle.std.proofs.Common.{◌≡◌, ◌<◌, ◌∙◌, length, arith, rules}
use Rattle.std.proofs.lemmas.Bool.Decides.{nat_tests}
use Rattle.lab_num.proofs.DigitLemmas.{digits_fit, digits_parse}
use Rattle.lab_num.specs.Time as times
use Rattle.lab_num.proofs.time.digits.Goals as goal

pub returns : goal.returns
returns c =
    let some : 0 < length c.args.text.now = grind (arith, nat_tests) in
    let said : c.ok.result ≡ times.digits c.args.most c.args.text.now =
    c.ok.ensures.value
    ∙ digits_parse c.args.most c.args.text.now _ c.parse.ensures.value.0 c.requires some (omega arith) (search rules) in
    record { value = said; fits = rw said (digits_fit c.args.most c.args.text.now) }
