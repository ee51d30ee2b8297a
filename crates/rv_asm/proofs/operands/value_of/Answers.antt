-- A number that is not told apart is outside each field.
use Rattle.std.proofs.Common.{ℕ, ◌∙◌, sym, ap, Option, Ok, arith}
use Rattle.std.specs.Option.{ok_or}
use Rattle.rv_asm.specs.declared.fault.AsmCause.TheVariants.{Form}
use Rattle.rv_asm.specs.Numbers.{number_of}
use Rattle.rv_asm.proofs.NumeralLemmas.{none_in_field, some_in_field}
use Rattle.rv_asm.proofs.operands.value_of.Goals as goal

pub returns-in-Some-number_of : goal.returns-in-Some-number_of
returns-in-Some-number_of c =
    let is = c.in-Number.is in
    rw is
    (ap Ok c.in_field.ensures ∙
    ap (λ (x : Option (Option ℕ)). ok_or x Form)
    (some_in_field (number_of c.args.text.now) c.in-Number.least c.in-Number.greatest c.in-Some-number_of.number
    (omega arith) (omega arith) (sym c.number_of.ensures ∙ c.in-Some-number_of.is)))

pub returns-in-None-number_of : goal.returns-in-None-number_of
returns-in-None-number_of c =
    let is = c.in-Number.is in
    rw is
    (ap (λ (x : Option (Option ℕ)). ok_or x Form)
    (none_in_field (number_of c.args.text.now) c.in-Number.least c.in-Number.greatest
    (sym c.number_of.ensures ∙ c.in-None-number_of.is)))
