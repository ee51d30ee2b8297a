-- The search by fields is the search by masks, and each row gives valid instructions.
use Rattle.std.proofs.Common.{◌≡◌, ◌∙◌, sym, subst, arith}
use Rattle.std.specs.Prelude.{IfSome, Option}
use Rattle.rv_decode.specs.declared.instruction.Instr.{Instr}
use Rattle.rv_decode.specs.Means.{IsValid}
use Rattle.rvc_decode.specs.Means.{expansion}
use Rattle.rvc_decode.proofs.Rows.{expansion-by_fields, expansion-long}
use Rattle.rvc_decode.proofs.Valid.{expansion-valid}
use Rattle.rvc_decode.proofs.expander.expand.Goals as goal

pub returns-clause-value : goal.returns-clause-value
returns-clause-value c =
    rw c.from.ensures at c.by_quadrant.ensures ∙ sym (expansion-by_fields c.args.half (omega arith))

pub returns-clause-valid : goal.returns-clause-valid
returns-clause-valid c =
    let is : c.by_quadrant.result ≡ expansion c.args.half = returns-clause-value c in
    let P : Option Instr → Type 0 = λ found. IfSome found IsValid in
    subst P (sym is) (expansion-valid c.rows_match_fields.ensures c.args.half)

pub returns-clause-long : goal.returns-clause-long
returns-clause-long c = λ long. returns-clause-value c ∙ expansion-long c.args.half (omega arith) long
