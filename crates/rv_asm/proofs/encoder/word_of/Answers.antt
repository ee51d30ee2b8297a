-- The row's bits and the fields, each in its place.
use Rattle.std.proofs.Common.{◌≡◌, ◌∙◌, ap, inl, inr, arith}
use Rattle.std.specs.Prelude.{Some}
use Rattle.std.specs.Option.{option_map}
use Rattle.rv_decode.specs.declared.instruction.Format.TheVariants.{R, I, IShift, IUnsigned, S, B, U, J, Fixed}
use Rattle.rv_decode.specs.Table.{row_of}
use Rattle.rv_asm.specs.Inner.Fields.{with_op}
use Rattle.rv_asm.proofs.RoundTrip.{encoded-fields, encoded-fixed}
use Rattle.rv_asm.proofs.encoder.word_of.Goals as goal

pub returns-in-R : goal.returns-in-R
returns-in-R c =
    let format : option_map (λ row. row.format) (row_of c.args.op) ≡ Some R =
    c.format.ensures ∙ ap Some c.in-R.is in
    encoded-fields (with_op c.args.op c.args.fields) R c.opcode-code.result c.funct3.result c.funct7-high.result
    (λ same. cc) format
    c.opcode-code.ensures.value c.funct3.ensures.value c.funct7-high.ensures.value ∙
    ap Some (omega arith)

pub returns-in-I : goal.returns-in-I
returns-in-I c =
    elim c.in-I.is [
      | inl signed ↦
          encoded-fields (with_op c.args.op c.args.fields) I c.opcode-code.result c.funct3.result c.funct7-high.result
          (λ same. cc)
          (c.format.ensures ∙ ap Some signed)
          c.opcode-code.ensures.value c.funct3.ensures.value c.funct7-high.ensures.value ∙
          ap Some (omega arith)
      | inr unsigned ↦
          encoded-fields (with_op c.args.op c.args.fields) IUnsigned c.opcode-code.result c.funct3.result
          c.funct7-high.result (λ same. cc)
          (c.format.ensures ∙ ap Some unsigned)
          c.opcode-code.ensures.value c.funct3.ensures.value c.funct7-high.ensures.value ∙
          ap Some (omega arith)
    ]

pub returns-in-IShift : goal.returns-in-IShift
returns-in-IShift c =
    let format : option_map (λ row. row.format) (row_of c.args.op) ≡ Some IShift =
    c.format.ensures ∙ ap Some c.in-IShift.is in
    encoded-fields (with_op c.args.op c.args.fields) IShift c.opcode-code.result c.funct3.result c.funct7-high.result
    (λ same. cc) format
    c.opcode-code.ensures.value c.funct3.ensures.value c.funct7-high.ensures.value ∙
    ap Some (omega arith)

pub returns-in-S : goal.returns-in-S
returns-in-S c =
    let format : option_map (λ row. row.format) (row_of c.args.op) ≡ Some S =
    c.format.ensures ∙ ap Some c.in-S.is in
    encoded-fields (with_op c.args.op c.args.fields) S c.opcode-code.result c.funct3.result c.funct7-high.result
    (λ same. cc) format
    c.opcode-code.ensures.value c.funct3.ensures.value c.funct7-high.ensures.value ∙
    ap Some (omega arith)

pub returns-in-B : goal.returns-in-B
returns-in-B c =
    let format : option_map (λ row. row.format) (row_of c.args.op) ≡ Some B =
    c.format.ensures ∙ ap Some c.in-B.is in
    encoded-fields (with_op c.args.op c.args.fields) B c.opcode-code.result c.funct3.result c.funct7-high.result
    (λ same. cc) format
    c.opcode-code.ensures.value c.funct3.ensures.value c.funct7-high.ensures.value ∙
    ap Some (omega arith)

pub returns-in-U : goal.returns-in-U
returns-in-U c =
    let format : option_map (λ row. row.format) (row_of c.args.op) ≡ Some U =
    c.format.ensures ∙ ap Some c.in-U.is in
    encoded-fields (with_op c.args.op c.args.fields) U c.opcode-code.result c.funct3.result c.funct7-high.result
    (λ same. cc) format
    c.opcode-code.ensures.value c.funct3.ensures.value c.funct7-high.ensures.value ∙
    ap Some (omega arith)

pub returns-in-J : goal.returns-in-J
returns-in-J c =
    let format : option_map (λ row. row.format) (row_of c.args.op) ≡ Some J =
    c.format.ensures ∙ ap Some c.in-J.is in
    encoded-fields (with_op c.args.op c.args.fields) J c.opcode-code.result c.funct3.result c.funct7-high.result
    (λ same. cc) format
    c.opcode-code.ensures.value c.funct3.ensures.value c.funct7-high.ensures.value ∙
    ap Some (omega arith)

pub returns-in-Fixed : goal.returns-in-Fixed
returns-in-Fixed c =
    let format : option_map (λ row. row.format) (row_of c.args.op) ≡ Some Fixed =
    c.format.ensures ∙ ap Some c.in-Fixed.is in
    encoded-fixed (with_op c.args.op c.args.fields) c.fixed_word.result format (c.fixed_word.ensures format)
