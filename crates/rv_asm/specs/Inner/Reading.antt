-- How the code reads operands: the value of each by its kind, and the fields that the values go to.
use Rattle.std.specs.Prelude.{◌≡◌, ℕ, ◌<◌, ◌==◌, ◌*◌, ◌^◌, ◌-◌, length, List, if◌then◌else◌, Option, Some, None, Result}
use Rattle.std.specs.Prelude.{Ok, Err}
use Rattle.std.specs.Option.{option_map, ok_or}
use Rattle.rv_decode.specs.declared.instruction.Op.{Op}
use Rattle.rv_asm.specs.declared.encoder.Fields.{Fields}
use Rattle.rv_asm.specs.declared.fault.AsmCause.{AsmCause}
use Rattle.rv_asm.specs.declared.fault.AsmCause.TheVariants.{Form}
use Rattle.rv_asm.specs.declared.operands.Kind.{Kind}
use Rattle.rv_asm.specs.declared.operands.Kind.TheVariants.{Register, Number, Target, Nothing}
use Rattle.rv_asm.specs.declared.shapes.Shape.{Shape}
use Rattle.rv_asm.specs.declared.shapes.Shape.TheVariants.{Registers, Immediate, Shift, Load, Store, Branch, Upper}
use Rattle.rv_asm.specs.declared.shapes.Shape.TheVariants.{Jump, Csr, CsrImmediate, Bare}
use Rattle.rv_asm.specs.Encoded.{encoded}
use Rattle.rv_asm.specs.Texts.{register_of}
use Rattle.rv_asm.specs.Operands.{number_in}
use Rattle.rv_asm.specs.Lines.{offset_in, ◌>>=◌}
use Rattle.rv_asm.specs.Inner.Fields.{fields, with_op, Fit}
use Rattle.rv_asm.specs.Inner.Parts.{first_of, others_of}

-- what each operand after the first register is
abbrev pub kinds_of : Shape → Kind × Kind
kinds_of Registers = (Register, Register)
kinds_of Immediate = (Register, Number 2048 2047)
kinds_of Shift = (Register, Number 0 31)
kinds_of Load = (Number 2048 2047, Register)
kinds_of Store = (Number 2048 2047, Register)
kinds_of Branch = (Register, Target 4096 4095)
kinds_of Upper = (Number 0 0xFFFFF, Nothing)
kinds_of Jump = (Target (2 ^ 20) (2 ^ 20 - 1), Nothing)
kinds_of Csr = (Number 0 4095, Register)
kinds_of CsrImmediate = (Number 0 4095, Number 0 31)
kinds_of Bare = (Nothing, Nothing)

-- the value of an operand, if it is in its field
abbrev pub value_of : (List ℕ → Option ℕ) → ℕ → Kind → List ℕ → Result (Option ℕ) AsmCause
value_of places here Register text = ok_or (option_map (λ n. Some n) (register_of text)) Form
value_of places here (Number least greatest) text = ok_or (number_in least greatest text) Form
value_of places here (Target least greatest) text = offset_in places here least greatest text
value_of places here Nothing text = if length text == 0 then Ok (Some 0) else Err Form

-- the fields of an instruction whose operands have these values
abbrev pub fields_of : Shape → ℕ → ℕ → ℕ → Fields
fields_of Registers a b c = fields a b c 0
fields_of Immediate a b c = fields a b 0 c
fields_of Shift a b c = fields a b 0 c
fields_of Load a b c = fields a c 0 b
fields_of Store a b c = fields 0 c a b
fields_of Branch a b c = fields 0 a b c
fields_of Upper a b c = fields a 0 0 (b * 2 ^ 12)
fields_of Jump a b c = fields a 0 0 b
fields_of Csr a b c = fields a c 0 b
fields_of CsrImmediate a b c = fields a c 0 b
fields_of Bare a b c = fields 0 0 0 0

-- values that are in their fields fit the fields of the instruction
abbrev pub AllFit : Shape → ℕ → Option ℕ → Option ℕ → Type 0
AllFit shape a b c =
    (m n : ℕ) → m < 2 ^ 32 → n < 2 ^ 32 → b ≡ Some m → c ≡ Some n → Fit (fields_of shape a m n)

-- the word of the values, if each is in its field
abbrev pub word_by_values : Op → Shape → ℕ → Option ℕ → Option ℕ → Option ℕ
word_by_values op shape a None c = None
word_by_values op shape a (Some b) None = None
word_by_values op shape a (Some b) (Some c) = encoded (with_op op (fields_of shape a b c))

-- the word of the operands, if each value is in its field
abbrev pub read : (List ℕ → Option ℕ) → ℕ → Op → List ℕ → Shape → Result (Option ℕ) AsmCause
read places here op text shape = do
  a ← ok_or (first_of shape text) Form
  parts ← ok_or (others_of shape a.1) Form
  b ← value_of places here (kinds_of shape).0 parts.0
  c ← value_of places here (kinds_of shape).1 parts.1
  Ok (word_by_values op shape a.0 b c)
