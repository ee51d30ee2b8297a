-- What the code reads is what the operands give.
use Rattle.std.proofs.Common.{◌≡◌, ℕ, ◌^◌, ◌<◌, ◌≤◌, refl, List, [], ◌∷◌, Option, Some, Ok, arith}
use Rattle.std.proofs.lemmas.Bool.Decides.{nat_tests}
use Rattle.rv_decode.specs.declared.instruction.Op.{Op}
use Rattle.rv_asm.specs.declared.operands.Kind.TheVariants.{Register, Number}
use Rattle.rv_asm.specs.declared.shapes.Shape.{Shape}
use Rattle.rv_asm.specs.declared.shapes.Shape.TheVariants.{Registers, Immediate, Shift, Load, Store, Branch, Upper}
use Rattle.rv_asm.specs.declared.shapes.Shape.TheVariants.{Jump, Csr, CsrImmediate, Bare}
use Rattle.rv_asm.specs.declared.numbers.Number.{Number as Numeral}
use Rattle.rv_asm.specs.Texts.{cut, register_of}
use Rattle.std.specs.Str.{byte}
use Rattle.std.specs.Prelude.{Result, Err, Bool, true, false, ◌*◌, ◌-◌, ◌==◌, length, if◌then◌else◌}
use Rattle.rv_asm.specs.declared.fault.AsmCause.{AsmCause}
use Rattle.rv_asm.specs.Numbers.{in_field, number_of}
use Rattle.rv_asm.specs.Operands.{number_in, operand_and, register_and, csr_and, place_of, two_registers_and}
use Rattle.rv_asm.specs.Operands.{registers_word, immediate_word}
use Rattle.rv_asm.specs.Operands.{load_word, store_word, upper_word, csr_word, csr_immediate_word, bare_word}
use Rattle.rv_asm.specs.Operands.{csr_immediate_fields}
use Rattle.rv_asm.specs.Lines.{offset_in, branch_word, jump_word, operands_word, ◌>>=◌}
use Rattle.rv_asm.specs.Encoded.{word_with}
use Rattle.std.specs.Option.{option_map, option_and_then, ok_or}
use Rattle.std.proofs.Common.{None}
use Rattle.rv_asm.specs.declared.fault.AsmCause.TheVariants.{Form}
use Rattle.rv_asm.specs.Inner.Fields.{Fit}
use Rattle.rv_asm.specs.Inner.Parts.{place_parts}
use Rattle.rv_asm.specs.Inner.Reading.{value_of, kinds_of, fields_of, word_by_values, read}
use Rattle.rv_asm.proofs.NumeralLemmas.{in_field-most}

register_of-fits : (text : List ℕ) (n : ℕ) → register_of text ≡ Some n → n < 32
register_of-fits [] n is = cc
register_of-fits (x ∷ []) n is = cc
register_of-fits (x ∷ a ∷ []) n is = grind (arith, nat_tests)
register_of-fits (x ∷ a ∷ b ∷ []) n is = grind (arith, nat_tests)
register_of-fits (x ∷ a ∷ b ∷ c ∷ more) n is = cc

register-fits :
    (places : List ℕ → Option ℕ) (here : ℕ) (text : List ℕ) (n : ℕ) →
    value_of places here Register text ≡ Ok (Some n) → n < 32
register-fits places here text n is = register_of-fits text n (grind arith)

number-fits :
    (places : List ℕ → Option ℕ) (here greatest : ℕ) (text : List ℕ) (n : ℕ) →
    value_of places here (Number 0 greatest) text ≡ Ok (Some n) → n ≤ greatest
number-fits places here greatest text n is = by (number_of text) is
  where
    by : (o : Option Numeral) → ok_or (option_map (λ x. in_field 0 greatest x) o) Form ≡ Ok (Some n) → n ≤ greatest
    by None is = cc
    by (Some x) is = let at : in_field 0 greatest x ≡ Some n = cc in in_field-most x greatest n at

-- values of a shape's kinds fit the fields that they go to
pub fields_fit :
    (places : List ℕ → Option ℕ) (here : ℕ) (shape : Shape) (q r : List ℕ) (a b c : ℕ) → a < 32 → b < 2 ^ 32 →
    c < 2 ^ 32 → value_of places here (kinds_of shape).0 q ≡ Ok (Some b) →
    value_of places here (kinds_of shape).1 r ≡ Ok (Some c) → Fit (fields_of shape a b c)
fields_fit places here Registers q r a b c fa fb fc y z =
    let f = register-fits places here in record { rd = fa; rs1 = f q b y; rs2 = f r c z; imm = omega arith }
fields_fit places here Immediate q r a b c fa fb fc y z =
    record { rd = fa; rs1 = register-fits places here q b y; rs2 = omega arith; imm = fc }
fields_fit places here Shift q r a b c fa fb fc y z =
    record { rd = fa; rs1 = register-fits places here q b y; rs2 = omega arith; imm = fc }
fields_fit places here Load q r a b c fa fb fc y z =
    record { rd = fa; rs1 = register-fits places here r c z; rs2 = omega arith; imm = fb }
fields_fit places here Store q r a b c fa fb fc y z =
    record { rd = omega arith; rs1 = register-fits places here r c z; rs2 = fa; imm = fb }
fields_fit places here Branch q r a b c fa fb fc y z =
    record { rd = omega arith; rs1 = fa; rs2 = register-fits places here q b y; imm = fc }
fields_fit places here Upper q r a b c fa fb fc y z =
    let upper = number-fits places here 0xFFFFF q b y in
    record { rd = fa; rs1 = omega arith; rs2 = omega arith; imm = omega arith }
fields_fit places here Jump q r a b c fa fb fc y z =
    record { rd = fa; rs1 = omega arith; rs2 = omega arith; imm = fb }
fields_fit places here Csr q r a b c fa fb fc y z =
    record { rd = fa; rs1 = register-fits places here r c z; rs2 = omega arith; imm = fb }
fields_fit places here CsrImmediate q r a b c fa fb fc y z =
    let below = number-fits places here 31 r c z in
    record { rd = fa; rs1 = omega arith; rs2 = omega arith; imm = fb }
fields_fit places here Bare q r a b c fa fb fc y z =
    record { rd = omega arith; rs1 = omega arith; rs2 = omega arith; imm = omega arith }

-- what is read, by the first register, the texts after it, the values of these and the word
abbrev read_by :
    Option (ℕ × List ℕ) → (List ℕ → Option (List ℕ × List ℕ)) → (List ℕ → Result (Option ℕ) AsmCause) →
    (List ℕ → Result (Option ℕ) AsmCause) → (ℕ → Option ℕ → Option ℕ → Option ℕ) → Result (Option ℕ) AsmCause
read_by first others f g word =
    ok_or first Form >>= λ a. ok_or (others a.1) Form >>= λ p. f p.0 >>= λ b. g p.1 >>= λ c. Ok (word a.0 b c)

-- the forms with numbers, whatever the numbers are
register_number :
    (op : Op) (first : Option (ℕ × List ℕ)) (number : List ℕ → Option (Option ℕ)) →
    read_by first operand_and (λ t. ok_or (option_map (λ n. Some n) (register_of t)) Form)
    (λ t. ok_or (number t) Form) (word_by_values op Immediate) ≡
    ok_or
    (option_and_then (λ rd. option_and_then (λ rs1. option_and_then (λ imm. Some (word_with op rd.0 rs1.0 0 imm))
    (number rs1.1)) (register_and rd.1)) first)
    Form
unfolding register_and
register_number op first number = grind arith

abbrev and_number : (List ℕ → Option (Option ℕ)) → List ℕ → Option (Option ℕ × List ℕ)
and_number number text = option_and_then (λ x. option_and_then (λ n. Some (n, x.1)) (number x.0)) (operand_and text)

number_register :
    (op : Op) (first : Option (ℕ × List ℕ)) (number : List ℕ → Option (Option ℕ)) →
    read_by first operand_and (λ t. ok_or (number t) Form)
    (λ t. ok_or (option_map (λ n. Some n) (register_of t)) Form) (word_by_values op Csr) ≡
    ok_or
    (option_and_then (λ rd. option_and_then (λ csr. option_and_then (λ rs1. Some (word_with op rd.0 rs1 0 csr.0))
    (register_of csr.1))
    (and_number number rd.1)) first)
    Form
number_register op first number = grind arith

number_number :
    (op : Op) (first : Option (ℕ × List ℕ)) (number last : List ℕ → Option (Option ℕ)) →
    read_by first operand_and (λ t. ok_or (number t) Form) (λ t. ok_or (last t) Form)
    (word_by_values op CsrImmediate) ≡
    ok_or
    (option_and_then (λ rd. option_and_then (λ csr. option_and_then (λ value.
    Some (csr_immediate_fields op rd.0 csr.0 value)) (last csr.1))
    (and_number number rd.1)) first)
    Form
number_number op first number last = grind arith

number_alone :
    (op : Op) (first : Option (ℕ × List ℕ)) (number : List ℕ → Option (Option ℕ)) →
    read_by first (λ t. Some (t, [])) (λ t. ok_or (number t) Form) (λ t. Ok (Some 0)) (word_by_values op Upper) ≡
    ok_or
    (option_and_then (λ rd. option_and_then (λ n.
    Some (word_with op rd.0 0 0 (option_map (λ n. n * 2 ^ 12) n))) (number rd.1)) first)
    Form
number_alone op first number = grind arith

target_alone :
    (op : Op) (first : Option (ℕ × List ℕ)) (target : List ℕ → Result (Option ℕ) AsmCause) →
    read_by first (λ t. Some (t, [])) target (λ t. Ok (Some 0)) (word_by_values op Jump) ≡
    (ok_or first Form >>= λ rd. target rd.1 >>= λ imm. Ok (word_with op rd.0 0 0 imm))
target_alone op first target = grind arith

abbrev place : (List ℕ → Option (Option ℕ)) → (List ℕ → Option ℕ) → List ℕ → Option (Option ℕ × ℕ)
place number base text =
    option_and_then (λ parts. option_and_then (λ inside. option_and_then (λ offset. option_and_then (λ n.
    if length inside.1 == 0 then Some (offset, n) else None)
    (base inside.0)) (number parts.0)) (cut (byte ")") parts.1)) (cut (byte "(") text)

load :
    (op : Op) (first : Option (ℕ × List ℕ)) (number : List ℕ → Option (Option ℕ))
    (base : List ℕ → Option ℕ) →
    read_by first place_parts (λ t. ok_or (number t) Form)
    (λ t. ok_or (option_map (λ n. Some n) (base t)) Form) (word_by_values op Load) ≡
    ok_or
    (option_and_then (λ rd. option_and_then (λ x. Some (word_with op rd.0 x.1 0 x.0)) (place number base rd.1)) first)
    Form
load op first number base = grind arith

store :
    (op : Op) (first : Option (ℕ × List ℕ)) (number : List ℕ → Option (Option ℕ))
    (base : List ℕ → Option ℕ) →
    read_by first place_parts (λ t. ok_or (number t) Form)
    (λ t. ok_or (option_map (λ n. Some n) (base t)) Form) (word_by_values op Store) ≡
    ok_or
    (option_and_then (λ rs2. option_and_then (λ x. Some (word_with op 0 x.1 rs2.0 x.0)) (place number base rs2.1))
    first)
    Form
store op first number base = grind arith

nothing : (op : Op) (none : Bool) →
    ((if none then Ok (Some 0) else Err Form) >>= λ b. Ok (word_by_values op Bare 0 b (Some 0))) ≡
    ok_or (if none then Some (word_with op 0 0 0 (Some 0)) else None) Form
nothing op true = refl
nothing op false = refl

-- the other forms
abbrev pub Agree : (List ℕ → Option ℕ) → ℕ → Op → List ℕ → Shape → Type 0
Agree places here op text shape = read places here op text shape ≡ operands_word places here op text shape

registers :
    (places : List ℕ → Option ℕ) (here : ℕ) (op : Op) (text : List ℕ) →
    Agree places here op text Registers × Agree places here op text Branch
unfolding register_and two_registers_and registers_word branch_word
registers places here op text = (grind arith, grind arith)

-- what is read of each shape
pub reads :
    (places : List ℕ → Option ℕ) (here : ℕ) (op : Op) (text : List ℕ) (shape : Shape) →
    Agree places here op text shape
unfolding immediate_word place_of load_word store_word upper_word csr_and csr_word csr_immediate_word bare_word
    jump_word
reads places here op text Registers = (registers places here op text).0
reads places here op text Immediate = register_number op (register_and text) (number_in 2048 2047)
reads places here op text Shift = register_number op (register_and text) (number_in 0 31)
reads places here op text Load = load op (register_and text) (number_in 2048 2047) register_of
reads places here op text Store = store op (register_and text) (number_in 2048 2047) register_of
reads places here op text Branch = (registers places here op text).1
reads places here op text Upper = number_alone op (register_and text) (number_in 0 0xFFFFF)
reads places here op text Jump = target_alone op (register_and text) (offset_in places here (2 ^ 20) (2 ^ 20 - 1))
reads places here op text Csr = number_register op (register_and text) (number_in 0 4095)
reads places here op text CsrImmediate =
    number_number op (register_and text) (number_in 0 4095) (number_in 0 31)
reads places here op text Bare = nothing op (length text == 0)
