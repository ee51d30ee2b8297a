-- The word that an instruction's operands give: of another shape (Form), or with a number outside its field (None).
use Rattle.std.specs.Prelude.{ℕ, ◌-◌, ◌*◌, ◌^◌, ◌==◌, length, List, if◌then◌else◌, Option, Some, None}
use Rattle.std.specs.Option.{option_map, option_and_then}
use Rattle.std.specs.Str.{byte}
use Rattle.rv_decode.specs.declared.instruction.Op.{Op}
use Rattle.rv_asm.specs.Encoded.{word_with}
use Rattle.rv_asm.specs.Texts.{trimmed, cut, register_of}
use Rattle.rv_asm.specs.Numbers.{number_of, in_field}

infixl 10 ◌>>=◌
abbrev pub ◌>>=◌ : {A B : Type 0} → Option A → (A → Option B) → Option B
o >>= f = option_and_then f o

-- the first operand and what follows its comma, without blanks around them
unfoldable pub operand_and : List ℕ → Option (List ℕ × List ℕ)
operand_and text = option_map (λ x. (trimmed x.0, trimmed x.1)) (cut (byte ",") text)

-- a register, and what follows its comma
unfoldable pub register_and : List ℕ → Option (ℕ × List ℕ)
register_and text = do
  parts ← operand_and text
  register ← register_of parts.0
  Some (register, parts.1)

-- a number, as 32 bits if it is from -least to greatest
abbrev pub number_in : ℕ → ℕ → List ℕ → Option (Option ℕ)
number_in least greatest text = option_map (λ number. in_field least greatest number) (number_of text)

-- the number of a control and status register, and what follows its comma
unfoldable pub csr_and : List ℕ → Option (Option ℕ × List ℕ)
csr_and text = do
  parts ← operand_and text
  csr ← number_in 0 4095 parts.0
  Some (csr, parts.1)

-- `number(register)`, a number of 12 bits with a sign
unfoldable pub place_of : List ℕ → Option (Option ℕ × ℕ)
place_of text = do
  parts ← cut (byte "(") text
  inside ← cut (byte ")") parts.1
  offset ← number_in 2048 2047 parts.0
  base ← register_of inside.0
  if length inside.1 == 0 then Some (offset, base) else None

-- `rd, rs1, rs2`
unfoldable pub registers_word : Op → List ℕ → Option (Option ℕ)
registers_word op text = do
  rd ← register_and text
  rs1 ← register_and rd.1
  rs2 ← register_of rs1.1
  Some (word_with op rd.0 rs1.0 rs2 (Some 0))

-- `rd, rs1, number`, the number from -least to greatest
unfoldable pub immediate_word : Op → ℕ → ℕ → List ℕ → Option (Option ℕ)
immediate_word op least greatest text = do
  rd ← register_and text
  rs1 ← register_and rd.1
  imm ← number_in least greatest rs1.1
  Some (word_with op rd.0 rs1.0 0 imm)

-- `rd, number(rs1)`
unfoldable pub load_word : Op → List ℕ → Option (Option ℕ)
load_word op text = do
  rd ← register_and text
  place ← place_of rd.1
  Some (word_with op rd.0 place.1 0 place.0)

-- `rs2, number(rs1)`
unfoldable pub store_word : Op → List ℕ → Option (Option ℕ)
store_word op text = do
  rs2 ← register_and text
  place ← place_of rs2.1
  Some (word_with op 0 place.1 rs2.0 place.0)

-- `rd, number`, the upper 20 bits
unfoldable pub upper_word : Op → List ℕ → Option (Option ℕ)
upper_word op text = do
  rd ← register_and text
  upper ← number_in 0 0xFFFFF rd.1
  Some (word_with op rd.0 0 0 (option_map (λ n. n * 2 ^ 12) upper))

-- `rd, number, rs1`, the number of a control and status register
unfoldable pub csr_word : Op → List ℕ → Option (Option ℕ)
csr_word op text = do
  rd ← register_and text
  csr ← csr_and rd.1
  rs1 ← register_of csr.1
  Some (word_with op rd.0 rs1 0 csr.0)

-- both numbers of an access with an immediate, which stands in the place of rs1
abbrev pub csr_immediate_fields : Op → ℕ → Option ℕ → Option ℕ → Option ℕ
csr_immediate_fields op rd csr value = do
  imm ← csr
  rs1 ← value
  word_with op rd rs1 0 (Some imm)

-- `rd, number, number`
unfoldable pub csr_immediate_word : Op → List ℕ → Option (Option ℕ)
csr_immediate_word op text = do
  rd ← register_and text
  csr ← csr_and rd.1
  value ← number_in 0 31 csr.1
  Some (csr_immediate_fields op rd.0 csr.0 value)

-- no operands
unfoldable pub bare_word : Op → List ℕ → Option (Option ℕ)
bare_word op text =
    if length text == 0 then Some (word_with op 0 0 0 (Some 0)) else None

-- `.word number`, of 32 bits with or without a sign
unfoldable pub directive_word : List ℕ → Option (Option ℕ)
directive_word text = number_in (2 ^ 31) (2 ^ 32 - 1) text

-- two registers, and what follows the second's comma
unfoldable pub two_registers_and : List ℕ → Option (ℕ × ℕ × List ℕ)
two_registers_and text = do
  rs1 ← register_and text
  rs2 ← register_and rs1.1
  Some (rs1.0, rs2.0, rs2.1)
