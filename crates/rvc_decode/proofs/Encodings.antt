-- Words that mean an instruction, by format.
use Rattle.std.proofs.Common.{◌≡◌, ℕ, ◌+◌, ◌*◌, ◌/◌, ◌%◌, ◌^◌, ◌<◌, ◌↔◌, refl, ap, ◌∙◌, arith}
use Rattle.std.specs.Prelude.{Some, Contains}
use Rattle.rv_decode.specs.declared.instruction.Op.{Op}
use Rattle.rv_decode.specs.declared.instruction.Instr.{Instr}
use Rattle.rv_decode.specs.declared.instruction.Format.TheVariants.{R, I, IShift, S, B, U, J, Fixed}
use Rattle.rv_decode.specs.Immediate.{field, sign_extended}
use Rattle.rv_decode.specs.Table.{Row, row, table, matched_row}
use Rattle.rv_decode.specs.FixedBits.{fixed_of}
use Rattle.rv_decode.specs.Means.{means, fields_by, IsValid, rd_of, rs1_of, rs2_of}

-- what the rows of words fix, as the decoder of words promises it
abbrev pub Laws : Type 0
Laws =
    (word : ℕ) → (row : Row) → word < 2 ^ 32 → Contains table row →
    (matched_row word ≡ Some row) ↔ (fixed_of row.format word ≡ row.bits)

abbrev pub instr : Op → ℕ → ℕ → ℕ → ℕ → Instr
instr op rd rs1 rs2 imm = record { op = op; rd = rd; rs1 = rs1; rs2 = rs2; imm = imm }

-- a word with the fixed bits of a row means the row's instruction
meant :
    Laws → (r : Row) → Contains table r → (word : ℕ) → word < 2 ^ 32 → fixed_of r.format word ≡ r.bits →
    means word ≡ Some (fields_by r.format r.op word)
unfolding means
meant laws r there word fits fixed = rw ((laws word r fits there).1 fixed) refl

valid_by :
    Laws → (r : Row) → Contains table r → (word : ℕ) → word < 2 ^ 32 → fixed_of r.format word ≡ r.bits →
    (i : Instr) → fields_by r.format r.op word ≡ i → IsValid i
valid_by laws r there word fits fixed i is = (word, fits, meant laws r there word fits fixed ∙ ap Some is)

pub valid_r :
    Laws → (op : Op) (code funct3 funct7 rd rs1 rs2 : ℕ) → code < 2 ^ 7 → funct3 < 2 ^ 3 → funct7 < 2 ^ 7 →
    Contains table (row 0xFE00707F (code + funct3 * 2 ^ 12 + funct7 * 2 ^ 25) R op) →
    rd < 32 → rs1 < 32 → rs2 < 32 → IsValid (instr op rd rs1 rs2 0)
valid_r laws op code funct3 funct7 rd rs1 rs2 hc hf hg there hd h1 h2 =
    let word = code + rd * 2 ^ 7 + funct3 * 2 ^ 12 + rs1 * 2 ^ 15 + rs2 * 2 ^ 20 + funct7 * 2 ^ 25 in
    let a : rd_of word ≡ rd = omega arith in
    let b : rs1_of word ≡ rs1 = omega arith in
    let c : rs2_of word ≡ rs2 = omega arith in
    valid_by laws (row 0xFE00707F (code + funct3 * 2 ^ 12 + funct7 * 2 ^ 25) R op) there word (omega arith)
    (omega arith) (instr op rd rs1 rs2 0) (rw (a, b, c) refl)

pub valid_i :
    Laws → (op : Op) (code funct3 rd rs1 n imm : ℕ) → code < 2 ^ 7 → funct3 < 2 ^ 3 →
    Contains table (row 0x707F (code + funct3 * 2 ^ 12) I op) →
    rd < 32 → rs1 < 32 → n < 2 ^ 12 → imm ≡ sign_extended 12 n → IsValid (instr op rd rs1 0 imm)
valid_i laws op code funct3 rd rs1 n imm hc hf there hd h1 hn is =
    let word = code + rd * 2 ^ 7 + funct3 * 2 ^ 12 + rs1 * 2 ^ 15 + n * 2 ^ 20 in
    let a : rd_of word ≡ rd = omega arith in
    let b : rs1_of word ≡ rs1 = omega arith in
    let c : field word 20 12 ≡ n = omega arith in
    valid_by laws (row 0x707F (code + funct3 * 2 ^ 12) I op) there word (omega arith)
    (omega arith) (instr op rd rs1 0 imm) (rw (a, b, c, is) refl)

pub valid_shift :
    Laws → (op : Op) (code funct3 funct7 rd rs1 n : ℕ) → code < 2 ^ 7 → funct3 < 2 ^ 3 → funct7 < 2 ^ 7 →
    Contains table (row 0xFE00707F (code + funct3 * 2 ^ 12 + funct7 * 2 ^ 25) IShift op) →
    rd < 32 → rs1 < 32 → n < 32 → IsValid (instr op rd rs1 0 n)
valid_shift laws op code funct3 funct7 rd rs1 n hc hf hg there hd h1 hn =
    let word = code + rd * 2 ^ 7 + funct3 * 2 ^ 12 + rs1 * 2 ^ 15 + n * 2 ^ 20 + funct7 * 2 ^ 25 in
    let a : rd_of word ≡ rd = omega arith in
    let b : rs1_of word ≡ rs1 = omega arith in
    let c : field word 20 5 ≡ n = omega arith in
    valid_by laws (row 0xFE00707F (code + funct3 * 2 ^ 12 + funct7 * 2 ^ 25) IShift op) there word (omega arith)
    (omega arith) (instr op rd rs1 0 n) (rw (a, b, c) refl)

pub valid_s :
    Laws → (op : Op) (code funct3 rs1 rs2 n imm : ℕ) → code < 2 ^ 7 → funct3 < 2 ^ 3 →
    Contains table (row 0x707F (code + funct3 * 2 ^ 12) S op) →
    rs1 < 32 → rs2 < 32 → n < 2 ^ 12 → imm ≡ sign_extended 12 n → IsValid (instr op 0 rs1 rs2 imm)
valid_s laws op code funct3 rs1 rs2 n imm hc hf there h1 h2 hn is =
    let word = code + n % 32 * 2 ^ 7 + funct3 * 2 ^ 12 + rs1 * 2 ^ 15 + rs2 * 2 ^ 20 + n / 32 * 2 ^ 25 in
    let a : rs1_of word ≡ rs1 = omega arith in
    let b : rs2_of word ≡ rs2 = omega arith in
    let c : field word 25 7 * 2 ^ 5 + field word 7 5 ≡ n = omega arith in
    valid_by laws (row 0x707F (code + funct3 * 2 ^ 12) S op) there word (omega arith)
    (omega arith) (instr op 0 rs1 rs2 imm) (rw (a, b, c, is) refl)

pub valid_b :
    Laws → (op : Op) (code funct3 rs1 rs2 p q r s imm : ℕ) → code < 2 ^ 7 → funct3 < 2 ^ 3 →
    Contains table (row 0x707F (code + funct3 * 2 ^ 12) B op) →
    rs1 < 32 → rs2 < 32 → p < 2 → q < 2 → r < 2 ^ 6 → s < 2 ^ 4 →
    imm ≡ sign_extended 13 (p * 2 ^ 12 + q * 2 ^ 11 + r * 2 ^ 5 + s * 2) → IsValid (instr op 0 rs1 rs2 imm)
valid_b laws op code funct3 rs1 rs2 p q r s imm hc hf there h1 h2 hp hq hr hs is =
    let word =
    code + q * 2 ^ 7 + s * 2 ^ 8 + funct3 * 2 ^ 12 + rs1 * 2 ^ 15 + rs2 * 2 ^ 20 + r * 2 ^ 25 + p * 2 ^ 31 in
    let a : rs1_of word ≡ rs1 = omega arith in
    let b : rs2_of word ≡ rs2 = omega arith in
    let c : field word 31 1 ≡ p = omega arith in
    let d : field word 7 1 ≡ q = omega arith in
    let e : field word 25 6 ≡ r = omega arith in
    let f : field word 8 4 ≡ s = omega arith in
    valid_by laws (row 0x707F (code + funct3 * 2 ^ 12) B op) there word (omega arith)
    (omega arith) (instr op 0 rs1 rs2 imm) (rw (a, b, c, d, e, f, is) refl)

pub valid_u :
    Laws → (op : Op) (code rd n imm : ℕ) → code < 2 ^ 7 → Contains table (row 0x7F code U op) →
    rd < 32 → n < 2 ^ 20 → imm ≡ n * 2 ^ 12 → IsValid (instr op rd 0 0 imm)
valid_u laws op code rd n imm hc there hd hn is =
    let word = code + rd * 2 ^ 7 + n * 2 ^ 12 in
    let a : rd_of word ≡ rd = omega arith in
    let b : field word 12 20 ≡ n = omega arith in
    valid_by laws (row 0x7F code U op) there word (omega arith)
    (omega arith) (instr op rd 0 0 imm) (rw (a, b, is) refl)

pub valid_j :
    Laws → (op : Op) (code rd p q r s imm : ℕ) → code < 2 ^ 7 → Contains table (row 0x7F code J op) →
    rd < 32 → p < 2 → q < 2 ^ 8 → r < 2 → s < 2 ^ 10 →
    imm ≡ sign_extended 21 (p * 2 ^ 20 + q * 2 ^ 12 + r * 2 ^ 11 + s * 2) → IsValid (instr op rd 0 0 imm)
valid_j laws op code rd p q r s imm hc there hd hp hq hr hs is =
    let word = code + rd * 2 ^ 7 + q * 2 ^ 12 + r * 2 ^ 20 + s * 2 ^ 21 + p * 2 ^ 31 in
    let a : rd_of word ≡ rd = omega arith in
    let b : field word 31 1 ≡ p = omega arith in
    let c : field word 12 8 ≡ q = omega arith in
    let d : field word 20 1 ≡ r = omega arith in
    let e : field word 21 10 ≡ s = omega arith in
    valid_by laws (row 0x7F code J op) there word (omega arith)
    (omega arith) (instr op rd 0 0 imm) (rw (a, b, c, d, e, is) refl)

pub valid_fixed :
    Laws → (op : Op) (word : ℕ) → word < 2 ^ 32 → Contains table (row 0xFFFFFFFF word Fixed op) →
    IsValid (instr op 0 0 0 0)
valid_fixed laws op word fits there =
    valid_by laws (row 0xFFFFFFFF word Fixed op) there word fits refl (instr op 0 0 0 0) refl
