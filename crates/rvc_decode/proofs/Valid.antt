-- Each row of the table gives valid instructions: some word means each of them.
use Rattle.std.proofs.Common.{◌≡◌, ℕ, ◌+◌, ◌*◌, ◌/◌, ◌%◌, ◌^◌, ◌<◌, Bool, refl, subst, List, []}
use Rattle.std.proofs.Common.{◌∷◌, lit<, inl, inr, arith}
use Rattle.std.specs.Prelude.{Option, Some, None, IfSome, find, Contains}
use Rattle.std.specs.Option.{option_map}
use Rattle.std.proofs.lemmas.Bool.{cases_Bool}
use Rattle.std.proofs.lemmas.Bool.Decides.{nat_tests}
use Rattle.rv_decode.specs.declared.instruction.Op.{Op}
use Rattle.rv_decode.specs.declared.instruction.Op.TheVariants.{Lui, Jal, Jalr, Beq, Bne, Lw, Sw, Addi, Andi, Slli}
use Rattle.rv_decode.specs.declared.instruction.Op.TheVariants.{Srli, Srai, Add, Sub, Xor, Or, And, Ebreak}
use Rattle.rv_decode.specs.declared.instruction.Format.TheVariants.{R, I, IShift, B}
use Rattle.rv_decode.specs.Immediate.{field, sign_extended}
use Rattle.rv_decode.specs.Table.{row as word_row, table as words}
use Rattle.rv_decode.specs.Means.{IsValid}
use Rattle.rvc_decode.specs.Immediate.{Immediate, immediate_of, imm_none, imm_addi4spn, imm_word}
use Rattle.rvc_decode.specs.Immediate.{imm_small, imm_jump, imm_addi16sp, imm_lui, imm_shift, imm_branch, imm_lwsp}
use Rattle.rvc_decode.specs.Immediate.{imm_swsp}
use Rattle.rvc_decode.specs.Table.{Register, X0, X1, X2, Rd, Rs2, Rd', Rs2', Always, Row, row, table, matches}
use Rattle.rvc_decode.specs.Table.{matched_row}
use Rattle.rvc_decode.specs.Means.{number_of, expanded, expansion}
use Rattle.rvc_decode.proofs.Encodings.{Laws, valid_r, valid_i, valid_shift, valid_s, valid_b, valid_u, valid_j}
use Rattle.rvc_decode.proofs.Encodings.{valid_fixed}

number_fits : (r : Register) (half : ℕ) → number_of r half < 32
number_fits X0 half = lit< tt
number_fits X1 half = lit< tt
number_fits X2 half = lit< tt
number_fits Rd half = omega arith
number_fits Rs2 half = omega arith
number_fits Rd' half = omega arith
number_fits Rs2' half = omega arith

-- the immediates, as those of words: twelve bits with a sign
abbrev IsTwelve : Immediate → Type 0
IsTwelve imm = (half : ℕ) → (n : ℕ) × (n < 2 ^ 12) × (immediate_of imm half ≡ sign_extended 12 n)

unsigned_12 : (n : ℕ) → n < 2 ^ 11 → n ≡ sign_extended 12 n
unsigned_12 n fits = grind (arith, nat_tests)

extended_6 : (c d : ℕ) → c < 2 → d < 2 ^ 5 → sign_extended 6 (c * 2 ^ 5 + d) ≡ sign_extended 12 (c * 4064 + d)
extended_6 c d hc hd = grind (arith, nat_tests)

extended_10 : (c d : ℕ) → c < 2 → d < 2 ^ 9 → sign_extended 10 (c * 2 ^ 9 + d) ≡ sign_extended 12 (c * 3584 + d)
extended_10 c d hc hd = grind (arith, nat_tests)

twelve_bits : (imm : Immediate) → ((half : ℕ) → immediate_of imm half < 2 ^ 11) → IsTwelve imm
twelve_bits imm fits half =
    let n = immediate_of imm half in
    let below : n < 2 ^ 11 = fits half in
    (n, omega (arith, below), unsigned_12 n below)

twelve_none : IsTwelve imm_none
twelve_none = twelve_bits imm_none (λ half. lit< tt)

twelve_addi4spn : IsTwelve imm_addi4spn
twelve_addi4spn = twelve_bits imm_addi4spn (λ half. omega arith)

twelve_word : IsTwelve imm_word
twelve_word = twelve_bits imm_word (λ half. omega arith)

twelve_lwsp : IsTwelve imm_lwsp
twelve_lwsp = twelve_bits imm_lwsp (λ half. omega arith)

twelve_swsp : IsTwelve imm_swsp
twelve_swsp = twelve_bits imm_swsp (λ half. omega arith)

twelve_small : IsTwelve imm_small
twelve_small half =
    let rest = field half 2 5 * 2 ^ 0 + 0 in
    (field half 12 1 * 4064 + rest, omega arith, extended_6 (field half 12 1) rest (omega arith) (omega arith))

twelve_addi16sp : IsTwelve imm_addi16sp
twelve_addi16sp half =
    let rest =
    field half 6 1 * 2 ^ 4 + (field half 5 1 * 2 ^ 6 + (field half 3 2 * 2 ^ 7 + (field half 2 1 * 2 ^ 5 + 0))) in
    (field half 12 1 * 3584 + rest, omega arith, extended_10 (field half 12 1) rest (omega arith) (omega arith))

-- the instructions that such fields make are valid
abbrev AreValid : Op → Register → Register → Register → Immediate → Type 0
AreValid op rd rs1 rs2 imm = (half : ℕ) → IsValid (expanded (row 0 0 Always op rd rs1 rs2 imm) half)

valid_twelve :
    Laws → (op : Op) (code funct3 : ℕ) → code < 2 ^ 7 → funct3 < 2 ^ 3 →
    Contains words (word_row 0x707F (code + funct3 * 2 ^ 12) I op) →
    (rd rs1 : Register) (imm : Immediate) → IsTwelve imm → AreValid op rd rs1 X0 imm
valid_twelve laws op code funct3 hc hf there rd rs1 imm twelve half =
    let n = twelve half in
    valid_i laws op code funct3 (number_of rd half) (number_of rs1 half) n.0 (immediate_of imm half) hc hf there
    (number_fits rd half) (number_fits rs1 half) n.1 n.2

addi : Laws → (rd rs1 : Register) (imm : Immediate) → IsTwelve imm → AreValid Addi rd rs1 X0 imm
addi laws = valid_twelve laws Addi 0x13 0 (lit< tt) (lit< tt) (18, lit< tt, refl)

andi : Laws → (rd rs1 : Register) (imm : Immediate) → IsTwelve imm → AreValid Andi rd rs1 X0 imm
andi laws = valid_twelve laws Andi 0x13 7 (lit< tt) (lit< tt) (23, lit< tt, refl)

lw : Laws → (rd rs1 : Register) (imm : Immediate) → IsTwelve imm → AreValid Lw rd rs1 X0 imm
lw laws = valid_twelve laws Lw 0x03 2 (lit< tt) (lit< tt) (12, lit< tt, refl)

jalr : Laws → (rd rs1 : Register) → AreValid Jalr rd rs1 X0 imm_none
jalr laws rd rs1 =
    valid_twelve laws Jalr 0x67 0 (lit< tt) (lit< tt) (3, lit< tt, refl) rd rs1 imm_none twelve_none

sw : Laws → (rs1 rs2 : Register) (imm : Immediate) → IsTwelve imm → AreValid Sw X0 rs1 rs2 imm
sw laws rs1 rs2 imm twelve half =
    let n = twelve half in
    valid_s laws Sw 0x23 2 (number_of rs1 half) (number_of rs2 half) n.0 (immediate_of imm half) (lit< tt) (lit< tt)
    (17, lit< tt, refl) (number_fits rs1 half) (number_fits rs2 half) n.1 n.2

shift :
    Laws → (op : Op) (funct3 funct7 : ℕ) → funct3 < 2 ^ 3 → funct7 < 2 ^ 7 →
    Contains words (word_row 0xFE00707F (0x13 + funct3 * 2 ^ 12 + funct7 * 2 ^ 25) IShift op) →
    (rd : Register) → AreValid op rd rd X0 imm_shift
shift laws op funct3 funct7 hf hg there rd half =
    valid_shift laws op 0x13 funct3 funct7 (number_of rd half) (number_of rd half) _ (lit< tt) hf hg there
    (number_fits rd half) (number_fits rd half) (omega arith)

registers :
    Laws → (op : Op) (funct3 funct7 : ℕ) → funct3 < 2 ^ 3 → funct7 < 2 ^ 7 →
    Contains words (word_row 0xFE00707F (0x33 + funct3 * 2 ^ 12 + funct7 * 2 ^ 25) R op) →
    (rd rs1 rs2 : Register) → AreValid op rd rs1 rs2 imm_none
registers laws op funct3 funct7 hf hg there rd rs1 rs2 half =
    valid_r laws op 0x33 funct3 funct7 (number_of rd half) (number_of rs1 half) (number_of rs2 half) (lit< tt) hf hg
    there (number_fits rd half) (number_fits rs1 half) (number_fits rs2 half)

extended_18 :
    (c d : ℕ) → c < 2 → d < 2 ^ 5 →
    sign_extended 18 (c * 2 ^ 17 + (d * 2 ^ 12 + 0)) ≡ (c * 1048544 + d) * 2 ^ 12
extended_18 c d hc hd = grind (arith, nat_tests)

lui : Laws → (rd : Register) → AreValid Lui rd X0 X0 imm_lui
lui laws rd half =
    valid_u laws Lui 0x37 (number_of rd half) (field half 12 1 * 1048544 + field half 2 5) _ (lit< tt)
    (0, lit< tt, refl) (number_fits rd half) (omega arith)
    (extended_18 (field half 12 1) (field half 2 5) (omega arith) (omega arith))

extended_jump :
    (c d : ℕ) → c < 2 → d < 2 ^ 11 → d % 2 ≡ 0 →
    sign_extended 12 (c * 2 ^ 11 + d) ≡
    sign_extended 21 (c * 2 ^ 20 + c * 255 * 2 ^ 12 + c * 2 ^ 11 + d / 2 * 2)
extended_jump c d hc hd even = grind (arith, nat_tests)

jal : Laws → (rd : Register) → AreValid Jal rd X0 X0 imm_jump
jal laws rd half =
    let c = field half 12 1 in
    let rest =
    field half 11 1 * 2 ^ 4 + (field half 9 2 * 2 ^ 8 + (field half 8 1 * 2 ^ 10 + (field half 7 1 * 2 ^ 6 +
    (field half 6 1 * 2 ^ 7 + (field half 3 3 * 2 ^ 1 + (field half 2 1 * 2 ^ 5 + 0)))))) in
    let fits : rest < 2 ^ 11 = omega arith in
    valid_j laws Jal 0x6F (number_of rd half) c (c * 255) c (rest / 2) _ (lit< tt) (2, lit< tt, refl)
    (number_fits rd half) (omega arith) (omega arith) (omega arith) (omega (arith, fits))
    (extended_jump c rest (omega arith) fits (omega arith))

extended_branch :
    (c d : ℕ) → c < 2 → d < 2 ^ 8 → d % 2 ≡ 0 →
    sign_extended 9 (c * 2 ^ 8 + d) ≡
    sign_extended 13 (c * 2 ^ 12 + c * 2 ^ 11 + (c * 56 + d / 32) * 2 ^ 5 + d / 2 % 16 * 2)
extended_branch c d hc hd even = grind (arith, nat_tests)

branch :
    Laws → (op : Op) (funct3 : ℕ) → funct3 < 2 ^ 3 → Contains words (word_row 0x707F (0x63 + funct3 * 2 ^ 12) B op) →
    (rs1 : Register) → AreValid op X0 rs1 X0 imm_branch
branch laws op funct3 hf there rs1 half =
    let c = field half 12 1 in
    let rest =
    field half 10 2 * 2 ^ 3 + (field half 5 2 * 2 ^ 6 + (field half 3 2 * 2 ^ 1 + (field half 2 1 * 2 ^ 5 + 0))) in
    let fits : rest < 2 ^ 8 = omega arith in
    valid_b laws op 0x63 funct3 (number_of rs1 half) 0 c c (c * 56 + rest / 32) (rest / 2 % 16) _ (lit< tt) hf there
    (number_fits rs1 half) (lit< tt) (omega arith) (omega arith) (omega (arith, fits)) (omega arith)
    (extended_branch c rest (omega arith) fits (omega arith))

-- rows that give valid instructions
abbrev IsSound : Row → Type 0
IsSound row = (half : ℕ) → IsValid (expanded row half)

data AreSound : List Row → Type 0 where
  done : AreSound []
  ◌▸◌ : {row : Row} {rows : List Row} → IsSound row → AreSound rows → AreSound (row ∷ rows)

infixr 5 ◌▸◌
all_sound : Laws → AreSound table
all_sound laws =
    addi laws Rs2' X2 imm_addi4spn twelve_addi4spn ▸
    lw laws Rs2' Rd' imm_word twelve_word ▸
    sw laws Rd' Rs2' imm_word twelve_word ▸
    addi laws Rd Rd imm_small twelve_small ▸
    jal laws X1 ▸
    addi laws Rd X0 imm_small twelve_small ▸
    addi laws X2 X2 imm_addi16sp twelve_addi16sp ▸
    lui laws Rd ▸
    shift laws Srli 5 0 (lit< tt) (lit< tt) (25, lit< tt, refl) Rd' ▸
    shift laws Srai 5 32 (lit< tt) (lit< tt) (26, lit< tt, refl) Rd' ▸
    andi laws Rd' Rd' imm_small twelve_small ▸
    registers laws Sub 0 32 (lit< tt) (lit< tt) (28, lit< tt, refl) Rd' Rd' Rs2' ▸
    registers laws Xor 4 0 (lit< tt) (lit< tt) (32, lit< tt, refl) Rd' Rd' Rs2' ▸
    registers laws Or 6 0 (lit< tt) (lit< tt) (35, lit< tt, refl) Rd' Rd' Rs2' ▸
    registers laws And 7 0 (lit< tt) (lit< tt) (36, lit< tt, refl) Rd' Rd' Rs2' ▸
    jal laws X0 ▸
    branch laws Beq 0 (lit< tt) (4, lit< tt, refl) Rd' ▸
    branch laws Bne 1 (lit< tt) (5, lit< tt, refl) Rd' ▸
    shift laws Slli 1 0 (lit< tt) (lit< tt) (24, lit< tt, refl) Rd ▸
    lw laws Rd X2 imm_lwsp twelve_lwsp ▸
    jalr laws X0 Rd ▸
    registers laws Add 0 0 (lit< tt) (lit< tt) (27, lit< tt, refl) Rd X0 Rs2 ▸
    (λ half. valid_fixed laws Ebreak 0x00100073 (lit< tt) (40, lit< tt, refl)) ▸
    jalr laws X1 Rd ▸
    registers laws Add 0 0 (lit< tt) (lit< tt) (27, lit< tt, refl) Rd Rd Rs2 ▸
    sw laws X2 Rs2 imm_swsp twelve_swsp ▸
    done

sound_found :
    (test : Row → Bool) (rows : List Row) (row : Row) → AreSound rows → find test rows ≡ Some row → IsSound row
sound_found test [] row sound found = cc
sound_found test (first ∷ rows) row (one ▸ others) found =
    elim (cases_Bool (test first)) [
      | inl here ↦
          let is : Some first ≡ Some row = rw here at found in
          let same : first ≡ row = cc in
          subst IsSound same one
      | inr other ↦ sound_found test rows row others (rw other at found)
    ]

pub expansion-valid : Laws → (half : ℕ) → IfSome (expansion half) IsValid
unfolding expansion matched_row
expansion-valid laws half =
    from_row (find (matches half) table)
    (λ row found. sound_found (matches half) table row (all_sound laws) found half)
  where
    from_row :
        (found : Option Row) → ((row : Row) → found ≡ Some row → IsValid (expanded row half)) →
        IfSome (option_map (λ row. expanded row half) found) IsValid
    from_row None sound = tt
    from_row (Some row) sound = sound row refl
