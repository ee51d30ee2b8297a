-- What the mask of a row leaves of a word: its fields, as far as the mask covers them.
use Rattle.std.proofs.Common.{◌≡◌, ℕ, ◌+◌, ◌*◌, ◌/◌, ◌%◌, ◌^◌, ◌<◌, ◌&&◌, ◌==◌, ap, ◌∙◌, arith}
use Rattle.std.specs.Prelude.{bit_and}
use Rattle.std.proofs.lemmas.Nat.{and_mask, and_block}
use Rattle.std.proofs.lemmas.Bool.Decides.{nat_tests}
use Rattle.rv_decode.specs.Immediate.{field}

pub mask_opcode : (w : ℕ) → bit_and w 0x7F ≡ field w 0 7
mask_opcode w = and_mask w 7 ∙ omega arith

-- the low twelve bits, and those above
pub mask_funct3 : (w : ℕ) → bit_and w 0x707F ≡ field w 0 7 + field w 12 3 * 2 ^ 12
mask_funct3 w =
    let split : w ≡ w / 2 ^ 12 * 2 ^ 12 + w % 2 ^ 12 = omega arith in
    let whole = and_block 12 (w / 2 ^ 12) 7 (w % 2 ^ 12) 127 (omega arith) (omega arith) in
    ap (λ v. bit_and v 0x707F) split ∙ whole ∙
    rw (and_mask (w / 2 ^ 12) 3, and_mask (w % 2 ^ 12) 7) (omega arith)

-- the low 25 bits, and those above
pub mask_funct7 :
    (w : ℕ) → w < 2 ^ 32 → bit_and w 0xFE00707F ≡ field w 0 7 + field w 12 3 * 2 ^ 12 + field w 25 7 * 2 ^ 25
mask_funct7 w fits =
    let split : w ≡ w / 2 ^ 25 * 2 ^ 25 + w % 2 ^ 25 = omega arith in
    let whole = and_block 25 (w / 2 ^ 25) 127 (w % 2 ^ 25) 0x707F (omega arith) (omega arith) in
    ap (λ v. bit_and v 0xFE00707F) split ∙ whole ∙
    rw (and_mask (w / 2 ^ 25) 7, mask_funct3 (w % 2 ^ 25)) (omega arith)

pub mask_word : (w : ℕ) → w < 2 ^ 32 → bit_and w 0xFFFFFFFF ≡ w
mask_word w fits = and_mask w 32 ∙ omega arith

-- sums of fields are one where the fields are
pub two_fields :
    (x y c k : ℕ) → x < 128 → c < 128 →
    (x + y * 2 ^ 12 == c + k * 2 ^ 12) ≡ ((x == c) && (y == k))
two_fields x y c k hx hc = grind (arith, nat_tests)

pub three_fields :
    (x y z c k j : ℕ) → x < 128 → c < 128 → y < 8 → k < 8 →
    (x + y * 2 ^ 12 + z * 2 ^ 25 == c + k * 2 ^ 12 + j * 2 ^ 25) ≡ ((x == c) && ((z == j) && (y == k)))
three_fields x y z c k j hx hc hy hk = grind (arith, nat_tests)

-- a word is another only where its opcode is the other's
pub same_word : (w bits : ℕ) → (w == bits) ≡ ((field w 0 7 == field bits 0 7) && (w == bits))
same_word w bits = grind (arith, nat_tests)
