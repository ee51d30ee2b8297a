-- What the mask of a row leaves of a word: its fields, as far as the mask covers them.
use Rattle.std.proofs.Common.{◌≡◌, ℕ, ◌+◌, ◌*◌, ◌/◌, ◌%◌, ◌^◌, ◌<◌, ◌&&◌, ◌==◌, ap, ◌∙◌, arith}
use Rattle.std.specs.Prelude.{bit_and}
use Rattle.std.proofs.lemmas.Nat.{and_mask, and_block}
use Rattle.std.proofs.lemmas.Bool.Decides.{nat_tests}
use Rattle.rv_decode.specs.Immediate.{field}
use Rattle.rv_decode.proofs.Masks.{mask_funct3}

-- the low 20 bits, and rs2 above them
mask_rs2 : (w : ℕ) → bit_and w 0x1F0707F ≡ field w 0 7 + field w 12 3 * 2 ^ 12 + field w 20 5 * 2 ^ 20
mask_rs2 w =
    let split : w ≡ w / 2 ^ 20 * 2 ^ 20 + w % 2 ^ 20 = omega arith in
    let whole = and_block 20 (w / 2 ^ 20) 31 (w % 2 ^ 20) 0x707F (omega arith) (omega arith) in
    ap (λ v. bit_and v 0x1F0707F) split ∙ whole ∙
    rw (and_mask (w / 2 ^ 20) 5, mask_funct3 (w % 2 ^ 20)) (omega arith)

-- the low 27 bits, and the upper five
pub mask_free :
    (w : ℕ) → w < 2 ^ 32 → bit_and w 0xF800707F ≡ field w 0 7 + field w 12 3 * 2 ^ 12 + field w 27 5 * 2 ^ 27
mask_free w fits =
    let split : w ≡ w / 2 ^ 27 * 2 ^ 27 + w % 2 ^ 27 = omega arith in
    let whole = and_block 27 (w / 2 ^ 27) 31 (w % 2 ^ 27) 0x707F (omega arith) (omega arith) in
    ap (λ v. bit_and v 0xF800707F) split ∙ whole ∙
    rw (and_mask (w / 2 ^ 27) 5, mask_funct3 (w % 2 ^ 27)) (omega arith)

pub mask_fixed :
    (w : ℕ) → w < 2 ^ 32 →
    bit_and w 0xF9F0707F ≡ field w 0 7 + field w 12 3 * 2 ^ 12 + field w 20 5 * 2 ^ 20 + field w 27 5 * 2 ^ 27
mask_fixed w fits =
    let split : w ≡ w / 2 ^ 27 * 2 ^ 27 + w % 2 ^ 27 = omega arith in
    let whole = and_block 27 (w / 2 ^ 27) 31 (w % 2 ^ 27) 0x1F0707F (omega arith) (omega arith) in
    ap (λ v. bit_and v 0xF9F0707F) split ∙ whole ∙
    rw (and_mask (w / 2 ^ 27) 5, mask_rs2 (w % 2 ^ 27)) (omega arith)

-- sums of fields are one where the fields are
pub three_fields :
    (x y z c k j : ℕ) → x < 128 → c < 128 → y < 8 → k < 8 →
    (x + y * 2 ^ 12 + z * 2 ^ 27 == c + k * 2 ^ 12 + j * 2 ^ 27) ≡ ((x == c) && ((y == k) && (z == j)))
three_fields x y z c k j hx hc hy hk = grind (arith, nat_tests)

pub four_fields :
    (x y r z c k q j : ℕ) → x < 128 → c < 128 → y < 8 → k < 8 → r < 32 → q < 32 →
    (x + y * 2 ^ 12 + r * 2 ^ 20 + z * 2 ^ 27 == c + k * 2 ^ 12 + q * 2 ^ 20 + j * 2 ^ 27) ≡
    ((x == c) && ((y == k) && ((z == j) && (r == q))))
four_fields x y r z c k q j hx hc hy hk hr hq = grind (arith, nat_tests)
