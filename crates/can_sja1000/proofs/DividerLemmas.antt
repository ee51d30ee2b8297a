-- Bits 4 and 7 of the clock divider stay 0.
use Rattle.std.proofs.Common.{◌≡◌, ◌∙◌, ℕ, bit_and, bit_or, refl}
use Rattle.std.specs.Int.Bits.{and_zero_r}
use Rattle.std.proofs.lemmas.Nat.{and_assoc, and_or_apart}

-- where a mask has none of these bits
masked : (byte mask : ℕ) → bit_and mask 144 ≡ 0 → bit_and (bit_and byte mask) 144 ≡ 0
masked byte mask apart = and_assoc 144 byte mask ∙ (λ i. bit_and byte (apart i)) ∙ and_zero_r byte

-- after a store in reset mode
pub divider_replaced : (byte : ℕ) → bit_and (bit_and byte 111) 144 ≡ 0
divider_replaced byte = masked byte 111 refl

-- after a store in operating mode
pub divider_clock_replaced : (divider byte : ℕ) → bit_and (bit_or (bit_and divider 104) (bit_and byte 7)) 144 ≡ 0
divider_clock_replaced divider byte =
    and_or_apart 144 (bit_and divider 104) (bit_and byte 7) (masked byte 7 refl) ∙ masked divider 104 refl

-- after a store in either mode
pub ruleset dividers = (divider_replaced, divider_clock_replaced)
