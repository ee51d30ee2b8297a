-- What a mask leaves of a word: the bits of the interrupts, which are 0 where none of the three is set, and a mode.
use Rattle.std.proofs.Common.{◌≡◌, ℕ, ◌^◌, ◌≢◌, ◌==◌, ◌||◌, not, true, false, is_none, arith, inl, inr, refl, sym, ap}
use Rattle.std.specs.Prelude.{bit_and, bit_or}
use Rattle.std.specs.Int.{bit_at}
use Rattle.std.proofs.lemmas.Bool.{cases_Bool, cases_eq, eq-eqb, eqb-false, eqb-true, ne_eqb}
use Rattle.std.proofs.lemmas.Nat.Bits.{bit_at_and, bit_at_or, bit_at-pow_other, bit_at-lt, bit_at-zero, same_from_bits}
use Rattle.std.proofs.lemmas.Nat.{and_assoc}
use Rattle.rv_hart.specs.Cause.{interrupt_bits}
use Rattle.rv_hart.specs.Core.{Core}
use Rattle.rv_hart.specs.Trap.{chosen, is_set, most_urgent}

-- a bit that is not set is 0
pub bit_at-unset : (word n : ℕ) → is_set word n ≡ false → bit_at word n ≡ 0
bit_at-unset word n unset =
    let other : bit_at word n ≢ 1 = eqb-false (bit_at word n) 1 unset in omega (arith, bit_at-lt word n)

-- bits other than 3, 7 and 11 are none of the interrupts'
pub bit_at-interrupt_bits : (i : ℕ) → i ≢ 3 → i ≢ 7 → i ≢ 11 → bit_at interrupt_bits i ≡ 0
bit_at-interrupt_bits i not_3 not_7 not_11 =
    let or_pows : bit_at (bit_or (bit_or (2 ^ 3) (2 ^ 7)) (2 ^ 11)) i ≡ 0 =
    rw (bit_at_or (bit_or (2 ^ 3) (2 ^ 7)) (2 ^ 11) i, bit_at_or (2 ^ 3) (2 ^ 7) i)
    (omega (arith, bit_at-pow_other 3 i not_3, bit_at-pow_other 7 i not_7, bit_at-pow_other 11 i not_11)) in
    or_pows

-- with none of the three set, no interrupt is ready
pub ready-none :
    (mip mie : ℕ) → bit_and mie interrupt_bits ≡ mie → is_set (bit_and mip mie) 11 ≡ false →
    is_set (bit_and mip mie) 3 ≡ false → is_set (bit_and mip mie) 7 ≡ false → bit_and mip mie ≡ 0
ready-none mip mie enables no_11 no_3 no_7 =
    same_from_bits (bit_and mip mie) 0 (λ i.
    let zero : bit_at 0 i ≡ 0 = bit_at-zero i in
    let both = bit_at_and mip mie i in
    let within = bit_at_and mie interrupt_bits i in
    let same = ap (λ (n : ℕ). bit_at n i) enables in
    elim (cases_eq i 11) [
      | inl e ↦ rw e (bit_at-unset (bit_and mip mie) 11 no_11)
      | inr not_11 ↦ elim (cases_eq i 3) [
        | inl e ↦ rw e (bit_at-unset (bit_and mip mie) 3 no_3)
        | inr not_3 ↦ elim (cases_eq i 7) [
          | inl e ↦ rw e (bit_at-unset (bit_and mip mie) 7 no_7)
          | inr not_7 ↦ omega (arith, bit_at-interrupt_bits i not_3 not_7 not_11)
        ]
      ]
    ])

-- a word with a bit set is not 0
pub eqb-set : (word n : ℕ) → is_set word n ≡ true → (word == 0) ≡ false
eqb-set word n set =
    ne_eqb word 0 (λ zero.
    let at_zero : bit_at word n ≡ 0 = rw zero (bit_at-zero n) in
    let at_one : bit_at word n ≡ 1 = eqb-true (bit_at word n) 1 set in
    omega arith)

-- there is no interrupt to take exactly where MIE is 0 or none is both pending and enabled
pub is_none-chosen :
    (core : Core) (mip : ℕ) → bit_and core.mie interrupt_bits ≡ core.mie →
    is_none (chosen core mip) ≡ (not core.mstatus_mie || bit_and mip core.mie == 0)
unfolding chosen most_urgent
is_none-chosen core mip enables =
    let word = bit_and mip core.mie in
    elim (cases_Bool core.mstatus_mie) [
      | inr off ↦ rw off refl
      | inl on ↦ elim (cases_Bool (is_set word 11)) [
        | inl set ↦ rw (on, set) (sym (eqb-set word 11 set))
        | inr no_11 ↦ elim (cases_Bool (is_set word 3)) [
          | inl set ↦ rw (on, no_11, set) (sym (eqb-set word 3 set))
          | inr no_3 ↦ elim (cases_Bool (is_set word 7)) [
            | inl set ↦ rw (on, no_11, no_3, set) (sym (eqb-set word 7 set))
            | inr no_7 ↦
                rw (on, no_11, no_3, no_7) (sym (eq-eqb word 0 (ready-none mip core.mie enables no_11 no_3 no_7)))
          ]
        ]
      ]
    ]

-- a word that has only the bits of the interrupts keeps them under their mask
pub interrupt_bits-twice :
    (word : ℕ) → bit_and (bit_and word interrupt_bits) interrupt_bits ≡ bit_and word interrupt_bits
interrupt_bits-twice word = and_assoc interrupt_bits word interrupt_bits

-- a word with bit 1 masked out has it 0
pub bit_at-mode : (word : ℕ) → bit_at (bit_and word 0xFFFFFFFD) 1 ≡ 0
bit_at-mode word = omega (arith, bit_at_and word 0xFFFFFFFD 1)
