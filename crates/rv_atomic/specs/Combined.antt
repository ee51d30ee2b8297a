-- What an atomic memory operation stores (RISC-V Unprivileged ISA 20191213, section 8.4).
use Rattle.std.specs.Prelude.{ℕ, if◌then◌else◌, int_lt, nat_lt, bit_and, bit_or, bit_xor}
use Rattle.rv_exec.specs.Word.{add, signed}
use Rattle.rv_atomic.specs.declared.atomic.AtomicOp.{AtomicOp}
use Rattle.rv_atomic.specs.declared.atomic.AtomicOp.TheVariants.{Lr, Sc, Swap, Add, Xor, And, Or, Min, Max, Minu, Maxu}

-- the lesser and the greater of two words, as signed and as unsigned numbers
abbrev pub least : ℕ → ℕ → ℕ
least a b = if int_lt (signed a) (signed b) then a else b

abbrev pub greatest : ℕ → ℕ → ℕ
greatest a b = if int_lt (signed a) (signed b) then b else a

abbrev pub least_unsigned : ℕ → ℕ → ℕ
least_unsigned a b = if nat_lt a b then a else b

abbrev pub greatest_unsigned : ℕ → ℕ → ℕ
greatest_unsigned a b = if nat_lt a b then b else a

-- what the word in memory becomes, by the word and rs2, where the instruction stores: LR, which does not, leaves it
abbrev pub combined : AtomicOp → ℕ → ℕ → ℕ
combined Lr word operand = word
combined Sc word operand = operand
combined Swap word operand = operand
combined Add word operand = add word operand
combined Xor word operand = bit_xor word operand
combined And word operand = bit_and word operand
combined Or word operand = bit_or word operand
combined Min word operand = least word operand
combined Max word operand = greatest word operand
combined Minu word operand = least_unsigned word operand
combined Maxu word operand = greatest_unsigned word operand
