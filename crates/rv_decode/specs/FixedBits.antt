-- The bits of a word that its row fixes (RISC-V Unprivileged ISA 20191213, section 2.2).
use Rattle.std.specs.Prelude.{ℕ, ◌+◌, ◌*◌, ◌^◌}
use Rattle.rv_decode.specs.declared.instruction.Format.{Format}
use Rattle.rv_decode.specs.declared.instruction.Format.TheVariants.{R, I, IShift, IUnsigned, S, B, U, J, Fixed}
use Rattle.rv_decode.specs.Immediate.{field}

-- the opcode, and funct3 and funct7 as far as the format has them, in their places
abbrev pub fixed_of : Format → ℕ → ℕ
fixed_of R word = field word 0 7 + field word 12 3 * 2 ^ 12 + field word 25 7 * 2 ^ 25
fixed_of I word = field word 0 7 + field word 12 3 * 2 ^ 12
fixed_of IShift word = field word 0 7 + field word 12 3 * 2 ^ 12 + field word 25 7 * 2 ^ 25
fixed_of IUnsigned word = field word 0 7 + field word 12 3 * 2 ^ 12
fixed_of S word = field word 0 7 + field word 12 3 * 2 ^ 12
fixed_of B word = field word 0 7 + field word 12 3 * 2 ^ 12
fixed_of U word = field word 0 7
fixed_of J word = field word 0 7
fixed_of Fixed word = word
