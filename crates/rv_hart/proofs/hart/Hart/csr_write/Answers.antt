-- What is written of mie and mtvec keeps the core sound.
use Rattle.std.proofs.Common.{arith}
use Rattle.rv_hart.proofs.Masks.{interrupt_bits-twice, bit_at-mode}
use Rattle.rv_hart.proofs.hart.Hart.csr_write.Goals as goal

pub invariant_of-self-in-772 : goal.invariant_of-self-in-772
invariant_of-self-in-772 c = grind (arith, interrupt_bits-twice c.args.value)

pub invariant_of-self-in-773 : goal.invariant_of-self-in-773
invariant_of-self-in-773 c = grind (arith, bit_at-mode c.args.value)
