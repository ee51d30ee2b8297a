-- The divisor is not 0, and the quotient fits.
use Rattle.std.proofs.Common.{arith}
use Rattle.std.proofs.lemmas.Grind.{common_steps}
use Rattle.rv_exec.proofs.alu.div.Goals as goal

pub nonzero_div-cast_signed : goal.nonzero_div-cast_signed
nonzero_div-cast_signed c = grind arith

pub returns-then-b-eq0 : goal.returns-then-b-eq0
returns-then-b-eq0 c = grind arith

pub returns-then-overflows : goal.returns-then-overflows
returns-then-overflows c = grind arith

pub returns-else-overflows : goal.returns-else-overflows
returns-else-overflows c = grind (arith, common_steps)
