use Rattle.std.proofs.Common.{arith}
use Rattle.rv_exec.proofs.alu.mulhsu.Goals as goal

pub returns : goal.returns
returns c = grind arith
