-- The fields of an instruction as the code holds them.
use Rattle.std.specs.Prelude.{ℕ, ◌^◌, ◌<◌}
use Rattle.rv_decode.specs.declared.instruction.Op.{Op}
use Rattle.rv_decode.specs.declared.instruction.Instr.{Instr}
use Rattle.rv_asm.specs.declared.encoder.Fields.{Fields}

abbrev pub fields : ℕ → ℕ → ℕ → ℕ → Fields
fields rd rs1 rs2 imm = record { rd = rd; rs1 = rs1; rs2 = rs2; imm = imm }

abbrev pub with_op : Op → Fields → Instr
with_op op f = record { op = op; rd = f.rd; rs1 = f.rs1; rs2 = f.rs2; imm = f.imm }

pub record Fit (f : Fields) : Type 0 where
  pub rd : f.rd < 32
  pub rs1 : f.rs1 < 32
  pub rs2 : f.rs2 < 32
  pub imm : f.imm < 2 ^ 32
