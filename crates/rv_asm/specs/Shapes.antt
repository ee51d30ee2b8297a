-- The operands that each instruction takes.
use Rattle.rv_decode.specs.declared.instruction.Op.{Op}
use Rattle.rv_decode.specs.declared.instruction.Op.TheVariants.{Lui, Auipc, Jal, Jalr, Beq, Bne, Blt, Bge, Bltu, Bgeu}
use Rattle.rv_decode.specs.declared.instruction.Op.TheVariants.{Lb, Lh, Lw, Lbu, Lhu, Sb, Sh, Sw, Addi, Slti, Sltiu}
use Rattle.rv_decode.specs.declared.instruction.Op.TheVariants.{Xori, Ori, Andi, Slli, Srli, Srai, Add, Sub, Sll, Slt}
use Rattle.rv_decode.specs.declared.instruction.Op.TheVariants.{Sltu, Xor, Srl, Sra, Or, And, Mul, Mulh, Mulhsu, Mulhu}
use Rattle.rv_decode.specs.declared.instruction.Op.TheVariants.{Div, Divu, Rem, Remu, Fence, FenceI, Ecall, Ebreak}
use Rattle.rv_decode.specs.declared.instruction.Op.TheVariants.{Csrrw, Csrrs, Csrrc, Csrrwi, Csrrsi, Csrrci, Mret, Wfi}
use Rattle.rv_asm.specs.declared.shapes.Shape.{Shape}
use Rattle.rv_asm.specs.declared.shapes.Shape.TheVariants.{Registers, Immediate, Shift, Load, Store, Branch, Upper}
use Rattle.rv_asm.specs.declared.shapes.Shape.TheVariants.{Jump, Csr, CsrImmediate, Bare}

-- the shape of an instruction's operands
abbrev pub shape_of : Op → Shape
shape_of Lui = Upper
shape_of Auipc = Upper
shape_of Jal = Jump
shape_of Jalr = Load
shape_of Beq = Branch
shape_of Bne = Branch
shape_of Blt = Branch
shape_of Bge = Branch
shape_of Bltu = Branch
shape_of Bgeu = Branch
shape_of Lb = Load
shape_of Lh = Load
shape_of Lw = Load
shape_of Lbu = Load
shape_of Lhu = Load
shape_of Sb = Store
shape_of Sh = Store
shape_of Sw = Store
shape_of Addi = Immediate
shape_of Slti = Immediate
shape_of Sltiu = Immediate
shape_of Xori = Immediate
shape_of Ori = Immediate
shape_of Andi = Immediate
shape_of Slli = Shift
shape_of Srli = Shift
shape_of Srai = Shift
shape_of Add = Registers
shape_of Sub = Registers
shape_of Sll = Registers
shape_of Slt = Registers
shape_of Sltu = Registers
shape_of Xor = Registers
shape_of Srl = Registers
shape_of Sra = Registers
shape_of Or = Registers
shape_of And = Registers
shape_of Mul = Registers
shape_of Mulh = Registers
shape_of Mulhsu = Registers
shape_of Mulhu = Registers
shape_of Div = Registers
shape_of Divu = Registers
shape_of Rem = Registers
shape_of Remu = Registers
shape_of Fence = Bare
shape_of FenceI = Bare
shape_of Ecall = Bare
shape_of Ebreak = Bare
shape_of Csrrw = Csr
shape_of Csrrs = Csr
shape_of Csrrc = Csr
shape_of Csrrwi = CsrImmediate
shape_of Csrrsi = CsrImmediate
shape_of Csrrci = CsrImmediate
shape_of Mret = Bare
shape_of Wfi = Bare
