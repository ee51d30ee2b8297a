-- The names of instructions, in lower case, and the operands that they take.
use Rattle.std.specs.Prelude.{ℕ, List, [], ◌∷◌, if◌then◌else◌, Option, Some, codes, find}
use Rattle.std.specs.Option.{option_map}
use Rattle.std.specs.Str.{bytes_eq}
use Rattle.rv_decode.specs.declared.instruction.Op.{Op}
use Rattle.rv_decode.specs.declared.instruction.Op.TheVariants.{Lui, Auipc, Jal, Jalr, Beq, Bne, Blt, Bge, Bltu, Bgeu}
use Rattle.rv_decode.specs.declared.instruction.Op.TheVariants.{Lb, Lh, Lw, Lbu, Lhu, Sb, Sh, Sw, Addi, Slti, Sltiu}
use Rattle.rv_decode.specs.declared.instruction.Op.TheVariants.{Xori, Ori, Andi, Slli, Srli, Srai, Add, Sub, Sll, Slt}
use Rattle.rv_decode.specs.declared.instruction.Op.TheVariants.{Sltu, Xor, Srl, Sra, Or, And, Mul, Mulh, Mulhsu, Mulhu}
use Rattle.rv_decode.specs.declared.instruction.Op.TheVariants.{Div, Divu, Rem, Remu, Fence, FenceI, Ecall, Ebreak}
use Rattle.rv_decode.specs.declared.instruction.Op.TheVariants.{Csrrw, Csrrs, Csrrc, Csrrwi, Csrrsi, Csrrci, Mret, Wfi}
use Rattle.rv_asm.specs.declared.mnemonics.Mnemonic.{Mnemonic}
use Rattle.rv_asm.specs.declared.mnemonics.Mnemonic.TheVariants.{Word, Instruction}

-- the name of each instruction
abbrev pub names : List (List ℕ × Op)
names =
    -- a jump, a branch or an upper immediate
    (codes "lui", Lui) ∷
    (codes "auipc", Auipc) ∷
    (codes "jal", Jal) ∷
    (codes "jalr", Jalr) ∷
    (codes "beq", Beq) ∷
    (codes "bne", Bne) ∷
    (codes "blt", Blt) ∷
    (codes "bge", Bge) ∷
    (codes "bltu", Bltu) ∷
    (codes "bgeu", Bgeu) ∷
    -- a load or a store
    (codes "lb", Lb) ∷
    (codes "lh", Lh) ∷
    (codes "lw", Lw) ∷
    (codes "lbu", Lbu) ∷
    (codes "lhu", Lhu) ∷
    (codes "sb", Sb) ∷
    (codes "sh", Sh) ∷
    (codes "sw", Sw) ∷
    -- an operation on a register and an immediate
    (codes "addi", Addi) ∷
    (codes "slti", Slti) ∷
    (codes "sltiu", Sltiu) ∷
    (codes "xori", Xori) ∷
    (codes "ori", Ori) ∷
    (codes "andi", Andi) ∷
    (codes "slli", Slli) ∷
    (codes "srli", Srli) ∷
    (codes "srai", Srai) ∷
    -- an operation on two registers
    (codes "add", Add) ∷
    (codes "sub", Sub) ∷
    (codes "sll", Sll) ∷
    (codes "slt", Slt) ∷
    (codes "sltu", Sltu) ∷
    (codes "xor", Xor) ∷
    (codes "srl", Srl) ∷
    (codes "sra", Sra) ∷
    (codes "or", Or) ∷
    (codes "and", And) ∷
    -- a product or a quotient
    (codes "mul", Mul) ∷
    (codes "mulh", Mulh) ∷
    (codes "mulhsu", Mulhsu) ∷
    (codes "mulhu", Mulhu) ∷
    (codes "div", Div) ∷
    (codes "divu", Divu) ∷
    (codes "rem", Rem) ∷
    (codes "remu", Remu) ∷
    -- a fence, a call, or an access to a control and status register
    (codes "fence", Fence) ∷
    (codes "fence.i", FenceI) ∷
    (codes "ecall", Ecall) ∷
    (codes "ebreak", Ebreak) ∷
    (codes "csrrw", Csrrw) ∷
    (codes "csrrs", Csrrs) ∷
    (codes "csrrc", Csrrc) ∷
    (codes "csrrwi", Csrrwi) ∷
    (codes "csrrsi", Csrrsi) ∷
    (codes "csrrci", Csrrci) ∷
    (codes "mret", Mret) ∷
    (codes "wfi", Wfi) ∷
    []

-- the first instruction of this name in a table
abbrev pub named_in : List (List ℕ × Op) → List ℕ → Option Op
named_in table name = option_map (λ x. x.1) (find (λ x. bytes_eq name x.0) table)

-- the instruction of this name
unfoldable pub op_named : List ℕ → Option Op
op_named name = named_in names name

-- an instruction, or `.word`
abbrev pub mnemonic_of : List ℕ → Option Mnemonic
mnemonic_of name =
    if bytes_eq name (codes ".word") then Some Word else option_map (λ op. Instruction op) (op_named name)
