-- What known half-words stand for, computed from the definition.
use Rattle.std.proofs.Common.{◌≡◌, refl}
use Rattle.std.specs.Prelude.{Some, None}
use Rattle.rv_decode.specs.declared.instruction.Op.TheVariants.{Jal, Jalr, Beq, Lw, Sw, Addi, Lui, Add, Ebreak}
use Rattle.rvc_decode.specs.Table.{matched_row}
use Rattle.rvc_decode.specs.Means.{expansion}

-- c.li x10, 0
expansion-li : expansion 0x4501 ≡ Some (record { op = Addi; rd = 10; rs1 = 0; rs2 = 0; imm = 0 })
unfolding expansion matched_row
expansion-li = refl

-- c.jr x1
expansion-jr : expansion 0x8082 ≡ Some (record { op = Jalr; rd = 0; rs1 = 1; rs2 = 0; imm = 0 })
unfolding expansion matched_row
expansion-jr = refl

-- c.mv x15, x10
expansion-mv : expansion 0x87AA ≡ Some (record { op = Add; rd = 15; rs1 = 0; rs2 = 10; imm = 0 })
unfolding expansion matched_row
expansion-mv = refl

-- c.ebreak
expansion-ebreak : expansion 0x9002 ≡ Some (record { op = Ebreak; rd = 0; rs1 = 0; rs2 = 0; imm = 0 })
unfolding expansion matched_row
expansion-ebreak = refl

-- c.addi16sp x2, -64
expansion-addi16sp : expansion 0x7139 ≡ Some (record { op = Addi; rd = 2; rs1 = 2; rs2 = 0; imm = 0xFFFFFFC0 })
unfolding expansion matched_row
expansion-addi16sp = refl

-- c.lui x8, 0xfffe0
expansion-lui : expansion 0x7401 ≡ Some (record { op = Lui; rd = 8; rs1 = 0; rs2 = 0; imm = 0xFFFE0000 })
unfolding expansion matched_row
expansion-lui = refl

-- c.lwsp x1, 12(x2)
expansion-lwsp : expansion 0x40B2 ≡ Some (record { op = Lw; rd = 1; rs1 = 2; rs2 = 0; imm = 12 })
unfolding expansion matched_row
expansion-lwsp = refl

-- c.sw x15, 72(x8)
expansion-sw : expansion 0xC43C ≡ Some (record { op = Sw; rd = 0; rs1 = 8; rs2 = 15; imm = 72 })
unfolding expansion matched_row
expansion-sw = refl

-- c.j -2048
expansion-j : expansion 0xB001 ≡ Some (record { op = Jal; rd = 0; rs1 = 0; rs2 = 0; imm = 0xFFFFF800 })
unfolding expansion matched_row
expansion-j = refl

-- c.beqz x15, 254
expansion-beqz : expansion 0xCFFD ≡ Some (record { op = Beq; rd = 0; rs1 = 15; rs2 = 0; imm = 254 })
unfolding expansion matched_row
expansion-beqz = refl

-- the half-word of zeros stands for nothing (section 16.5)
expansion-zero : expansion 0x0000 ≡ None
unfolding expansion matched_row
expansion-zero = refl

-- nor does c.lwsp with rd x0
expansion-lwsp_x0 : expansion 0x4002 ≡ None
unfolding expansion matched_row
expansion-lwsp_x0 = refl
