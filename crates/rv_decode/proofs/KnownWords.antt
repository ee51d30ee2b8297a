-- What known words mean, computed from the definition.
use Rattle.std.proofs.Common.{◌≡◌, refl, lit<}
use Rattle.std.specs.Prelude.{Some, None}
use Rattle.rv_decode.specs.declared.instruction.Op.TheVariants.{Lui, Jal, Bne, Sb, Addi, Srai, Remu, Fence, Csrrwi}
use Rattle.rv_decode.specs.declared.instruction.Op.TheVariants.{Mret}
use Rattle.rv_decode.specs.Table.{matched_row}
use Rattle.rv_decode.specs.Means.{means, IsValid}

-- lui x5, 0x10000
means-lui : means 0x100002B7 ≡ Some (record { op = Lui; rd = 5; rs1 = 0; rs2 = 0; imm = 0x10000000 })
unfolding means matched_row
means-lui = refl

-- jal x1, 2048
means-jal_bit_11 : means 0x001000EF ≡ Some (record { op = Jal; rd = 1; rs1 = 0; rs2 = 0; imm = 2048 })
unfolding means matched_row
means-jal_bit_11 = refl

-- bne x5, x6, -2
means-bne : means 0xFE629FE3 ≡ Some (record { op = Bne; rd = 0; rs1 = 5; rs2 = 6; imm = 0xFFFFFFFE })
unfolding means matched_row
means-bne = refl

-- sb x31, -1(x30)
means-sb_negative : means 0xFFFF0FA3 ≡ Some (record { op = Sb; rd = 0; rs1 = 30; rs2 = 31; imm = 0xFFFFFFFF })
unfolding means matched_row
means-sb_negative = refl

-- addi x6, x0, 65
means-addi : means 0x04100313 ≡ Some (record { op = Addi; rd = 6; rs1 = 0; rs2 = 0; imm = 65 })
unfolding means matched_row
means-addi = refl

-- addi x5, x5, -1
means-addi_negative : means 0xFFF28293 ≡ Some (record { op = Addi; rd = 5; rs1 = 5; rs2 = 0; imm = 0xFFFFFFFF })
unfolding means matched_row
means-addi_negative = refl

-- srai x15, x16, 17
means-srai : means 0x41185793 ≡ Some (record { op = Srai; rd = 15; rs1 = 16; rs2 = 0; imm = 17 })
unfolding means matched_row
means-srai = refl

-- remu x31, x30, x29
means-remu : means 0x03DF7FB3 ≡ Some (record { op = Remu; rd = 31; rs1 = 30; rs2 = 29; imm = 0 })
unfolding means matched_row
means-remu = refl

-- fence rw, w
means-fence : means 0x0310000F ≡ Some (record { op = Fence; rd = 0; rs1 = 0; rs2 = 0; imm = 0x31 })
unfolding means matched_row
means-fence = refl

-- csrrwi x6, 0x300, 31
means-csrrwi : means 0x300FD373 ≡ Some (record { op = Csrrwi; rd = 6; rs1 = 31; rs2 = 0; imm = 0x300 })
unfolding means matched_row
means-csrrwi = refl

-- mret
means-mret : means 0x30200073 ≡ Some (record { op = Mret; rd = 0; rs1 = 0; rs2 = 0; imm = 0 })
unfolding means matched_row
means-mret = refl

-- a word of zeros means nothing (section 1.5)
means-zero : means 0x00000000 ≡ None
unfolding means matched_row
means-zero = refl

-- nor does srai x15, x17, 17 with another funct7
means-srai_other : means 0x2118D793 ≡ None
unfolding means matched_row
means-srai_other = refl

-- so the instruction of a known word is valid
IsValid-addi : IsValid (record { op = Addi; rd = 6; rs1 = 0; rs2 = 0; imm = 65 })
IsValid-addi = (0x04100313, lit< tt, means-addi)
