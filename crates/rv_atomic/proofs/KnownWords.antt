-- What known words mean, computed from the definition.
use Rattle.std.proofs.Common.{◌≡◌, refl}
use Rattle.std.specs.Prelude.{Some, None}
use Rattle.rv_atomic.specs.declared.atomic.AtomicOp.TheVariants.{Lr, Sc, Add, Minu}
use Rattle.rv_atomic.specs.Table.{matched_row}
use Rattle.rv_atomic.specs.Means.{atomic_of}

-- amoadd.w x0, x6, (x5)
atomic_of-amoadd : atomic_of 0x0062A02F ≡ Some (record { op = Add; rd = 0; rs1 = 5; rs2 = 6 })
unfolding atomic_of matched_row
atomic_of-amoadd = refl

-- lr.w.aq x10, (x11)
atomic_of-lr : atomic_of 0x1405A52F ≡ Some (record { op = Lr; rd = 10; rs1 = 11; rs2 = 0 })
unfolding atomic_of matched_row
atomic_of-lr = refl

-- the same with another register in the place of rs2
atomic_of-lr_rs2 : atomic_of 0x1415A52F ≡ None
unfolding atomic_of matched_row
atomic_of-lr_rs2 = refl

-- sc.w.rl x10, x12, (x11)
atomic_of-sc : atomic_of 0x1AC5A52F ≡ Some (record { op = Sc; rd = 10; rs1 = 11; rs2 = 12 })
unfolding atomic_of matched_row
atomic_of-sc = refl

-- amominu.w.aqrl x31, x30, (x29)
atomic_of-amominu : atomic_of 0xC7EEAFAF ≡ Some (record { op = Minu; rd = 31; rs1 = 29; rs2 = 30 })
unfolding atomic_of matched_row
atomic_of-amominu = refl

-- amoadd.d x0, x6, (x5), which is of 64 bits
atomic_of-amoadd_d : atomic_of 0x0062B02F ≡ None
unfolding atomic_of matched_row
atomic_of-amoadd_d = refl
