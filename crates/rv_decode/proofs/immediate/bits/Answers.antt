-- A shift and a mask of ones take a field.
use Rattle.std.proofs.Common.{◌≡◌, ◌<◌, ◌*◌, ◌%◌, ◌^◌, refl, arith}
use Rattle.std.proofs.Math.Pow.{pow-lt}
use Rattle.std.proofs.lemmas.Nat.{and_mask}
use Rattle.rv_decode.proofs.immediate.bits.Goals as goal

pub returns-clause-value : goal.returns-clause-value
returns-clause-value c =
    let small : 2 ^ c.args.count < 2 ^ 32 = pow-lt c.requires.count in
    let whole : 1 * 2 ^ c.args.count % 4294967296 ≡ 2 ^ c.args.count = omega arith in
    rw (whole, and_mask) refl
