-- Twice half of the range is within it.
use Rattle.std.proofs.Common.{◌≤◌, ◌^◌, arith}
use Rattle.std.proofs.lemmas.Nat.{one_shl}
use Rattle.std.proofs.Math.Nat.{pow-le-pow_right}
use Rattle.plic.proofs.SetLemmas.{all_sources-mask}
use Rattle.plic.proofs.sources.all_sources.Goals as goal

pub overflow_mul-result : goal.overflow_mul-result
overflow_mul-result c =
    rw (one_shl c.args.n 128 c.requires)
    (let within : c.args.n ≤ 127 = omega arith in
    let most : 2 ^ c.args.n ≤ 2 ^ 127 = pow-le-pow_right {n = 2} (omega arith) {i = c.args.n} {j = 127} within in
    omega arith)

pub returns : goal.returns
returns c = all_sources-mask c.args.n c.requires
