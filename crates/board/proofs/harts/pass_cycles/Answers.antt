use Rattle.std.proofs.Common.{◌≡◌, ◌<◌, ◌^◌, nat_lt, true, arith}
use Rattle.std.proofs.lemmas.Bool.{lt-ltb}
use Rattle.std.proofs.lemmas.List.Elements.{All-from_get_or}
use Rattle.std.proofs.lemmas.List.FromFn.{fill_by_all}
use Rattle.rv_hart.specs.Core.{initial}
use Rattle.board.proofs.harts.pass_cycles.Goals as goal

pub returns-clause-after : goal.returns-clause-after
returns-clause-after c =
    fill_by_all _ _ _ initial c.loop-number.invariant.same
    (λ k there.
    let before : k < c.loop-number.number =
    omega (arith, there, c.loop-number-test.false, c.loop-number.invariant.same) in
    let passed : nat_lt k c.loop-number.number ≡ true = lt-ltb k c.loop-number.number before in
    rw passed at (c.loop-number.invariant.each k there))

pub returns-clause-fits : goal.returns-clause-fits
returns-clause-fits c =
    All-from_get_or (λ core. core.mcycle < 2 ^ 64) c.args.harts.now initial
    (λ k there. c.loop-number.invariant.fits k
    (omega (arith, there, c.loop-number-test.false, c.loop-number.invariant.same)))
