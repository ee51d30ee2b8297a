use Rattle.std.proofs.Common.{arith}
use Rattle.std.proofs.lemmas.List.Elements.{All-from_get_or}
use Rattle.rv_hart.specs.Core.{initial}
use Rattle.rv_hart.specs.HartState.{state_of, IsHartState}
use Rattle.board.proofs.harts.sound_harts_law.Goals as goal

pub returns : goal.returns
returns c =
    All-from_get_or (λ core. IsHartState (state_of core)) c.args.harts.now initial
    (λ k there. c.loop-hart.invariant k (omega (arith, there, c.loop-hart-test.false)))
