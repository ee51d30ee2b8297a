use Rattle.std.proofs.Common.{◌∙◌, arith, sym}
use Rattle.std.specs.Prelude.{None}
use Rattle.std.proofs.lemmas.List.{ext_get_or}
use Rattle.board.proofs.board.saved.reserve_all.Goals as goal

pub returns : goal.returns
returns c =
    let now = c.loop-hart.invariant in
    ext_get_or None c.loop-hart.watch c.args.words.now (now.same ∙ sym c.requires)
    (λ k there. now.each k (omega (arith, there, now.same, c.loop-hart-test.false, c.harts-hart-end.ensures.value)))
