use Rattle.std.proofs.Common.{◌∙◌, ◌<◌, arith, length, map, sym}
use Rattle.std.proofs.lemmas.List.{ext_get_or, get_or-map, length-map}
use Rattle.rv_hart.specs.Core.{initial}
use Rattle.rv_hart.specs.HartState.{core_of, state_of}
use Rattle.board.proofs.harts.bring_all_to.Goals as goal

pub returns : goal.returns
returns c =
    let states = c.args.states.now in
    let now = c.loop-number.invariant in
    ext_get_or initial c.loop-number.harts (map core_of states)
    (now.same ∙ sym c.requires.count ∙ sym (length-map states core_of))
    (λ k there.
    let below : k < c.loop-number.number = omega (arith, there, now.same, c.loop-number-test.false) in
    let within : k < length states = omega (arith, there, now.same, c.requires.count) in
    now.each k below ∙ sym (get_or-map core_of states k (state_of initial) initial within))
