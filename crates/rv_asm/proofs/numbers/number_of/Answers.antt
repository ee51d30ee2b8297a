-- The sign, and the magnitude after it.
use Rattle.std.proofs.Common.{◌≡◌, ◌∷◌}
use Rattle.rv_asm.proofs.NumeralLemmas.{no_sign}
use Rattle.rv_asm.proofs.numbers.number_of.Goals as goal

pub returns-in-Some : goal.returns-in-Some
returns-in-Some c =
    let s = (c.in-Some.ensures {u = tt}).cases in
    let text : c.args.text.now ≡ 45 ∷ c.in-Some.digits.now = rw s.2 s.1.1 in
    rw text c.signed.ensures

pub returns-in-None : goal.returns-in-None
returns-in-None c =
    let s = (c.in-None.ensures {u = tt}).cases in rw (no_sign c.args.text.now s) c.signed-in-None.ensures
