-- The enables of a context after a store are of sources that are there.
use Rattle.std.proofs.Common.{◌<◌, ap, arith}
use Rattle.plic.specs.State.{Controller}
use Rattle.plic.proofs.SetLemmas.{AreSources-with_word}
use Rattle.plic.proofs.ValidLemmas.{IsController-enables}
use Rattle.plic.proofs.plic.Plic.store_register.Goals as goal

pub invariant_of-self-in-Enable : goal.invariant_of-self-in-Enable
invariant_of-self-in-Enable c =
    let self = c.self-in-Enable.inside in
    let there = rw c.in-Enable.is at c.requires in
    let within : c.in-Enable.context < c.args.self.now.contexts = there.0 in
    IsController-enables self.sources self.contexts self.state c.from-in-Enable-4.result c.with_word-enabled.result
    c.self-in-Enable.invariant
    (omega (arith, ap (λ (p : Controller). p.contexts) c.self-in-Enable.view_is))
    (rw (c.with_word-enabled.ensures, c.from-in-Enable-2.ensures)
    (AreSources-with_word self.sources _ _ _))
