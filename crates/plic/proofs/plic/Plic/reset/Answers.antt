use Rattle.plic.proofs.ValidLemmas.{IsController-reset}
use Rattle.plic.proofs.plic.Plic.reset.Goals as goal

pub invariant_of-self : goal.invariant_of-self
invariant_of-self c =
    let is = c.self.invariant in
    IsController-reset c.self.inside.sources c.self.inside.contexts c.reset-self-inside.result
    c.reset-self-inside.ensures
    is.a_source is.sources is.a_context is.contexts
