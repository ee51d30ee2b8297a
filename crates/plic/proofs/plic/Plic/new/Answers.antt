use Rattle.plic.proofs.ValidLemmas.{IsController-reset}
use Rattle.plic.proofs.plic.Plic.new.Goals as goal

pub invariant_of-result : goal.invariant_of-result
invariant_of-result c =
    IsController-reset c.args.sources c.args.contexts c.reset.result c.reset.ensures
    c.requires.a_source c.requires.sources c.requires.a_context c.requires.contexts
