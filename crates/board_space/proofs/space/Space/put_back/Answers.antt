use Rattle.std.proofs.Common.{◌∙◌, ap}
use Rattle.dev_core.specs.Device.{kind_of}
use Rattle.board_space.proofs.FitLemmas.{fit_device}
use Rattle.board_space.proofs.space.Space.put_back.Goals as goal

pub invariant_of-self : goal.invariant_of-self
invariant_of-self g c = (
  c.self.invariant.0,
  fit_device _ c.from.result c.put_back.new.self _ c.self.invariant.1
      (c.put_back.ensures.kind ∙ ap (λ f. kind_of f.state) c.index_mut.ensures.value) c.put_back.ensures.valid,
  c.self.invariant.2,
  tt,
)
