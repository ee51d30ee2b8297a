use Rattle.std.proofs.Common.{◌∙◌, ap, refl}
use Rattle.dev_core.specs.Device.{kind_of}
use Rattle.board_space.specs.Space.{Space, register_store}
use Rattle.board_space.proofs.DeviceLemmas.{answered, left}
use Rattle.board_space.proofs.FitLemmas.{fit_device}
use Rattle.board_space.proofs.LineLemmas.{right_device}
use Rattle.board_space.proofs.space.Space.store_device.Goals as goal

pub invariant_of-self : goal.invariant_of-self
invariant_of-self g c =
    let there = rw (← c.self.view_is) at c.requires in (
      c.self.invariant.0,
      fit_device _ c.from.result c.store_wired.new.self _ c.self.invariant.1
          (c.store_wired.ensures.kind ∙ ap (λ f. kind_of f.state) c.index_mut-device.ensures.value)
          c.store_wired.ensures.valid,
      c.self.invariant.2,
      rw c.store_wired.ensures.lines
          (right_device _ c.from.result _ c.store_wired.new.self _ _ _ _ c.self.invariant.3 (rw c.from.ensures there)
          c.index_mut-device.ensures.value refl refl),
    )

pub returns-clause-answer : goal.returns-clause-answer
returns-clause-answer g c =
    answered c.args.self.now c.args.dev c.args.at c.from.result _ _ _ _
    (λ state register. (register_store state c.args.width c.args.value register).answer) _ c.requires c.from.ensures
    (ap {A = Space} (λ s. s.devices) c.self.view_is) c.index_mut-device.ensures.value
    c.register_of-register.ensures c.store_wired.ensures.answer

pub returns-clause-after : goal.returns-clause-after
returns-clause-after g c =
    let there = rw (← c.self.view_is) at c.requires in
    let register = rw (← c.self.view_is) at c.register_of-register.ensures in
    rw (← c.self.view_is)
    (left _ c.args.dev c.args.at c.from.result _ _ _ _
    (λ state register. (register_store state c.args.width c.args.value register).after) there c.from.ensures
    c.index_mut-device.ensures.value register c.store_wired.ensures.after)
