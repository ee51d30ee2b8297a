use Rattle.std.proofs.Common.{◌∙◌, ap, refl}
use Rattle.dev_core.specs.Device.{kind_of}
use Rattle.board_space.specs.Space.{Space, register_load}
use Rattle.board_space.proofs.DeviceLemmas.{answered, left}
use Rattle.board_space.proofs.FitLemmas.{fit_device}
use Rattle.board_space.proofs.LineLemmas.{right_device}
use Rattle.board_space.proofs.space.Space.load_device.Goals as goal

pub invariant_of-self : goal.invariant_of-self
invariant_of-self g c =
    let there = rw (← c.self.view_is) at c.requires.dev in (
      c.self.invariant.0,
      fit_device _ c.from.result c.load_wired.new.self _ c.self.invariant.1
          (c.load_wired.ensures.kind ∙ ap (λ f. kind_of f.state) c.index_mut-device.ensures.value)
          c.load_wired.ensures.valid,
      c.self.invariant.2,
      rw c.load_wired.ensures.lines
          (right_device _ c.from.result _ c.load_wired.new.self _ _ _ _ c.self.invariant.3 (rw c.from.ensures there)
          c.index_mut-device.ensures.value refl refl),
    )

pub returns-clause-answer : goal.returns-clause-answer
returns-clause-answer g c =
    answered c.args.self.now c.args.dev c.args.at c.from.result _ _ _ _
    (λ state register. (register_load state c.args.width register).answer) _ c.requires.dev c.from.ensures
    (ap {A = Space} (λ s. s.devices) c.self.view_is) c.index_mut-device.ensures.value
    c.register_of-register.ensures c.load_wired.ensures.answer

pub returns-clause-after : goal.returns-clause-after
returns-clause-after g c =
    let there = rw (← c.self.view_is) at c.requires.dev in
    let register = rw (← c.self.view_is) at c.register_of-register.ensures in
    rw (← c.self.view_is)
    (left _ c.args.dev c.args.at c.from.result _ _ _ _
    (λ state register. (register_load state c.args.width register).after) there c.from.ensures
    c.index_mut-device.ensures.value register c.load_wired.ensures.after)
