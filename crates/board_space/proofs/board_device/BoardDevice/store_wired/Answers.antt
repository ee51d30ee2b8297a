use Rattle.std.proofs.Common.{◌∙◌, ap, refl}
use Rattle.dev_core.specs.Device.{kind_of}
use Rattle.board_space.specs.Space.{BoardDevice, register_store}
use Rattle.board_space.proofs.board_device.BoardDevice.store_wired.Goals as goal

pub returns-clause-answer : goal.returns-clause-answer
returns-clause-answer g c =
    c.store-effect.ensures.answer
    ∙ ap {A = BoardDevice} (λ f. (register_store f.state c.args.width c.args.value c.args.register).answer)
    c.line_now-before.ensures.same

pub returns-clause-after : goal.returns-clause-after
returns-clause-after g c =
    c.line_now.ensures.same
    ∙ c.store-effect.ensures.after
    ∙ ap {A = BoardDevice}
    (λ f. record f { state = (register_store f.state c.args.width c.args.value c.args.register).after })
    c.line_now-before.ensures.same

pub returns-clause-lines : goal.returns-clause-lines
returns-clause-lines g c =
    rw (c.forget_if_changed.ensures, c.line_now-before.ensures.line, c.line_now.ensures.line, c.line_now.ensures.same)
    refl

pub returns-clause-kind : goal.returns-clause-kind
returns-clause-kind g c =
    ap {A = BoardDevice} (λ f. kind_of f.state) c.line_now.ensures.same
    ∙ c.store-effect.ensures.kind
    ∙ ap {A = BoardDevice} (λ f. kind_of f.state) c.line_now-before.ensures.same

pub returns-clause-valid : goal.returns-clause-valid
returns-clause-valid g c = rw c.line_now.ensures.same c.store-effect.ensures.valid
