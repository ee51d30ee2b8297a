use Rattle.std.proofs.Common.{◌≡◌, ◌∙◌, ap, refl, rules}
use Rattle.board_space.specs.Space.{Space, with_state}
use Rattle.board.specs.HartBus.{HartBus, posted, entered_if, note_if, sent}
use Rattle.board.specs.Inner.Outbox.{bus_with}
use Rattle.board_space.proofs.FitLemmas.{put_back_same}
use Rattle.board.proofs.hart_bus.HartBus.store_without_room.Goals as goal

pub returns-then-is_err-clause-err : goal.returns-then-is_err-clause-err
returns-then-is_err-clause-err g c =
    let back : c.put_back.new.self ≡ c.self.inside.space =
    c.put_back.ensures
    ∙ ap (λ s. with_state s c.args.dev c.state-before.result) c.store_device.ensures.after
    ∙ rw c.state-before.ensures.value (put_back_same c.self.inside.space c.args.dev _ (search rules)) in
    c.make_room.ensures.same _ _
    ∙ ap {A = Space} (λ s. bus_with c.self.inside.outbox s c.self.inside.at.0) back
    ∙ c.self.view_is

pub returns-clause-ok : goal.returns-clause-ok
unfolding sent
returns-clause-ok g c =
    let space = c.store_device.new.self in
    rw (← c.self.view_is, ← c.store_device.ensures.after, ← c.store_device.ensures.answer, c.in-Send.is)
    (c.send.ensures space
    ∙ ap {A = HartBus}
    (λ w. entered_if (posted w c.args.dev c.in-Send.payload) (note_if c.is_shown.result c.args.dev c.in-Send.payload))
    (c.make_room.ensures.same space _)
    ∙ rw c.is_shown.ensures refl)
