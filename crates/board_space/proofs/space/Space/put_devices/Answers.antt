use Rattle.std.proofs.Common.{◌∙◌, rules, drop, length}
use Rattle.board_space.proofs.ListLemmas.{whole}
use Rattle.board_space.proofs.StateLemmas.{fit_devices}
use Rattle.board_space.proofs.space.Space.put_devices.Goals as goal

pub invariant_of-self : goal.invariant_of-self
invariant_of-self g c =
    let all = whole c.self.inside.devices.len c.bring_all_to.new.devices
    (drop (length c.bring_all_to.new.devices) c.self.inside.devices.items) (search rules) (search rules)
    ∙ c.bring_all_to.ensures in (
      c.self.invariant.0,
      rw all
          (fit_devices _ c.args.states.now c.args.shown.now c.self.invariant.1
          (rw (← c.self.view_is) at c.requires.devices) (rw (← c.self.view_is) at c.requires.shown)),
      c.self.invariant.2,
      tt,
    )
