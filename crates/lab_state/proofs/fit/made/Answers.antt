-- Devices that are put back are there again.
use Rattle.std.proofs.Common.{◌∙◌, ap, map, arith}
use Rattle.board.specs.New.{first_state}
use Rattle.lab_state.specs.Inner.Spares.{kinds_of}
use Rattle.lab_state.proofs.SpareLemmas.{all_back, kinds_first, all_first}
use Rattle.lab_state.proofs.fit.made.Goals as goal

pub new-requires-clause-devices : goal.new-requires-clause-devices
new-requires-clause-devices g c = c.in_ok-devices.ensures.devices ∙ ap (map first_state) c.items.ensures

pub give_back-requires : goal.give_back-requires
give_back-requires g c =
    let kinds = c.items.result.now in
    let back = ap (map g.D.Device.meaning) c.in-Err.ensures.back ∙ c.in_ok-devices.ensures.devices in
    record {
      reset = all_first g.D.Device.meaning c.in-Err.devices.items kinds back;
      room =
          rw (ap kinds_of back ∙ kinds_first kinds)
          (λ kind. omega (arith, c.in_ok-devices.ensures.left kind, c.requires.few kind));
    }

pub returns-in-Err-clause-err : goal.returns-in-Err-clause-err
returns-in-Err-clause-err g c =
    let kinds = c.items.result.now in
    let back = ap (map g.D.Device.meaning) c.in-Err.ensures.back ∙ c.in_ok-devices.ensures.devices in
    all_back c.args.spares.now c.take.new.self c.give_back.new.self kinds c.in_ok-devices.ensures.left
    (rw (ap kinds_of back ∙ kinds_first kinds) at c.give_back.ensures)
