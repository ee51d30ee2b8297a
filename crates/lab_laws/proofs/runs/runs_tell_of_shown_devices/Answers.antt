-- Each round tells of the UARTs that are shown, which stay so.
use Rattle.lab_laws.proofs.ReachedLemmas.{is_reached}
use Rattle.lab_state.proofs.ToldLemmas.{runs-tell}
use Rattle.lab_laws.proofs.runs.runs_tell_of_shown_devices.Goals as goal

pub returns : goal.returns
returns g c = λ d within.
    let reached = is_reached c.args.lab.now.lab c.validity_law.ensures in
    runs-tell c.stretches_number.ensures c.stretches_keep_time_of_entries.ensures
    c.stretches_tell_of_devices.ensures.told c.stretches_keep_devices.ensures.kinds
    c.stretches_keep_devices.ensures.shown c.args.lab.now.lab d reached.standing within
