-- The UARTs that were shown when a run began stay so, and lines are opened of them alone.
use Rattle.std.proofs.Common.{refl}
use Rattle.lab_state.proofs.ReachedLemmas.{reached_now}
use Rattle.lab_state.proofs.ToldLemmas.{runs-keep}
use Rattle.lab_state.proofs.laws.runs_keep_lines_open.Goals as goal

pub returns : goal.returns
returns g c = λ d lines within are.
    let reached = reached_now c.lab.invariant c.lab.view_is c.requires refl in
    runs-keep c.stretches_number.ensures c.stretches_keep_time_of_entries.ensures
    c.stretches_tell_of_devices.ensures.told c.stretches_keep_devices.ensures.kinds
    c.stretches_keep_devices.ensures.shown c.args.lab.now.lab d reached.standing within
    c.open_lines_come_of_bytes.ensures lines are
