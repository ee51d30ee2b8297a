-- One name more.
use Rattle.std.proofs.Common.{sym, zero-add}
use Rattle.std.proofs.lemmas.List.FromFn.{map-range_with_len_more}
use Rattle.lab_state.specs.Names.{device_name}
use Rattle.lab_state.proofs.names.device_names.Goals as goal

pub loop-dev-preserved : goal.loop-dev-preserved
loop-dev-preserved c =
    let dev = c.loop-dev.dev in
    rw (c.in_ok-push.ensures.items, c.loop-dev.invariant, c.in_ok-of.ensures, c.device_name.ensures)
    (sym (map-range_with_len_more (device_name c.args.plan.now) 0 dev dev (zero-add dev)))
