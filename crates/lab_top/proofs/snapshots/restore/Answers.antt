use Rattle.lab_top.proofs.Stores.{is_new, no_line}
use Rattle.lab_top.proofs.snapshots.restore.Goals as goal

pub load-requires-clause-none : goal.load-requires-clause-none
load-requires-clause-none g c =
    let valid = c.split-bodies.ensures.valid c.requires.goes_on in
    rw c.split-bodies.ensures.lines
    (no_line c.args.monitor.state.lab c.args.monitor.state.lines
    (is_new c.args.monitor.state.lab c.requires.free).boards valid.lines.each)
