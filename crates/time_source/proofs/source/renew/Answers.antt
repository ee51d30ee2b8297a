use Rattle.std.proofs.Common.{◌≡◌, ◌<◌, length, arith}
use Rattle.time_source.specs.Tree.{renewed}
use Rattle.time_source.proofs.SourceLemmas.{map-next}
use Rattle.time_source.proofs.source.renew.Goals as goal

pub loop-handle-preserved : goal.loop-handle-preserved
loop-handle-preserved c =
    let new_is : c.new.result ≡ renewed c.args.from.0 c.args.to.0 c.handle-item.result = cc in
    let below : c.loop-handle.handle-index < length c.args.handles.now = omega arith in
    map-next (renewed c.args.from.0 c.args.to.0) c.args.handles.now c.loop-handle.handle-items
    c.loop-handle.handle-index c.loop-handle.invariant below c.handle-item.is new_is
