use Rattle.std.proofs.Common.{◌<◌, arith}
use Rattle.std.proofs.lemmas.List.{length-set, length-take-le}
use Rattle.dev_core.proofs.RowLemmas.{drop-set_next}
use Rattle.dev_core.proofs.frame_row.FrameRow.push.Goals as goal

pub invariant_of-self : goal.invariant_of-self
invariant_of-self c =
    let kept = c.self.invariant in
    let all = length-take-le c.self.inside.count c.self.inside.frames (omega arith) in
    let room : c.self.inside.count < 32 = omega (arith, rw (← c.self.view_is) at c.requires, all) in
    record {
      count = omega arith;
      size = rw length-set kept.size;
      rest = drop-set_next _ _ _ _ _ room kept.rest;
    }
