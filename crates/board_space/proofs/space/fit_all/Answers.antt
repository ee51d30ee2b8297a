use Rattle.std.proofs.Common.{arith, append_assoc}
use Rattle.board_space.proofs.space.fit_all.Goals as goal

pub loop-device-preserved : goal.loop-device-preserved
loop-device-preserved g c =
    let one = c.in-Some.ensures {u = tt} in
    record {
      items =
          rw (c.push_reserved.ensures.items, append_assoc, c.new.ensures)
          (rw one.items at c.loop-device.invariant.items);
      room =
          omega (
            arith,
            one.len,
            c.push_reserved.ensures.len,
            c.push_reserved.ensures.capacity,
            c.loop-device.invariant.room,
          );
    }
