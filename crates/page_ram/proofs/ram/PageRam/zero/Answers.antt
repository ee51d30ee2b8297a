use Rattle.std.proofs.Common.{◌+◌, ◌≤◌, length, ◌∙◌, arith}
use Rattle.page_ram.proofs.ByteLemmas.{put_zeros-next}
use Rattle.page_ram.proofs.ram.PageRam.zero.Goals as goal

pub loop-done-preserved : goal.loop-done-preserved
loop-done-preserved c =
    let now = c.loop-done.invariant in
    let part = c.min-part.result in
    let done = c.loop-done.done in
    let fits : c.args.at + (done + part) ≤ length c.args.self.now =
    omega (arith, c.requires, c.loop-done-test.true, c.min-part.ensures) in
    let next = put_zeros-next c.args.self.now c.args.at done part fits in
    record {
      within = omega (arith, c.loop-done-test.true, c.min-part.ensures);
      size = c.zero_part.ensures.size ∙ now.size;
      put = c.zero_part.ensures.value ∙
          rw now.put next;
    }
