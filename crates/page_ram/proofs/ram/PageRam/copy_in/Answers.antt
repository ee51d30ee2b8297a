use Rattle.std.proofs.Common.{◌≡◌, ◌+◌, ◌-◌, ◌≤◌, length, take, drop, ap, ◌∙◌, arith}
use Rattle.page_ram.proofs.ByteLemmas.{put_bytes-next}
use Rattle.page_ram.proofs.ram.PageRam.copy_in.Goals as goal

pub loop-done-preserved : goal.loop-done-preserved
loop-done-preserved c =
    let now = c.loop-done.invariant in
    let done = c.loop-done.done in
    let count = c.min-count.result in
    let bytes = c.args.bytes.now in
    let within : done + count ≤ length bytes = omega (arith, c.loop-done-test.true, c.min-count.ensures) in
    let part : take (done + count - done) (drop done bytes) ≡ take count (drop done bytes) =
    ap (λ k. take k (drop done bytes)) (omega arith) in
    let next = put_bytes-next c.args.self.now bytes _ c.args.at done count within c.requires part in
    record {
      within = within;
      size = c.in_ok-copy_part.ensures.size ∙ now.size;
      put = c.in_ok-copy_part.ensures.ok ∙ rw now.put next;
    }
