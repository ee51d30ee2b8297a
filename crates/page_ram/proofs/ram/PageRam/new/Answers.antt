use Rattle.std.proofs.Common.{◌≡◌, ◌+◌, ◌*◌, ap, ◌∙◌, arith}
use Rattle.page_ram.specs.Access.{page_size}
use Rattle.page_ram.specs.Bytes.{zeros}
use Rattle.page_ram.proofs.DirectoryLemmas.{bytes_of-push, IsPaged-push}
use Rattle.page_ram.proofs.ram.PageRam.new.Goals as goal

pub loop-preserved : goal.loop-preserved
loop-preserved c =
    let now = c.loop.invariant in
    let pages = c.loop.pages.items in
    let size = c.loop.counter * page_size in
    let next : size + page_size ≡ (c.loop.counter + 1) * page_size = omega arith in
    let zero = bytes_of-push pages c.make.result size now.zero c.make.ensures ∙ ap zeros next in
    record {
      paged = rw c.in_ok-push.ensures.items (IsPaged-push pages c.make.result now.paged c.make.ensures);
      zero = rw c.in_ok-push.ensures.items zero;
    }
