-- A line more.
use Rattle.std.proofs.Common.{◌<◌, length, arith}
use Rattle.repl_read.specs.Inner.Entries.{opened}
use Rattle.repl_read.specs.Platform.{entries_of}
use Rattle.repl_read.proofs.EntryLemmas.{line_more}
use Rattle.repl_read.proofs.platform.entries_of.Goals as goal

pub loop-i-preserved : goal.loop-i-preserved
loop-i-preserved c =
    let inside : c.loop-i.i < length c.args.lines.now = omega arith in
    let step =
    line_more c.args.lines.now c.loop-i.i c.loop-i.stand c.in_ok-head.field-0 c.loop-i.entries.items
    (opened c.loop-i.begun) (entries_of c.args.lines.now) inside (c.in_ok-head.ensures {u = tt}) c.loop-i.invariant in
    let put = c.in_ok-begun.ensures {u = tt} in
    rw (put.done, put.begun) step
