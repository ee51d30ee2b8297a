-- The parts so far are loaded.
use Rattle.std.proofs.Common.{take}
use Rattle.monitor.specs.Images.{with_parts}
use Rattle.monitor.specs.Inner.Ruling.{IsChanged}
use Rattle.monitor.proofs.monitor.Monitor.load_parts.Given as goal

abbrev pub invariant-loop-part : goal.invariant-loop-part
invariant-loop-part g l =
    IsChanged l.b.0 (λ v. with_parts v (take l.part-index l.parts)) l.fn.self l.self
