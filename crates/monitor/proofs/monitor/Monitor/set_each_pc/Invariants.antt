-- The processors so far go on at the address.
use Rattle.monitor.specs.Inner.Ruling.{IsChanged}
use Rattle.monitor.proofs.EntryLemmas.{with_first_pcs}
use Rattle.monitor.proofs.monitor.Monitor.set_each_pc.Given as goal

abbrev pub invariant-loop-hart : goal.invariant-loop-hart
invariant-loop-hart g l = IsChanged l.b.0 (λ v. with_first_pcs v l.pc l.hart) l.fn.self l.self
