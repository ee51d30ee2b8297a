use Rattle.std.proofs.Common.{refl}
use Rattle.board.specs.Changes.{with_halted}
use Rattle.monitor.proofs.BoardLemmas.{processor_rules}
use Rattle.monitor.proofs.monitor.Monitor.halted.Goals as goal

pub returns-in-Some : goal.returns-in-Some
returns-in-Some g c =
    let on = c.in_ok-b.ensures.ok in
    rw c.in-Some.is
    (processor_rules c.args.self.now _ c.in_ok-b.b.0 c.in_ok-hart.hart c.args.cpu.now
    (λ hart v. with_halted v hart c.in-Some.value) c.new.result.items c.requires.unspent on
    (c.in_ok-hart.ensures.meant on.view on.seen) (rw (← c.self.view_is, c.set_halted.ensures) refl) c.new.ensures.items)
