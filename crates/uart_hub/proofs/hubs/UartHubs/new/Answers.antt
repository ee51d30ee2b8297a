-- No hubs have no members.
use Rattle.std.proofs.Common.{refl}
use Rattle.std.specs.List.{IsDistinct}
use Rattle.uart_hub.proofs.hubs.UartHubs.new.Goals as goal

pub invariant_of-result : goal.invariant_of-result
unfolding IsDistinct
invariant_of-result c = rw (c.new.ensures.items, c.new-2.ensures) (tt, λ m low. refl)
