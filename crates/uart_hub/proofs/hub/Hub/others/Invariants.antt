-- The members so far other than `from` are in the list.
use Rattle.std.proofs.Common.{◌≡◌, take}
use Rattle.lab_num.specs.Route as routes
use Rattle.uart_hub.proofs.hub.Hub.others.Given as goal

abbrev pub invariant-loop-other : goal.invariant-loop-other
invariant-loop-other l = l.list.items ≡ routes.others (take l.other-index l.self.members) l.from
