use Rattle.std.proofs.Common.{◌≡◌, ◌↔◌, drop}
use Rattle.sys_bus.specs.Name as name
use Rattle.sys_bus.proofs.name.are_processors.Given as goal

abbrev pub invariant-loop-named : goal.invariant-loop-named
invariant-loop-named l = (l.cpus ≡ name.processors l.names) ↔ (l.rest ≡ name.processors (drop l.named-index l.names))
