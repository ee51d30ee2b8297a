-- The wires so far, and then those of the other peripherals.
use Rattle.std.proofs.Common.{◌≡◌, [], take, drop}
use Rattle.repl_build.specs.Plan.{wires_from}
use Rattle.repl_build.proofs.WireLemmas.{onto}
use Rattle.repl_build.proofs.wires.wires_of.Given as goal

abbrev pub invariant-loop-i : goal.invariant-loop-i
invariant-loop-i l =
    onto l.wires.items (wires_from l.plic l.all (take l.i l.all) (drop l.i l.all)) ≡ wires_from l.plic l.all [] l.all
