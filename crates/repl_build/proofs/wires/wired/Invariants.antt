-- The wires so far, and then the rest.
use Rattle.std.proofs.Common.{◌≡◌, drop}
use Rattle.repl_build.specs.Wires.{wire_at, wired}
use Rattle.repl_build.proofs.WireLemmas.{onto_some}
use Rattle.repl_build.proofs.wires.wired.Given as goal

abbrev pub invariant-loop-i : goal.invariant-loop-i
invariant-loop-i l =
    let wire = wire_at l.between.plic l.between.processors l.between.kind l.between.dev l.between.hart in
    onto_some l.wires.items (wired wire (drop l.i l.lines) (drop l.i l.pins)) ≡ wired wire l.lines l.pins
