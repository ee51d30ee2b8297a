-- The wires so far, and then those of the other items.
use Rattle.std.proofs.Common.{◌≡◌, drop}
use Rattle.repl_build.specs.Wires.{placed_wires, items_wires}
use Rattle.repl_build.proofs.WireLemmas.{onto}
use Rattle.repl_build.proofs.wires.peripheral_wires.Given as goal

abbrev pub invariant-loop-item : goal.invariant-loop-item
invariant-loop-item l =
    let wires = placed_wires l.plic l.all l.p.kind l.dev in
    onto l.wires.items (items_wires wires (drop l.item-index l.item-items)) ≡ items_wires wires l.item-items
