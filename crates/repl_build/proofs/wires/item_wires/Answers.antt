-- The destination.
use Rattle.std.proofs.Common.{◌≡◌, ◌∙◌, ap}
use Rattle.repl_build.specs.Processors.{hart_of}
use Rattle.repl_build.proofs.wires.item_wires.Goals as goal

pub returns-in-Wire-clause-ok : goal.returns-in-Wire-clause-ok
returns-in-Wire-clause-ok c =
    let to : c.hart_of.result ≡ hart_of c.args.all.now c.in-Wire.to =
    c.hart_of.ensures ∙ ap (hart_of c.args.all.now) c.as_str.ensures in
    rw (c.in-Wire.is, ← to, ← c.count_of.ensures) c.wires_between.ensures.ok
