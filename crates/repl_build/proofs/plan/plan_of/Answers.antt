-- Peripherals that keep all rules are few.
use Rattle.std.proofs.Common.{arith}
use Rattle.repl_build.specs.declared.types.PeripheralType.TheVariants.{Cpu}
use Rattle.repl_build.proofs.CountLemmas.{are_few, few_of}
use Rattle.repl_build.proofs.TestedLemmas.{keeps}
use Rattle.repl_build.proofs.plan.plan_of.Goals as goal

pub wires_of-requires-clause-devices : goal.wires_of-requires-clause-devices
wires_of-requires-clause-devices c = (are_few c.args.all.now (keeps c.args.all.now c.requires).counts).1

pub wires_of-requires-clause-processors : goal.wires_of-requires-clause-processors
wires_of-requires-clause-processors c =
    let few = few_of c.args.all.now Cpu (keeps c.args.all.now c.requires).counts in
    omega (arith, few)

pub lists_of-requires : goal.lists_of-requires
lists_of-requires c = are_few c.args.all.now (keeps c.args.all.now c.requires).counts
