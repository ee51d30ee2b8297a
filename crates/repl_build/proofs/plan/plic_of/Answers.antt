-- The sources and contexts of a PLIC that keeps all rules are few.
use Rattle.std.proofs.Common.{sym, arith}
use Rattle.repl_build.proofs.PartLemmas.{plic_numbers}
use Rattle.repl_build.proofs.TestedLemmas.{keeps}
use Rattle.repl_build.proofs.plan.plic_of.Goals as goal

pub plic_size_of-requires-clause-sources : goal.plic_size_of-requires-clause-sources
plic_size_of-requires-clause-sources c =
    let few = (plic_numbers c.args.all.now c.in-Some.plic.now (keeps c.args.all.now c.requires)
    (sym (c.in-Some.ensures {u = tt}))).0.1 in
    omega (arith, few)

pub plic_size_of-requires-clause-contexts : goal.plic_size_of-requires-clause-contexts
plic_size_of-requires-clause-contexts c =
    let few = (plic_numbers c.args.all.now c.in-Some.plic.now (keeps c.args.all.now c.requires)
    (sym (c.in-Some.ensures {u = tt}))).1.1 in
    omega (arith, few)
