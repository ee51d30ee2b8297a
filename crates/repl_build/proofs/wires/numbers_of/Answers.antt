-- A span more.
use Rattle.std.proofs.Common.{arith}
use Rattle.std.proofs.lemmas.Grind.{common_steps}
use Rattle.repl_build.specs.Wires.{numbers_of}
use Rattle.repl_build.proofs.LoopLemmas.{flat_more}
use Rattle.repl_build.proofs.wires.numbers_of.Goals as goal

pub loop-span-preserved : goal.loop-span-preserved
loop-span-preserved c =
    rw (c.in_ok-add_numbers.ensures {u = tt}).ok
    (flat_more numbers_of c.args.spans.now c.loop-span.span-index _ c.loop-span.numbers.items _ c.loop-span-test.true
    c.loop-span.invariant)

pub returns-clause-ok : goal.returns-clause-ok
returns-clause-ok c = grind (arith, common_steps)
