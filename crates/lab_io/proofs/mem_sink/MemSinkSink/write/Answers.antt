use Rattle.std.proofs.Common.{arith}
use Rattle.std.proofs.lemmas.Grind.{common_steps}
use Rattle.lab_io.proofs.mem_sink.MemSinkSink.write.Goals as goal

pub returns-then-is_listed-clause-written : goal.returns-then-is_listed-clause-written
returns-then-is_listed-clause-written c = grind (arith, common_steps)

pub returns-then-is_listed-clause-after : goal.returns-then-is_listed-clause-after
returns-then-is_listed-clause-after c = grind (arith, common_steps)

pub slice_bounds-extend_from_slice-end : goal.slice_bounds-extend_from_slice-end
slice_bounds-extend_from_slice-end c = grind (arith, common_steps)

pub returns-clause-taken : goal.returns-clause-taken
returns-clause-taken c = grind (arith, common_steps)

pub returns-clause-written : goal.returns-clause-written
returns-clause-written c = grind (arith, common_steps)

pub returns-clause-after : goal.returns-clause-after
returns-clause-after c = grind (arith, common_steps)
