use Rattle.std.proofs.Common.{◌≡◌, ◌++◌}
use Rattle.lab_snap.specs.MachineForm.{sized_form}
use Rattle.lab_snap.proofs.EachLoops.{left, FitLeft}
use Rattle.lab_snap.proofs.memories.encode_each.Given as goal

abbrev pub invariant-loop-k : goal.invariant-loop-k
invariant-loop-k l = record {
  spelled : l.out.items ++ left sized_form l.sizes l.memories l.k
      ≡ l.initial.out.items ++ left sized_form l.sizes l.memories 0;
  fits : FitLeft sized_form l.sizes l.memories l.k → FitLeft sized_form l.sizes l.memories 0;
}
