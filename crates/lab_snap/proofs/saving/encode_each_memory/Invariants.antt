use Rattle.std.proofs.Common.{◌≡◌, ◌++◌}
use Rattle.lab_snap.specs.MachineForm.{sized_form}
use Rattle.lab_snap.proofs.EachLoops.{left, FitLeft}
use Rattle.lab_snap.proofs.saving.encode_each_memory.Given as goal

abbrev pub invariant-loop-k : goal.invariant-loop-k
invariant-loop-k g l = record {
  spelled : l.out.items ++ left sized_form l.sizes l.board.view.space.memories l.k
      ≡ l.initial.out.items ++ left sized_form l.sizes l.board.view.space.memories 0;
  fits : FitLeft sized_form l.sizes l.board.view.space.memories l.k →
      FitLeft sized_form l.sizes l.board.view.space.memories 0;
}
