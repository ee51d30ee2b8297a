use Rattle.std.proofs.Common.{◌≡◌, length, map, take}
use Rattle.lab_snap.specs.MachineForm.{sized_form}
use Rattle.lab_snap.proofs.EachLoops.{IsHalfRead}
use Rattle.lab_snap.proofs.memories.decode_each.Given as goal

abbrev pub invariant-loop-size : goal.invariant-loop-size
invariant-loop-size l = record {
  so_far : IsHalfRead sized_form l.sizes l.fn.reader l.memories.items l.size-index l.reader;
  sizes : map length l.memories.items ≡ take l.size-index l.sizes;
}
