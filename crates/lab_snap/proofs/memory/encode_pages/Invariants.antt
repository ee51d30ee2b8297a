use Rattle.std.proofs.Common.{◌≡◌, ◌<◌, ◌++◌, ◌*◌, take}
use Rattle.std.specs.List.{flat_map, AllByRecursion}
use Rattle.lab_snap.specs.Page.{page_form}
use Rattle.lab_snap.specs.Memory.{used}
use Rattle.lab_snap.proofs.PageLoops.{left}
use Rattle.lab_snap.proofs.memory.encode_pages.Given as goal

abbrev pub invariant-loop-k : goal.invariant-loop-k
invariant-loop-k l = record {
  bytes : AllByRecursion (λ b. b < 256) (take (4096 * l.k) l.memory);
  spelled : l.out.items ++ flat_map (page_form 4096).spell (left 4096 l.pages l.k l.memory)
      ≡ l.initial.out.items ++ flat_map (page_form 4096).spell (used 4096 l.pages l.memory);
}
