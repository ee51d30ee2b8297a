-- What the name holds is what the entries that are left give it.
use Rattle.std.proofs.Common.{◌≡◌, map}
use Rattle.std.specs.Ordering.{nat_cmp}
use Rattle.std.specs.Cmp.Lexicographic.{slice_cmp}
use Rattle.std.specs.FinMap.{get, find}
use Rattle.std.specs.VecDeque.Iter.{deque_iter_rest}
use Rattle.lab_io.specs.FilesSeen.{entry_of}
use Rattle.lab_io.proofs.mem_files.MemFiles.find.Given as goal

abbrev pub invariant-loop-stored : goal.invariant-loop-stored
invariant-loop-stored l =
    get l.self.held l.name ≡ find (slice_cmp nat_cmp) l.name (map entry_of (deque_iter_rest l.stored-iterator))
