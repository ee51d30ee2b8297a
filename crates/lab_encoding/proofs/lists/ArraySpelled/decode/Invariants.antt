use Rattle.std.proofs.Common.{◌≡◌, length, take}
use Rattle.lab_encoding.proofs.ListLoops.{IsHalfRead}
use Rattle.lab_encoding.proofs.lists.ArraySpelled.decode.Given as goal

abbrev pub invariant-loop-i : goal.invariant-loop-i
invariant-loop-i g l = record {
  length : length l.values ≡ g.row.N;
  so_far : IsHalfRead g.T.Spelled.form g.row.N l.fn.reader (take l.i l.values) l.i l.reader;
}
