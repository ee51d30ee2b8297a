use Rattle.lab_encoding.proofs.ListLoops.{IsHalfRead}
use Rattle.lab_encoding.proofs.lists.decode_times.Given as goal

abbrev pub invariant-loop : goal.invariant-loop
invariant-loop g l = IsHalfRead g.T.Spelled.form l.count l.fn.reader l.items.items l.counter l.reader
