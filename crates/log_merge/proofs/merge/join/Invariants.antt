-- What is joined so far are the entries of the lists so far.
use Rattle.std.proofs.Common.{◌≡◌, take}
use Rattle.log_merge.specs.Merge.{all_entries}
use Rattle.log_merge.proofs.merge.join.Given as goal

abbrev pub invariant-loop-list : goal.invariant-loop-list
invariant-loop-list l = l.joined.items ≡ all_entries (take l.list-index l.lists)
