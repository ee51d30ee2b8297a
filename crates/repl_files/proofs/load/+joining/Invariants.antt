use Rattle.std.proofs.Common.{◌≡◌, ◌≤◌, ◌+◌, ◌*◌, length, Result}
use Rattle.std.specs.Bool.{IsTrue}
use Rattle.std.specs.List.{list_all}
use Rattle.std.specs.Option.{ForSome}
use Rattle.std.specs.Vec.Iter.{into_iter_items, into_iter_len}
use Rattle.repl_read.specs.Entries.{is_entry}
use Rattle.repl_files.specs.declared.fault.LoadFault.{LoadFault}
use Rattle.repl_files.specs.declared.load.Loaded.{Loaded}
use Rattle.lab_io.specs.Asked.{AskedNames}
use Rattle.lab_io.specs.Frame.{OnlyReads}
use Rattle.repl_files.specs.Loading.{used, in_order}
use Rattle.repl_files.specs.Inner.Course.{IsCourse}
use Rattle.repl_files.proofs.load.+joining.Given as goal

abbrev pub decreases-join_file : goal.decreases-join_file
decreases-join_file g l = 3 * l.room

abbrev pub decreases-join_entry : goal.decreases-join_entry
decreases-join_entry g l = 3 * l.room + 1

abbrev pub decreases-join_entries : goal.decreases-join_entries
decreases-join_entries g l = 3 * l.room + 2

-- The course of the entries that are left is the course of all.
abbrev pub invariant-join_entries-loop-entry : goal.invariant-join_entries-loop-entry
invariant-join_entries-loop-entry g l = record {
  course :
      ForSome (g.F.Files.held l.fn.files) (λ held.
      (result : Result (Unit {0}) LoadFault) (new : Loaded) (log : AskedNames) →
      IsCourse
      (in_order (used l.room held) l.file l.number (length l.all.names.items) (into_iter_items l.entry-iterator))
      result l.all new (g.F.Files.asked l.files) log →
      IsCourse (in_order (used l.room held) l.file l.number (length l.fn.all.names.items) l.fn.entries.items)
      result l.fn.all new (g.F.Files.asked l.fn.files) log);
  left : into_iter_len l.entry-iterator ≡ length (into_iter_items l.entry-iterator);
  few : length l.all.names.items ≤ 64;
  good : IsTrue (list_all is_entry l.all.entries.items);
  coming : IsTrue (list_all is_entry (into_iter_items l.entry-iterator));
  files : OnlyReads g.F.Files ⊥ l.fn.files l.files;
}
