-- The entries so far, the one that was begun, and what the other lines say.
use Rattle.std.proofs.Common.{◌≡◌, ◌+◌, drop}
use Rattle.repl_read.specs.Inner.Entries.{opened}
use Rattle.repl_read.specs.Platform.{read_lines, entries_of}
use Rattle.repl_read.proofs.EntryLemmas.{finish}
use Rattle.repl_read.proofs.platform.entries_of.Given as goal

abbrev pub invariant-loop-i : goal.invariant-loop-i
invariant-loop-i l =
    finish l.entries.items (opened l.begun) (read_lines l.stand (l.i + 1) (drop l.i l.lines)) ≡ entries_of l.lines
