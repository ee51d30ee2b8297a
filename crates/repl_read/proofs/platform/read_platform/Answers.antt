-- The lines of a text are few.
use Rattle.repl_read.proofs.LengthLemmas.{lines_few}
use Rattle.repl_read.proofs.platform.read_platform.Goals as goal

pub entries_of-requires : goal.entries_of-requires
entries_of-requires c =
    rw (c.deref.ensures.value, c.in_ok-lines.ensures {u = tt}, c.as_str.ensures.value, c.in_ok-text.ensures {u = tt})
    (lines_few c.args.text.now c.requires)
