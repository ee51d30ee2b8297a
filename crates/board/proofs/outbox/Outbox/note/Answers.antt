use Rattle.std.proofs.Common.{refl}
use Rattle.board.proofs.outbox.Outbox.note.Goals as goal

pub returns-in-Some : goal.returns-in-Some
returns-in-Some c = λ s.
    rw (← c.note_if.ensures, c.in-Some.is, c.count_entry.ensures)
    (rw (c.push_reserved.ensures.items, c.entry-entry.ensures s) refl)
