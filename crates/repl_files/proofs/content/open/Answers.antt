use Rattle.std.proofs.Common.{ap}
use Rattle.repl_files.specs.declared.content.Opened.TheVariants.{Stopped}
use Rattle.repl_files.specs.declared.fault.FileCause.TheVariants.{Utf8}
use Rattle.repl_files.specs.Content.{content_by}
use Rattle.repl_files.proofs.Contents.{opened_content, told_faulty}
use Rattle.repl_files.proofs.content.open.Goals as goal

pub returns-in-Err-NotText-clause-opened : goal.returns-in-Err-NotText-clause-opened
returns-in-Err-NotText-clause-opened g c = λ held is.
    let read = rw c.in-Err-NotText.field-0-is at (c.in-Err-NotText.ensures.read held is) in
    opened_content _ _ (Stopped c.fault_at.result) _ _ read.1
    (told_faulty _ _ c.in-Err-NotText.line Utf8 _ (ap content_by read.0) c.fault_at.ensures)

pub returns-in-Err-TooLarge-clause-opened : goal.returns-in-Err-TooLarge-clause-opened
returns-in-Err-TooLarge-clause-opened g c = λ held is.
    let read = rw c.in-Err-TooLarge.field-0-is at (c.in-Err-TooLarge.ensures.read held is) in
    (ap content_by read.0, read.1)

pub returns-in-Err-Unread-clause-opened : goal.returns-in-Err-Unread-clause-opened
returns-in-Err-Unread-clause-opened g c = λ held is.
    rw c.in-Err-Unread.field-0-is at (c.in-Err-Unread.ensures.read held is)

pub returns-in-Err-Memory-clause-opened : goal.returns-in-Err-Memory-clause-opened
returns-in-Err-Memory-clause-opened g c = λ held is.
    rw c.in-Err-Memory.field-0-is at (c.in-Err-Memory.ensures.read held is)
