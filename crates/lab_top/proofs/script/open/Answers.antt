use Rattle.std.proofs.Common.{ap}
use Rattle.resc_vars.specs.declared.cause.ScriptCause.TheVariants.{Size, Utf8}
use Rattle.lab_top.specs.Content.{content_by, whole}
use Rattle.lab_top.proofs.Openings.{refused_content}
use Rattle.lab_top.proofs.script.open.Goals as goal

pub returns-in-Ok-clause-opened : goal.returns-in-Ok-clause-opened
returns-in-Ok-clause-opened g c = λ held is.
    let read = c.in-Ok.ensures.read held is in (ap (content_by c.args.name.now) read.0, read.1)

pub returns-in-Err-TooLarge-clause-opened : goal.returns-in-Err-TooLarge-clause-opened
returns-in-Err-TooLarge-clause-opened g c = λ held is.
    let read = rw c.in-Err-TooLarge.field-0-is at (c.in-Err-TooLarge.ensures.read held is) in
    refused_content _ _ (whole c.args.name.now) Size _ _ _ (ap (content_by c.args.name.now) read.0) read.1
    c.refused.ensures

pub returns-in-Err-NotText-clause-opened : goal.returns-in-Err-NotText-clause-opened
returns-in-Err-NotText-clause-opened g c = λ held is.
    let read = rw c.in-Err-NotText.field-0-is at (c.in-Err-NotText.ensures.read held is) in
    refused_content _ _ (record { file = c.args.name.now; number = c.in-Err-NotText.line }) Utf8 _ _ _
    (ap (content_by c.args.name.now) read.0) read.1 c.refused-in-Err-NotText.ensures

pub returns-in-Err-Unread-clause-opened : goal.returns-in-Err-Unread-clause-opened
returns-in-Err-Unread-clause-opened g c = λ held is.
    rw c.in-Err-Unread.field-0-is at (c.in-Err-Unread.ensures.read held is)

pub returns-in-Err-Memory-clause-opened : goal.returns-in-Err-Memory-clause-opened
returns-in-Err-Memory-clause-opened g c = λ held is.
    rw c.in-Err-Memory.field-0-is at (c.in-Err-Memory.ensures.read held is)
