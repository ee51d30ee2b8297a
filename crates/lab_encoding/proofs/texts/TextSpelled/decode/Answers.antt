use Rattle.lab_encoding.proofs.TextLemmas.{text_read, text_refused}
use Rattle.lab_encoding.proofs.texts.TextSpelled.decode.Goals as goal

pub returns-in-Ok : goal.returns-in-Ok
returns-in-Ok c =
    rw (c.in_ok-of-in-Ok.ensures, c.in-Ok.ensures.cases.0, c.items.ensures)
    (text_read _ _ _ c.in_ok-bytes.ensures (rw c.items.ensures at c.in-Ok.ensures.cases.1))

pub returns : goal.returns
returns c = text_refused _ _ _ c.in_ok-bytes.ensures (rw c.items.ensures at c.in-Err.ensures.cases.0)
