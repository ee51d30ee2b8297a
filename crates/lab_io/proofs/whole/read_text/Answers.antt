use Rattle.std.proofs.lemmas.Result.{err_from_is_err_and}
use Rattle.lab_io.proofs.Texts.{small_file, unread_text}
use Rattle.lab_io.proofs.whole.read_text.Goals as goal

pub returns-in_err-bytes-clause-read : goal.returns-in_err-bytes-clause-read
returns-in_err-bytes-clause-read g c = λ held is.
    let exit = err_from_is_err_and c.from_residual.result c.from_residual.ensures.1 in
    rw (exit.1, exit.2) (unread_text _ _ _ _ _ (c.in_err-bytes.ensures.read held is))

pub returns-in-Ok-clause-read : goal.returns-in-Ok-clause-read
returns-in-Ok-clause-read g c = λ held is.
    let read = c.in_ok-bytes.ensures.read held is in (
      small_file _ _ _ read.0 c.in_ok-bytes.ensures.short
          (rw (← c.deref.ensures.value, c.in_ok-from_str-in-Ok.ensures.ok) c.in-Ok.ensures.text),
      read.1,
    )

pub returns-clause-read : goal.returns-clause-read
returns-clause-read g c = λ held is.
    let read = c.in_ok-bytes.ensures.read held is in (
      small_file _ _ _ read.0 c.in_ok-bytes.ensures.short (rw (← c.deref.ensures.value) c.in-Err.ensures.line),
      read.1,
    )
