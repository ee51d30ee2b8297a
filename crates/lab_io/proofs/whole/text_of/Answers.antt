use Rattle.std.proofs.Common.{◌∙◌}
use Rattle.lab_io.proofs.Texts.{text_of, broken_at}
use Rattle.lab_io.proofs.whole.text_of.Goals as goal

pub returns-in-Ok-clause-text : goal.returns-in-Ok-clause-text
returns-in-Ok-clause-text c = text_of _ _ c.in-Ok.ensures.cases.0 c.in-Ok.ensures.cases.1

pub returns-in-Err-clause-line : goal.returns-in-Err-clause-line
returns-in-Err-clause-line c =
    broken_at _ _ _ c.in-Err.ensures.cases.0 (c.valid_up_to.ensures ∙ c.in-Err.ensures.valid_len) c.line_at.ensures
