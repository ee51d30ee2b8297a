-- The first word is none of those that begin a command alone.
use Rattle.resc_read.proofs.TableLemmas.{no_word_row}
use Rattle.resc_read.proofs.read.by_first_word.Goals as goal

pub returns-in_default : goal.returns-in_default
returns-in_default c =
    let arm = c.in_default in
    rw (no_word_row _ c.word_at.ensures arm.not-showAnalyzer arm.not-include arm.not-runMacro arm.not-Save arm.not-Load
    arm.not-pause arm.not-start arm.not-quit)
    c.by_machine_words.ensures
