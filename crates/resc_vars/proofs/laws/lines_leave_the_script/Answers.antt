use Rattle.std.proofs.Common.{[], refl}
use Rattle.resc_vars.specs.Behind.{main_file}
use Rattle.resc_vars.proofs.BehindLemmas.{next_keeps}
use Rattle.resc_vars.proofs.ComingLemmas.{next_takes}
use Rattle.resc_vars.proofs.SameLemmas.{file_within, macro_within}
use Rattle.resc_vars.proofs.laws.lines_leave_the_script.Goals as goal

pub returns-clause-counted : goal.returns-clause-counted
returns-clause-counted c = λ s. next_takes s

pub returns-clause-main : goal.returns-clause-main
returns-clause-main c = λ s. next_keeps (main_file s) [] s refl

pub returns-clause-included : goal.returns-clause-included
returns-clause-included c = λ s after file text is. file_within s after file text is

pub returns-clause-macro_ : goal.returns-clause-macro_
returns-clause-macro_ c = λ s after name is. macro_within s after name is
