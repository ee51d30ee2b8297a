use Rattle.std.proofs.Common.{refl}
use Rattle.resc_vars.specs.Behind.{items_behind, main_file}
use Rattle.resc_vars.specs.Bodies.{source_of}
use Rattle.resc_vars.proofs.BehindLemmas.{next_longer}
use Rattle.resc_vars.proofs.JoinLemmas.{begun_join}
use Rattle.resc_vars.proofs.SameLemmas.{enter_behind, longer_length, run_behind}
use Rattle.resc_vars.proofs.laws.lines_behind_come_last.Goals as goal

pub returns-clause-begun : goal.returns-clause-begun
returns-clause-begun c = λ file text more whole closed. begun_join file text more whole closed

pub returns-clause-next : goal.returns-clause-next
returns-clause-next c = λ text more s. next_longer (main_file s) (items_behind text more) s refl

pub returns-clause-included : goal.returns-clause-included
returns-clause-included c = λ text more file bytes s. enter_behind (items_behind text more) s (source_of file bytes)

pub returns-clause-macro_ : goal.returns-clause-macro_
returns-clause-macro_ c = λ text more name s. run_behind (items_behind text more) s name

pub returns-clause-depth : goal.returns-clause-depth
returns-clause-depth c = λ text more s. longer_length (items_behind text more) s.outer
