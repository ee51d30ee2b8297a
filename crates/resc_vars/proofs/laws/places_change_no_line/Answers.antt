use Rattle.resc_vars.proofs.SameLemmas.{file_alike, macro_alike, next_alike}
use Rattle.resc_vars.proofs.laws.places_change_no_line.Goals as goal

pub returns-clause-next : goal.returns-clause-next
returns-clause-next c = λ flow other means. next_alike flow other means

pub returns-clause-included : goal.returns-clause-included
returns-clause-included c = λ flow other file text means. file_alike flow other means file text

pub returns-clause-macro_ : goal.returns-clause-macro_
returns-clause-macro_ c = λ flow other name means. macro_alike flow other means name
