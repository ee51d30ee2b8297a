use Rattle.lab_top.proofs.Stores.{saves_on, loads_on}
use Rattle.lab_top.proofs.laws.cut_runs_go_on.Goals as goal

pub returns-clause-saved : goal.returns-clause-saved
returns-clause-saved c = saves_on

pub returns-clause-loaded : goal.returns-clause-loaded
returns-clause-loaded c = λ rest kept name place s t valid fits small free.
    loads_on rest kept name place s t small free
    (c.snapshots_are_what_they_spell.ensures.only s.lab s.lines valid fits)
