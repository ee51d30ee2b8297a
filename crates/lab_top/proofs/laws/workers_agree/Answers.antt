use Rattle.std.proofs.Common.{refl}
use Rattle.std.specs.FinMap.{get}
use Rattle.lab_state.specs.Run.{run}
use Rattle.lab_top.specs.Content.{content_of}
use Rattle.lab_top.proofs.Settings.{begun_workers}
use Rattle.lab_top.proofs.laws.workers_agree.Goals as goal

pub returns : goal.returns
returns c = λ words others script setting workers held kept is other.
    rw (is, other, begun_workers run held kept script setting workers (content_of script (get held script))) refl
