use Rattle.lab_state.specs.Run.{run}
use Rattle.log_laws.proofs.OrderLemmas.{transcript_orderly}
use Rattle.log_laws.proofs.places.saves_are_kept.Goals as goal

pub returns : goal.returns
returns c = λ words held kept. (transcript_orderly run words held kept).keeps
