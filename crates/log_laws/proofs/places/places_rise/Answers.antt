use Rattle.lab_state.specs.Run.{run}
use Rattle.log_laws.proofs.OrderLemmas.{transcript_orderly}
use Rattle.log_laws.proofs.places.places_rise.Goals as goal

pub returns-clause-reads : goal.returns-clause-reads
returns-clause-reads c = λ words held kept. (transcript_orderly run words held kept).reads

pub returns-clause-uses : goal.returns-clause-uses
returns-clause-uses c = λ words held kept. (transcript_orderly run words held kept).uses
