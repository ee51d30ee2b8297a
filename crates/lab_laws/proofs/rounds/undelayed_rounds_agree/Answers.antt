-- All that was sent in a round is due at its end.
use Rattle.std.proofs.Common.{ap}
use Rattle.lab_state.specs.Round.{Rounded}
use Rattle.lab_laws.proofs.ReachedLemmas.{is_reached}
use Rattle.lab_laws.proofs.HandedLemmas.{round-undelayed}
use Rattle.lab_laws.proofs.rounds.undelayed_rounds_agree.Goals as goal

pub returns-clause-round : goal.returns-clause-round
returns-clause-round g c = λ q within undelayed none.
    let reached = is_reached c.args.lab.now.lab c.validity_law.ensures in
    round-undelayed c.listing_laws.ensures.is_listing c.listing_laws.ensures.only c.stretches_number.ensures
    c.stretches_keep_time.ensures c.args.lab.now.lab q reached within undelayed none

pub returns-clause-none : goal.returns-clause-none
returns-clause-none g c = λ q within undelayed none.
    let reached = is_reached c.args.lab.now.lab c.validity_law.ensures in
    ap (λ (r : Rounded). r.lab.pending)
    (round-undelayed c.listing_laws.ensures.is_listing c.listing_laws.ensures.only c.stretches_number.ensures
    c.stretches_keep_time.ensures c.args.lab.now.lab q reached within undelayed none)
