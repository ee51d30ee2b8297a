-- Devices of one hub have one delay, and posts of one delay are handed over in rising order.
use Rattle.std.proofs.Common.{slice_get, unwrap_or}
use Rattle.std.specs.Option.{option_map}
use Rattle.lab_state.specs.Handed.{is_of_hub}
use Rattle.lab_state.specs.Hub.{Hub}
use Rattle.lab_laws.proofs.ReachedLemmas.{is_reached}
use Rattle.lab_laws.proofs.HandedLemmas.{handed-rise, one-delay}
use Rattle.lab_laws.proofs.rounds.hubs_keep_order.Goals as goal

pub returns : goal.returns
returns g c = λ qs within n.
    let lab = c.args.lab.now.lab in
    let reached = is_reached c.args.lab.now.lab c.validity_law.ensures in
    handed-rise c.listing_laws.ensures.is_listing c.listing_laws.ensures.only c.stretches_number.ensures
    c.stretches_keep_time.ensures (is_of_hub lab.hubs n)
    (unwrap_or (option_map (λ (hub : Hub). hub.delay) (slice_get lab.hubs n)) 0) lab qs (one-delay lab.hubs n) reached
    within
