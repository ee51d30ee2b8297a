-- What is handed over was due, and no two keys of it are one.
use Rattle.lab_laws.proofs.ReachedLemmas.{is_reached}
use Rattle.lab_laws.proofs.HandedLemmas.{handed-differ, handed-due, handed-first}
use Rattle.lab_laws.proofs.rounds.posts_are_handed_over_once.Goals as goal

pub returns-clause-once : goal.returns-clause-once
returns-clause-once g c = λ qs within.
    let reached = is_reached c.args.lab.now.lab c.validity_law.ensures in
    handed-differ c.listing_laws.ensures.is_listing c.listing_laws.ensures.only c.stretches_number.ensures
    c.stretches_keep_time.ensures c.key_laws.ensures.total c.args.lab.now.lab qs reached within

pub returns-clause-due : goal.returns-clause-due
returns-clause-due g c = λ q.
    handed-due c.listing_laws.ensures.is_listing c.listing_laws.ensures.only c.stretches_number.ensures
    c.stretches_keep_time.ensures c.args.lab.now.lab q

pub returns-clause-first : goal.returns-clause-first
returns-clause-first g c = λ q within.
    let reached = is_reached c.args.lab.now.lab c.validity_law.ensures in
    handed-first c.listing_laws.ensures.is_listing c.listing_laws.ensures.only c.stretches_number.ensures
    c.stretches_keep_time.ensures c.args.lab.now.lab q reached within
