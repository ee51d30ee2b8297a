-- What is ready goes on as the laboratory that was saved.
use Rattle.std.proofs.Common.{◌∙◌, ap, subst, sym}
use Rattle.lab_state.specs.Lab.{Seen}
use Rattle.lab_state.specs.Valid.{IsLab}
use Rattle.lab_snap.proofs.BoardLemmas.{can_be_added, can_be_created, is_ready, resumed_is, states_fit, states_there}
use Rattle.lab_snap.proofs.loading.build.Goals as goal

pub add_boards-requires-clause-can : goal.add_boards-requires-clause-can
add_boards-requires-clause-can g c = can_be_added c.args.saved c.requires.valid

pub create_hubs-requires-clause-can : goal.create_hubs-requires-clause-can
create_hubs-requires-clause-can g c =
    rw (c.in_ok-states.ensures.ok, c.items.ensures) (can_be_created c.args.saved c.requires.valid)

pub resume-requires-clause-there : goal.resume-requires-clause-there
resume-requires-clause-there g c =
    let now = is_ready c.args.lab.now c.args.saved c.in_ok-states.ensures.ok c.items.ensures
    c.in_ok-create_hubs.ensures.ok c.set_quantum.ensures in
    rw (c.deref.ensures.value, c.in_ok-states.ensures.states, now) (states_there 0 c.args.saved.boards)

pub resume-requires-clause-fit : goal.resume-requires-clause-fit
resume-requires-clause-fit g c =
    let now = is_ready c.args.lab.now c.args.saved c.in_ok-states.ensures.ok c.items.ensures
    c.in_ok-create_hubs.ensures.ok c.set_quantum.ensures in
    rw (c.deref.ensures.value, c.in_ok-states.ensures.states, now) (states_fit 0 c.args.saved.boards c.requires.fit)

pub resume-requires-clause-valid : goal.resume-requires-clause-valid
resume-requires-clause-valid g c =
    let now = is_ready c.args.lab.now c.args.saved c.in_ok-states.ensures.ok c.items.ensures
    c.in_ok-create_hubs.ensures.ok c.set_quantum.ensures in
    subst IsLab
    (sym (resumed_is c.args.lab.now c.args.saved now (c.deref.ensures.value ∙ c.in_ok-states.ensures.states)
    c.into_items.ensures))
    c.requires.valid

pub returns-clause-lab : goal.returns-clause-lab
returns-clause-lab g c =
    let now = is_ready c.args.lab.now c.args.saved c.in_ok-states.ensures.ok c.items.ensures
    c.in_ok-create_hubs.ensures.ok c.set_quantum.ensures in
    let lab = resumed_is c.args.lab.now c.args.saved now (c.deref.ensures.value ∙ c.in_ok-states.ensures.states)
    c.into_items.ensures in
    let spent = ap (λ (s : Seen). s.spent) now ∙ c.requires.unspent in
    c.resume.ensures ∙ (λ i. record { lab = lab i; spent = spent i })
