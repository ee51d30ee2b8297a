-- A board and its member of the source of time have another speed.
use Rattle.std.proofs.Common.{arith}
use Rattle.board.specs.Changes.{with_speed}
use Rattle.lab_state.specs.One.{with_view}
use Rattle.lab_state.proofs.SoundLemmas.{planned_at, sound-speed, seen_set, unspent}
use Rattle.lab_state.proofs.TimeLemmas.{as_many}
use Rattle.lab_state.proofs.lab.Lab.set_speed.Goals as goal

pub index_mut-requires : goal.index_mut-requires
index_mut-requires g c = omega (arith, planned_at c.args.b.0 c.self.view_is c.requires.has_plan)

pub set_speed-requires-2-clause-member : goal.set_speed-requires-2-clause-member
set_speed-requires-2-clause-member g c =
    let sound = unspent c.self.invariant c.self.view_is c.requires.unspent in
    let below = planned_at c.args.b.0 c.self.view_is c.requires.has_plan in
    omega (arith, below, as_many c.self.inside.boards.items sound.timed)

pub invariant_of-self : goal.invariant_of-self
invariant_of-self g c h =
    let has = rw (← c.self.view_is) at c.requires.has_plan in
    rw (c.set_speed.ensures, c.set_speed-2.ensures)
    (sound-speed c.args.b.0 c.index_mut.ensures.value (c.self.invariant h) c.args.speed c.requires.least
    c.requires.most has)

pub returns : goal.returns
returns g c =
    rw c.set_speed-2.ensures
    (seen_set (with_view (λ v. with_speed v c.args.speed)) c.args.b.0 c.self.view_is c.index_mut.ensures.value
    c.set_speed.ensures)
