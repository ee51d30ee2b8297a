-- What a change leaves is all that holds of the laboratory.
use Rattle.std.proofs.Common.{arith}
use Rattle.lab_state.specs.One.{with_view}
use Rattle.lab_state.specs.Inner.BoardChange.{changed_by}
use Rattle.lab_state.proofs.SoundLemmas.{planned_at, sound-kept, seen_set}
use Rattle.lab_state.proofs.ChangeLemmas.{change-leaves}
use Rattle.lab_state.proofs.lab.Lab.change.Goals as goal

pub index_mut-requires : goal.index_mut-requires
index_mut-requires g c = omega (arith, planned_at c.args.b.0 c.self.view_is c.requires.has_plan)

pub invariant_of-self : goal.invariant_of-self
invariant_of-self g c h =
    rw c.change.ensures
    (sound-kept c.args.b.0 c.index_mut.ensures.value (c.self.invariant h) (changed_by c.args.change)
    (change-leaves c.args.change))

pub returns : goal.returns
returns g c =
    seen_set (with_view (changed_by c.args.change)) c.args.b.0 c.self.view_is c.index_mut.ensures.value c.change.ensures
