-- A board's memory is another one.
use Rattle.std.proofs.Common.{refl, arith}
use Rattle.board.specs.Changes.{with_memory_in}
use Rattle.lab_state.specs.One.{with_view}
use Rattle.lab_state.proofs.SoundLemmas.{planned_at, sound-kept, seen_set}
use Rattle.lab_state.proofs.lab.Lab.put_memory.Goals as goal

pub index_mut-requires : goal.index_mut-requires
index_mut-requires g c = omega (arith, planned_at c.args.b.0 c.self.view_is c.requires.has_plan)

pub invariant_of-self : goal.invariant_of-self
invariant_of-self g c h =
    rw c.put_memory.ensures
    (sound-kept c.args.b.0 c.index_mut.ensures.value (c.self.invariant h)
    (λ v. with_memory_in v c.args.part c.args.memory) (λ v. (refl, refl)))

pub returns : goal.returns
returns g c =
    seen_set (with_view (λ v. with_memory_in v c.args.part c.args.memory)) c.args.b.0 c.self.view_is
    c.index_mut.ensures.value c.put_memory.ensures
