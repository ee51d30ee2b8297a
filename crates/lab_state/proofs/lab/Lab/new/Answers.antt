-- There is nothing yet.
use Rattle.lab_state.proofs.SoundLemmas.{sound-new}
use Rattle.lab_state.proofs.lab.Lab.new.Goals as goal

pub invariant_of-result : goal.invariant_of-result
invariant_of-result g c h = rw (
  c.new.ensures.items,
  c.new-2.ensures,
  c.new-3.ensures.items,
  c.of.ensures,
  c.new-4.ensures,
) sound-new
