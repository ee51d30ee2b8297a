-- What holds of the laboratory, of each of its boards and of its hubs.
use Rattle.std.proofs.Common.{refl, arith}
use Rattle.lab_state.proofs.SoundLemmas.{unspent}
use Rattle.lab_state.proofs.ValidLemmas.{can-be}
use Rattle.lab_state.proofs.lab.Lab.validity_law.Goals as goal

pub returns : goal.returns
returns g c =
    let sound = unspent c.self.invariant c.self.view_is c.requires in
    rw (← c.self.view_is)
    (can-be sound refl (rw c.deref.ensures.value at c.validity_laws.ensures)
    (omega (arith, c.len-hubs.ensures.count)) c.len-hubs.ensures.once)
