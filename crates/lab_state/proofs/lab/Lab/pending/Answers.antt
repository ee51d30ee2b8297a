-- What holds of the posts that wait.
use Rattle.lab_state.proofs.SoundLemmas.{unspent}
use Rattle.lab_state.proofs.lab.Lab.pending.Goals as goal

pub returns-clause-rising : goal.returns-clause-rising
returns-clause-rising g c =
    let sound = unspent c.self.invariant c.self.view_is c.requires in
    rw c.deref.ensures.value sound.pending.rising

pub returns-clause-in_hub : goal.returns-clause-in_hub
returns-clause-in_hub g c =
    let sound = unspent c.self.invariant c.self.view_is c.requires in
    rw (c.deref.ensures.value, ← c.self.view_is)
    (λ k d below. (sound.pending.each k d below).in_hub)

pub returns-clause-no_finish : goal.returns-clause-no_finish
returns-clause-no_finish g c =
    let sound = unspent c.self.invariant c.self.view_is c.requires in
    rw c.deref.ensures.value
    (λ k d below. (sound.pending.each k d below).no_finish)

pub returns-clause-sent : goal.returns-clause-sent
returns-clause-sent g c =
    let sound = unspent c.self.invariant c.self.view_is c.requires in
    rw (c.deref.ensures.value, ← c.self.view_is)
    (λ k d below. (sound.pending.each k d below).sent)

pub returns-clause-due : goal.returns-clause-due
returns-clause-due g c =
    let sound = unspent c.self.invariant c.self.view_is c.requires in
    rw (c.deref.ensures.value, ← c.self.view_is)
    (λ k d below. (sound.pending.each k d below).due)
