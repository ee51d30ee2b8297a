-- The laboratory that there can be holds what one holds that is not spent.
use Rattle.std.proofs.Common.{refl, ap, arith}
use Rattle.lab_state.specs.Lab.{Lab}
use Rattle.lab_state.proofs.ResumeLemmas.{sound-resumed}
use Rattle.lab_state.proofs.RoundLemmas.{given_back}
use Rattle.lab_state.proofs.lab.Lab.resume.Goals as goal

pub put_states-requires-clause-fit : goal.put_states-requires-clause-fit
put_states-requires-clause-fit g c =
    rw (c.deref_mut.ensures.value, ap (λ s. s.lab.boards) c.self.view_is) c.requires.fit

pub invariant_of-self : goal.invariant_of-self
invariant_of-self g c h =
    let before : Lab = record {
      boards = c.self.inside.boards.items;
      hubs = c.self.inside.hubs;
      pending = c.self.inside.pending.items;
      now = c.self.inside.source.end;
      quantum = c.self.inside.quantum;
    } in
    let next = c.source_at-self-inside in
    let back = given_back c.put_states.new.boards c.self.inside.boards.items c.self.inside.boards.len
    (omega (arith, c.deref_mut.ensures.len)) in
    rw back
    (sound-resumed {lab = before} next.result c.put_states.new.boards c.args.now.0 c.args.states.now
    c.args.pending.items (c.self.invariant h) (rw (← c.self.view_is) at c.requires.there)
    (rw c.deref_mut.ensures.value at c.put_states.ensures) (rw (← c.self.view_is) at c.requires.valid)
    next.ensures.closed next.ensures.end
    (rw (c.deref.ensures.value, back) at next.ensures.speeds))

pub returns : goal.returns
returns g c =
    let back = given_back c.put_states.new.boards c.self.inside.boards.items c.self.inside.boards.len
    (omega (arith, c.deref_mut.ensures.len)) in
    rw (
      ← c.self.view_is,
      back,
      c.put_states.ensures,
      c.deref_mut.ensures.value,
      c.source_at-self-inside.ensures.end,
    )
    refl
