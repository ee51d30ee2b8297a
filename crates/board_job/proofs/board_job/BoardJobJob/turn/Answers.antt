use Rattle.std.proofs.Common.{◌≡◌, ℕ, ◌≤◌, ◌∙◌, ap, arith}
use Rattle.time_handle.specs.Grant.{left}
use Rattle.board_job.specs.Slots.{spent}
use Rattle.board_job.proofs.TurnLemmas.{still_holds, used_all, used_some}
use Rattle.board_job.proofs.board_job.BoardJobJob.turn.Goals as goal

pub turn-requires-clause-posts : goal.turn-requires-clause-posts
turn-requires-clause-posts g c = omega (arith, c.self.invariant.0.posts, c.left.ensures.value, c.min-n.ensures)

pub turn-requires-clause-entries : goal.turn-requires-clause-entries
turn-requires-clause-entries g c = omega (arith, c.self.invariant.0.entries, c.left.ensures.value, c.min-n.ensures)

pub used-requires : goal.used-requires
used-requires g c = omega (arith, c.in-Used.ensures.0, c.left.ensures.value, c.min-n.ensures)

pub invariant_of-self : goal.invariant_of-self
invariant_of-self g c =
    let few : c.min-n.result ≤ left c.self.inside.handle = omega (arith, c.left.ensures.value, c.min-n.ensures) in
    let all = ap (λ (n : ℕ). spent c.self.inside.handle n) c.in-Used.ensures.0 in
    let grant : c.used.new.self ≡ spent c.self.inside.handle c.min-n.result = c.used.ensures.used ∙ all in
    still_holds c.stretches_number.ensures c.self.inside.board c.turn.new.self c.self.inside.handle c.used.new.self
    c.self.inside.pass c.from.result.0 c.taken.result c.min-n.result few c.self.invariant c.in-Used.ensures.1 grant

pub used-requires-in-Starved : goal.used-requires-in-Starved
used-requires-in-Starved g c = omega (arith, c.in-Starved.ensures.0, c.left.ensures.value, c.min-n.ensures)

pub invariant_of-self-in-Starved : goal.invariant_of-self-in-Starved
invariant_of-self-in-Starved g c =
    let few : c.in-Starved.taken ≤ left c.self.inside.handle =
    omega (arith, c.in-Starved.ensures.0, c.left.ensures.value, c.min-n.ensures) in
    still_holds c.stretches_number.ensures c.self.inside.board c.turn.new.self c.self.inside.handle
    c.used-in-Starved.new.self c.self.inside.pass c.from.result.0 c.taken.result c.in-Starved.taken few
    c.self.invariant c.in-Starved.ensures.1 c.used-in-Starved.ensures.used

pub returns-in-Used-clause-turn : goal.returns-in-Used-clause-turn
returns-in-Used-clause-turn g c =
    rw (← c.self.view_is)
    (used_all c.turns_are_stretches.ensures c.self.inside.board c.turn.new.self c.self.inside.handle c.used.new.self
    c.self.inside.pass c.args.limit _ c.left.result c.from.result.0 c.taken.result c.in-Used.taken
    c.self.invariant.0 c.left.ensures.value c.min-n.ensures c.from.ensures.value c.taken.ensures.value
    c.in-Used.ensures c.used.ensures.used)

pub returns-in-Starved-clause-turn : goal.returns-in-Starved-clause-turn
returns-in-Starved-clause-turn g c =
    rw (← c.self.view_is)
    (used_some c.turns_are_stretches.ensures c.self.inside.board c.turn.new.self c.self.inside.handle
    c.used-in-Starved.new.self c.self.inside.pass c.args.limit _ c.left.result c.from.result.0 c.taken.result
    c.in-Starved.taken c.self.invariant.0 c.left.ensures.value c.min-n.ensures c.from.ensures.value
    c.taken.ensures.value c.in-Starved.ensures c.used-in-Starved.ensures.used)
