use Rattle.std.proofs.Common.{◌≡◌, ◌+◌, ◌≤◌, ◌∙◌, arith, refl}
use Rattle.time_handle.specs.Grant.{left}
use Rattle.board_job.proofs.TurnLemmas.{still_holds, passed_over, idle_slots}
use Rattle.board_job.proofs.board_job.BoardJobTimed.pass.Goals as goal

pub used-requires : goal.used-requires
used-requires g c = omega (arith, c.pass-passed.ensures.most, c.left.ensures.value, c.min-most.ensures)

pub invariant_of-self : goal.invariant_of-self
invariant_of-self g c =
    let few : c.pass-passed.result ≤ left c.self.inside.handle =
    omega (arith, c.pass-passed.ensures.most, c.left.ensures.value, c.min-most.ensures) in
    still_holds c.stretches_number.ensures c.self.inside.board c.pass-passed.new.self c.self.inside.handle
    c.used.new.self c.self.inside.pass c.from.result.0 c.taken.result c.pass-passed.result few c.self.invariant
    c.pass-passed.ensures.run c.used.ensures.used

pub returns-clause-most : goal.returns-clause-most
returns-clause-most g c =
    rw (← c.self.view_is)
    (passed_over c.turns_are_stretches.ensures c.self.inside.board c.pass-passed.new.self c.self.inside.handle
    c.used.new.self c.self.inside.pass c.args.limit _ c.left.result c.from.result.0 c.taken.result
    c.pass-passed.result c.self.invariant.0 c.left.ensures.value c.min-most.ensures c.from.ensures.value
    c.taken.ensures.value c.pass-passed.ensures.most c.pass-passed.ensures.run c.used.ensures.used).0

pub returns-clause-passed : goal.returns-clause-passed
returns-clause-passed g c =
    rw (← c.self.view_is)
    (passed_over c.turns_are_stretches.ensures c.self.inside.board c.pass-passed.new.self c.self.inside.handle
    c.used.new.self c.self.inside.pass c.args.limit _ c.left.result c.from.result.0 c.taken.result
    c.pass-passed.result c.self.invariant.0 c.left.ensures.value c.min-most.ensures c.from.ensures.value
    c.taken.ensures.value c.pass-passed.ensures.most c.pass-passed.ensures.run c.used.ensures.used).1

pub returns-clause-idle : goal.returns-clause-idle
returns-clause-idle g c some =
    let few : c.pass-passed.result ≤ left c.self.inside.handle =
    omega (arith, c.pass-passed.ensures.most, c.left.ensures.value, c.min-most.ensures) in
    rw (← c.self.view_is)
    (idle_slots c.turns_are_stretches.ensures c.self.inside.board c.self.inside.handle c.self.inside.pass
    c.pass-passed.result few c.self.invariant.0
    (rw (c.from.ensures.value, c.taken.ensures.value) at (c.pass-passed.ensures.idle some)))

pub returns-clause-sent : goal.returns-clause-sent
returns-clause-sent g c = rw (← c.self.view_is) refl

pub returns-clause-none : goal.returns-clause-none
returns-clause-none g c none =
    let same : c.self.inside.handle.used + c.pass-passed.result ≡ c.self.inside.handle.used = omega (arith, none) in
    let grant : c.used.new.self ≡ c.self.inside.handle =
    c.used.ensures.used ∙ (λ k. record c.self.inside.handle { used = same k }) in
    rw (← c.self.view_is)
    (λ k. record { board = c.pass-passed.ensures.none none k; grant = grant k; pass = c.self.inside.pass })
