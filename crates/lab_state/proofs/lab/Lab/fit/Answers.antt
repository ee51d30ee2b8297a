-- There are devices for the plan.
use Rattle.std.proofs.Common.{◌∙◌, ap, length, Some, arith}
use Rattle.board.specs.New.{new_board}
use Rattle.board.specs.View.{State}
use Rattle.lab_state.proofs.SoundLemmas.{seen_set, unspent, bare, has-for, sound-fit}
use Rattle.lab_state.proofs.TimeLemmas.{as_many}
use Rattle.lab_state.proofs.lab.Lab.fit.Goals as goal

pub made-requires-clause-enough : goal.made-requires-clause-enough
made-requires-clause-enough g c =
    let sound = unspent c.self.invariant c.self.view_is c.requires.unspent in
    has-for c.args.board.0 c.args.plan sound (omega (arith, ap (λ s. length s.lab.boards) c.self.view_is))
    (bare c.args.board.0 (ap (λ s. s.lab) c.self.view_is) c.has_plan.ensures c.if-has_plan.false) c.requires.plan

pub set_speed-requires-clause-member : goal.set_speed-requires-clause-member
set_speed-requires-clause-member g c =
    let sound = unspent c.self.invariant c.self.view_is c.requires.unspent in
    let many = as_many c.self.inside.boards.items sound.timed in
    omega (arith, many, ap (λ s. length s.lab.boards) c.self.view_is, c.requires.exists)

pub invariant_of-self-2 : goal.invariant_of-self-2
invariant_of-self-2 g c h =
    rw (c.fit.ensures, c.in_ok-made.ensures.ok, c.set_speed.ensures)
    (sound-fit c.args.board.0 c.args.plan (c.self.invariant h)
    (omega (arith, ap (λ s. length s.lab.boards) c.self.view_is))
    (bare c.args.board.0 (ap (λ s. s.lab) c.self.view_is) c.has_plan.ensures c.if-has_plan.false) c.requires.plan
    c.made.new.spares c.index_mut.ensures.value c.in_ok-made.ensures.taken)

pub returns-clause-ok : goal.returns-clause-ok
returns-clause-ok g c =
    let v = new_board c.args.board.0 c.args.plan in
    rw c.set_speed.ensures
    (seen_set (λ board. record board { view = Some v }) c.args.board.0 c.self.view_is c.index_mut.ensures.value
    (c.fit.ensures ∙ ap (λ (s : State). record c.index_mut.result.now { view = Some s.view }) c.in_ok-made.ensures.ok))
