use Rattle.std.proofs.Common.{◌≡◌, ◌∙◌, ◌+◌, ◌-◌, ap, arith, sym}
use Rattle.board.specs.Idle.{passed}
use Rattle.board.specs.Stretch.{stretch}
use Rattle.board.specs.View.{after, quiet}
use Rattle.board.proofs.IdleLemmas.{passes, passes_idle}
use Rattle.board.proofs.StretchLemmas.{after_none}
use Rattle.board.proofs.board.Board.pass_idle.Goals as goal

pub returns-then-not-are_idle-clause-run : goal.returns-then-not-are_idle-clause-run
returns-then-not-are_idle-clause-run g c = c.are_idle.ensures.same ∙ after_none _ _ _

pub returns-then-stop-next-clause-run : goal.returns-then-stop-next-clause-run
returns-then-stop-next-clause-run g c = c.are_idle.ensures.same ∙ after_none _ _ _

pub returns-clause-run : goal.returns-clause-run
returns-clause-run g c =
    let speed = c.from-speed.ensures ∙ c.speed.ensures.value in
    let same = c.are_idle.ensures.same in
    passes c.args.self.now c.let_pass.new.self c.args.at.from.0 (c.args.at.first + c.args.i)
    (c.min-stop.result - (c.args.at.first + c.args.i)) (rw same at c.let_pass.ensures.after)
    (passes_idle c.args.self.now.view c.args.at.from.0 (c.args.at.first + c.args.i) c.from-speed.result
    c.timer_stays_until-until.result.0 c.min-stop.result speed
    (omega (arith, c.from-speed.ensures, c.speed.ensures.least)) (rw same at c.let_pass.ensures.next)
    (rw same at c.let_pass.ensures.fits) (c.are_idle.ensures.idle c.if-not-are_idle.false)
    (rw same at c.timer_stays_until-until.ensures.still)
    (omega (arith, c.timer_stays_until-until.ensures.from)) (omega (arith, c.min-stop.ensures)))

pub returns-clause-idle : goal.returns-clause-idle
returns-clause-idle g c some =
    let speed = c.from-speed.ensures ∙ c.speed.ensures.value in
    let same = c.are_idle.ensures.same in
    passes_idle c.args.self.now.view c.args.at.from.0 (c.args.at.first + c.args.i) c.from-speed.result
    c.timer_stays_until-until.result.0 c.min-stop.result speed
    (omega (arith, c.from-speed.ensures, c.speed.ensures.least)) (rw same at c.let_pass.ensures.next)
    (rw same at c.let_pass.ensures.fits) (c.are_idle.ensures.idle c.if-not-are_idle.false)
    (rw same at c.timer_stays_until-until.ensures.still)
    (omega (arith, c.timer_stays_until-until.ensures.from)) (omega (arith, c.min-stop.ensures))

pub returns-clause-none : goal.returns-clause-none
returns-clause-none g c none =
    returns-clause-run g c
    ∙ ap
    (λ n. after c.args.self.now (stretch c.args.self.now.view c.args.at.from.0 (c.args.at.first + c.args.i) n)) none
    ∙ sym (after_none _ _ _)
