use Rattle.std.proofs.Common.{◌≡◌, ◌+◌, ◌<◌, ◌%◌, ap, arith, length, refl}
use Rattle.std.proofs.lemmas.Bool.{eqb-true}
use Rattle.rv_hart.specs.Core.{alignment}
use Rattle.board.specs.Changes.{with_pc}
use Rattle.monitor.specs.Images.{with_each_pc}
use Rattle.monitor.proofs.EntryLemmas.{first_all, first_length, first_more, with_first_pcs}
use Rattle.monitor.proofs.ImageLemmas.{changed_more, changed_seen, for_changed, some_changed, unchanged}
use Rattle.monitor.proofs.monitor.Monitor.set_each_pc.Goals as goal

pub loop-hart-init : goal.loop-hart-init
loop-hart-init g c = unchanged c.args.b.0 _ c.args.self.now (λ v. refl)

pub set_one_pc-requires-clause-has_plan : goal.set_one_pc-requires-clause-has_plan
set_one_pc-requires-clause-has_plan g c =
    some_changed c.args.self.now.state.lab c.loop-hart.self.state.lab c.args.b.0
    (λ v. with_first_pcs v c.args.pc c.loop-hart.hart) (ap (λ running. running.state.lab) c.loop-hart.invariant)
    c.requires.has_plan

pub set_one_pc-requires-clause-hart : goal.set_one_pc-requires-clause-hart
set_one_pc-requires-clause-hart g c =
    for_changed c.args.self.now.state.lab c.loop-hart.self.state.lab c.args.b.0
    (λ v. with_first_pcs v c.args.pc c.loop-hart.hart) (λ v. c.loop-hart.hart < length v.cores)
    (ap (λ running. running.state.lab) c.loop-hart.invariant)
    (λ v seen. omega (arith, first_length v c.args.pc c.loop-hart.hart, c.harts-harts.ensures.count v seen))

pub set_one_pc-requires-clause-aligned : goal.set_one_pc-requires-clause-aligned
set_one_pc-requires-clause-aligned g c =
    for_changed c.args.self.now.state.lab c.loop-hart.self.state.lab c.args.b.0
    (λ v. with_first_pcs v c.args.pc c.loop-hart.hart) (λ v. c.args.pc % alignment v.space.plan.letters ≡ 0)
    (ap (λ running. running.state.lab) c.loop-hart.invariant)
    (λ v seen. eqb-true (c.args.pc % alignment v.space.plan.letters) 0 (c.requires.is_entry v seen))

pub loop-hart-preserved : goal.loop-hart-preserved
loop-hart-preserved g c =
    let hart = c.loop-hart.hart in
    changed_more c.args.b.0 (λ v. with_first_pcs v c.args.pc hart) (λ v. with_pc v hart c.args.pc)
    (λ v. with_first_pcs v c.args.pc (hart + 1)) c.args.self.now c.loop-hart.self c.set_one_pc.new.self
    (λ v. first_more v c.args.pc hart) c.loop-hart.invariant c.set_one_pc.ensures

pub returns : goal.returns
returns g c =
    changed_seen c.args.b.0 (λ v. with_first_pcs v c.args.pc c.loop-hart.hart) (λ v. with_each_pc v c.args.pc)
    c.args.self.now _
    (λ v seen. first_all v c.args.pc c.loop-hart.hart (omega (arith, c.harts-harts.ensures.count v seen)))
    c.loop-hart.invariant
