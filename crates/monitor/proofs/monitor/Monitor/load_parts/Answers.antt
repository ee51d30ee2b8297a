use Rattle.std.proofs.Common.{◌≡◌, ◌∙◌, ◌<◌, ap, arith, length, refl, subst, sym, take, true}
use Rattle.monitor.specs.Images.{holds_part, with_part, with_parts}
use Rattle.monitor.proofs.ImageLemmas.{changed_more, for_changed, parts_more, parts_still, some_changed}
use Rattle.monitor.proofs.monitor.Monitor.load_parts.Goals as goal
use Rattle.lab_num.proofs.ListLemmas.{passes_each}

pub loop-part-init : goal.loop-part-init
loop-part-init g c = rw (← c.self.view_is, c.zero.ensures) refl

pub load_part-requires-clause-has_plan : goal.load_part-requires-clause-has_plan
load_part-requires-clause-has_plan g c =
    some_changed c.args.self.now.state.lab c.loop-part.self.state.lab c.args.b.0
    (λ v. with_parts v (take c.loop-part.part-index c.args.parts.now))
    (ap (λ running. running.state.lab) c.loop-part.invariant) c.requires.has_plan

pub load_part-requires-clause-holds : goal.load_part-requires-clause-holds
load_part-requires-clause-holds g c =
    let parts = c.args.parts.now in
    let i = c.loop-part.part-index in
    let part = c.part-item.result in
    let inside : i < length parts = omega arith in
    for_changed c.args.self.now.state.lab c.loop-part.self.state.lab c.args.b.0 (λ v. with_parts v (take i parts))
    (λ v. holds_part v part ≡ true) (ap (λ running. running.state.lab) c.loop-part.invariant)
    (λ v seen.
    parts_still (take i parts) v part
    ∙ subst (λ item. holds_part v item ≡ true) (sym c.part-item.is)
    (passes_each (holds_part v) parts i part (c.requires.holds v seen) inside))

pub loop-part-preserved : goal.loop-part-preserved
loop-part-preserved g c =
    let parts = c.args.parts.now in
    let i = c.loop-part.part-index in
    let part = c.part-item.result in
    let inside : i < length parts = omega arith in
    changed_more c.args.b.0 (λ v. with_parts v (take i parts)) (λ v. with_part v part) _ c.args.self.now
    c.loop-part.self c.load_part.new.self
    (λ v. ap (with_part (with_parts v (take i parts))) c.part-item.is ∙ parts_more v parts i part inside)
    c.loop-part.invariant c.in_ok-load_part.ensures.ok
