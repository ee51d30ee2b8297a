use Rattle.std.proofs.Common.{List, length, sym, subst, arith}
use Rattle.probe_jobs.specs.Next.{IsNext, NoneBefore}
use Rattle.probe_drive.proofs.SlotLemmas.{none_unsent, still_stand, next_takes, shown_follow}
use Rattle.probe_drive.proofs.take_next.Goals as goal

pub pass_idle-passed-requires-clause-sent : goal.pass_idle-passed-requires-clause-sent
pass_idle-passed-requires-clause-sent g c κs within job there =
    none_unsent g.J.Job.meaning g.J.Job.sent g.J.Job.state_after _ c.args.jobs.now.items c.args.slot.place job
    c.requires.stand there

pub passed-requires-clause-stand : goal.passed-requires-clause-stand
passed-requires-clause-stand g c =
    still_stand g.J.Job.meaning g.J.Job.sent g.J.Job.state_after c.turns_add_up.ensures.turns
    c.turns_add_up.ensures.posts _ c.args.jobs.now.items _ c.args.slot.place c.pass_idle-passed.result
    (c.pass_idle-passed.ensures.passed c.if-passed-gt0.true) c.requires.stand

pub before-requires-clause-next : goal.before-requires-clause-next
before-requires-clause-next g c =
    subst
    (λ (jobs : List g.row.J.Denot). IsNext g.J.Job.meaning g.J.Timed.time c.args.slot jobs (length jobs))
    (sym (c.pass_idle-passed.ensures.none (omega (arith, c.if-passed-gt0.false)))) c.requires.next

pub before-requires-clause-rising : goal.before-requires-clause-rising
before-requires-clause-rising g c =
    let last = (g.W.Watcher.told c.args.watcher.now).last in
    subst (λ (jobs : List g.row.J.Denot). NoneBefore g.J.Job.meaning g.J.Timed.time last jobs (length jobs))
    (sym (c.pass_idle-passed.ensures.none (omega (arith, c.if-passed-gt0.false)))) c.requires.rising

pub returns-clause-follow : goal.returns-clause-follow
returns-clause-follow g c =
    let same = c.pass_idle-passed.ensures.none (omega (arith, c.if-passed-gt0.false)) in
    shown_follow g.J.Job.meaning g.J.Job.sent g.J.Job.state_after g.J.Timed.time
    (g.W.Watcher.told c.args.watcher.now) (g.W.Watcher.told c.before-2.new.self) c.args.slot
    c.args.jobs.now.items c.pass_idle-passed.new.jobs.items c.index_mut.result.now c.take_slot.new.job same
    c.requires.next c.index_mut.ensures.value c.in_ok-take_slot.ensures c.before-2.ensures

pub returns-clause-taken : goal.returns-clause-taken
returns-clause-taken g c =
    let same = c.pass_idle-passed.ensures.none (omega (arith, c.if-passed-gt0.false)) in (
      1,
      omega arith,
      next_takes g.J.Job.meaning g.J.Job.sent g.J.Job.state_after g.J.Timed.time c.args.slot
          c.args.jobs.now.items c.pass_idle-passed.new.jobs.items c.index_mut.result.now c.take_slot.new.job same
          c.requires.next c.index_mut.ensures.value c.in_ok-take_slot.ensures,
    )
