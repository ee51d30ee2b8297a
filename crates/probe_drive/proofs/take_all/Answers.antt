use Rattle.std.proofs.Common.{◌≡◌, ◌∙◌, ◌++◌, List, length, inl, refl, sym, ap, subst, arith}
use Rattle.floor_core.specs.Job.{made, left}
use Rattle.floor_core.specs.Result.{finished}
use Rattle.probe_jobs.specs.Course.{Partly, slots_left}
use Rattle.probe_jobs.specs.Next.{NoneBefore, NoneLeft}
use Rattle.probe_jobs.specs.Told.{Told, Follow}
use Rattle.probe_jobs.specs.declared.slot.Slot.{Slot}
use Rattle.probe_drive.proofs.CourseLemmas.{ended}
use Rattle.probe_drive.proofs.SlotLemmas.{zip_end, all_begin, still_stand, fewer, none_before, none_before_first}
use Rattle.probe_drive.proofs.take_all.Goals as goal

pub slots-init : goal.slots-init
slots-init g c =
    let laws = g.met.J.Job g.world.𝓛 g.world.𝓜 g.world.𝓡 ((λ s x. x), (λ x. x), (λ x. x), λ x. x) in
    record {
      began = ap (λ (told : Told g.row.J.Denot). told.began) c.requires.told;
      before =
          subst
          (λ (told : Told g.row.J.Denot). NoneBefore g.J.Job.meaning g.J.Timed.time told.last c.args.jobs.now.items
          (length c.args.jobs.now.items))
          (sym c.requires.told)
          (none_before_first g.J.Job.meaning g.J.Job.sent g.J.Job.state_after g.J.Timed.time c.args.jobs.now.items);
      follow =
          subst
          (λ (told : Told g.row.J.Denot). Follow g.J.Job.meaning g.J.Job.sent g.J.Job.state_after told
          c.args.jobs.now.items)
          (sym c.requires.told) (inl (refl, refl));
      stand =
          all_begin g.J.Job.meaning g.J.Job.sent g.J.Job.state_after laws.rests c.args.jobs.now.items c.requires.sent;
    }

pub slots-smaller : goal.slots-smaller
slots-smaller g c =
    let (n, some, takes) = c.in_ok-take_next.ensures.taken in
    fewer g.J.Job.meaning g.J.Job.sent g.J.Job.state_after c.slots.jobs.items c.take_next.new.jobs.items
    c.in-Some.slot.place n some takes

pub slots-preserved : goal.slots-preserved
slots-preserved g c =
    let laws = c.turns_add_up.ensures in
    let timed = g.met.J.Timed g.world.𝓛 g.world.𝓜 g.world.𝓡 ((λ s x. x), (λ x. x), (λ x. x), λ x. x) in
    let (n, some, takes) = c.in_ok-take_next.ensures.taken in
    record {
      began = c.in_ok-take_next.ensures.began ∙ c.slots.invariant.began;
      before =
          subst
          (λ (slot : Slot). NoneBefore g.J.Job.meaning g.J.Timed.time slot c.take_next.new.jobs.items
          (length c.take_next.new.jobs.items))
          (sym c.in_ok-take_next.ensures.last)
          (none_before g.J.Job.meaning g.J.Job.sent g.J.Job.state_after g.J.Timed.time timed.rises c.in-Some.slot
          c.slots.jobs.items c.take_next.new.jobs.items c.in-Some.slot.place n takes
          (subst
          (λ (jobs : List g.row.J.Denot). NoneBefore g.J.Job.meaning g.J.Timed.time c.in-Some.slot jobs (length jobs))
          c.deref.ensures.value c.in-Some.ensures.5));
      follow = c.in_ok-take_next.ensures.follow;
      stand =
          still_stand g.J.Job.meaning g.J.Job.sent g.J.Job.state_after laws.turns laws.posts _ c.slots.jobs.items
          c.take_next.new.jobs.items c.in-Some.slot.place n takes c.slots.invariant.stand;
    }

pub returns-clause-jobs : goal.returns-clause-jobs
returns-clause-jobs g c =
    zip_end (Partly g.J.Job.meaning g.J.Job.sent g.J.Job.state_after)
    (λ job. slots_left g.J.Job.meaning job ≡ 0)
    (λ job. finished g.J.Job.state_after (g.J.Job.meaning job)) g.J.Job.meaning
    (λ start job is none. (ended g.J.Job.meaning g.J.Job.sent g.J.Job.state_after start job is
    (omega (arith, none))).job_is)
    c.args.jobs.now.items c.slots.jobs.items c.slots.invariant.stand
    (subst (λ (jobs : List g.row.J.Denot). NoneLeft g.J.Job.meaning jobs (length jobs)) c.deref.ensures.value
    c.in_default.ensures)

pub returns-clause-posts : goal.returns-clause-posts
returns-clause-posts g c =
    zip_end (Partly g.J.Job.meaning g.J.Job.sent g.J.Job.state_after)
    (λ job. slots_left g.J.Job.meaning job ≡ 0)
    (λ job. g.J.Job.sent job ++ made (g.J.Job.meaning job) (left (g.J.Job.meaning job))) g.J.Job.sent
    (λ start job is none. (ended g.J.Job.meaning g.J.Job.sent g.J.Job.state_after start job is
    (omega (arith, none))).sent_is)
    c.args.jobs.now.items c.slots.jobs.items c.slots.invariant.stand
    (subst (λ (jobs : List g.row.J.Denot). NoneLeft g.J.Job.meaning jobs (length jobs)) c.deref.ensures.value
    c.in_default.ensures)
