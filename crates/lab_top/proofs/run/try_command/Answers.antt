use Rattle.std.proofs.Common.{suc, refl, subst}
use Rattle.lab_state.specs.Run.{run}
use Rattle.monitor.specs.Step.{line_in}
use Rattle.lab_top.specs.Headline.{outside}
use Rattle.lab_top.specs.Transcript.{from, Done, Script}
use Rattle.lab_top.specs.Inner.Course.{IsEnd}
use Rattle.lab_top.specs.Inner.Stored.{lent}
use Rattle.lab_top.proofs.Onward.{left, step_cut, step_ends, step_faults, step_loads, step_memory, step_saves}
use Rattle.lab_top.proofs.Onward.{step_says, step_unread}
use Rattle.lab_top.proofs.Openings.{told}
use Rattle.lab_top.proofs.run.try_command.Goals as goal

pub returns-in-Done-clause-course : goal.returns-in-Done-clause-course
returns-in-Done-clause-course g c = λ held is kept keeps more.
    let done = told _ c.in-Done.ensures.step held is in
    step_says more held kept c.args.monitor.now.state c.step_to.new.self.state done.0 done.1 done.2
    (record { used = refl; told = keeps })

pub returns-in-Cut-clause-course : goal.returns-in-Cut-clause-course
returns-in-Cut-clause-course g c = λ held is kept keeps more.
    let cut = told _ c.in-Cut.ensures.step held is in
    rw c.from.ensures
    (step_cut more held kept c.args.monitor.now.state cut.1 cut.0 c.in-Cut.fault cut.2 cut.3
    (record { used = refl; told = keeps }))

pub returns-in-Ok-clause-course : goal.returns-in-Ok-clause-course
returns-in-Ok-clause-course g c = λ held is kept keeps more.
    let saves = told _ c.in-Save.ensures.step held is in
    let place = line_in c.in-Save.file c.in-Save.line in
    let before = outside g.F.Files g.K.Sink g.S.Store c.args.files.now c.args.out.now c.args.store.now in
    let read = outside g.F.Files g.K.Sink g.S.Store c.step_to.new.files c.step_to.new.out c.args.store.now in
    let stored = outside g.F.Files g.K.Sink g.S.Store c.step_to.new.files c.step_to.new.out c.keep.new.store in
    rw c.in-Ok.is at
    (step_saves before read stored more held kept c.args.monitor.now.state c.step_to.new.self.state c.in-Save.name
    c.in-Save.file c.in-Save.line (lent c.step_to.new.self c.keep.result) saves.0 saves.1 refl
    (rw c.as_str.ensures at (c.keep.ensures.stored kept keeps (from more run held) place
    (g.K.Sink.written c.step_to.new.out) (g.F.Files.asked c.step_to.new.files))))

pub returns-in-Save-clause-course : goal.returns-in-Save-clause-course
returns-in-Save-clause-course g c = λ held is kept keeps more.
    let saves = told _ c.in-Save.ensures.step held is in
    let place = line_in c.in-Save.file c.in-Save.line in
    let before = outside g.F.Files g.K.Sink g.S.Store c.args.files.now c.args.out.now c.args.store.now in
    let read = outside g.F.Files g.K.Sink g.S.Store c.step_to.new.files c.step_to.new.out c.args.store.now in
    let stored = outside g.F.Files g.K.Sink g.S.Store c.step_to.new.files c.step_to.new.out c.keep.new.store in
    c.stop_by.ensures.course (from (suc more) run held kept c.args.monitor.now.state) kept (from more run held) before
    stored
    (rw c.in-Err.is at
    (step_saves before read stored more held kept c.args.monitor.now.state c.step_to.new.self.state c.in-Save.name
    c.in-Save.file c.in-Save.line (lent c.step_to.new.self c.keep.result) saves.0 saves.1 refl
    (rw c.as_str.ensures at (c.keep.ensures.stored kept keeps (from more run held) place
    (g.K.Sink.written c.step_to.new.out) (g.F.Files.asked c.step_to.new.files)))))

pub returns-in-Load-clause-course : goal.returns-in-Load-clause-course
returns-in-Load-clause-course g c = λ held is kept keeps more.
    let loads = told _ c.in-Load.ensures.step held is in
    let before = outside g.F.Files g.K.Sink g.S.Store c.args.files.now c.args.out.now c.args.store.now in
    let read = outside g.F.Files g.K.Sink g.S.Store c.step_to.new.files c.step_to.new.out c.args.store.now in (
      keeps,
      λ new stored on.
          step_loads before read new more held kept c.args.monitor.now.state c.step_to.new.self.state c.in-Load.name
          c.in-Load.file c.in-Load.line stored loads.0 loads.1 refl on,
    )

pub returns-in-End-clause-course : goal.returns-in-End-clause-course
returns-in-End-clause-course g c = λ held is kept keeps more.
    let ends = told _ c.in-End.ensures.step held is in
    step_ends more held kept c.args.monitor.now c.step_to.new.self ends.0 c.in-End.ensures.next
    (record { used = refl; told = keeps })
    (subst (λ was. IsEnd (left c.step_to.new.self) Done c.stop.result was (g.K.Sink.written c.stop.new.out)) ends.1
    c.stop.ensures.course)

pub returns-in-Fault-clause-course : goal.returns-in-Fault-clause-course
returns-in-Fault-clause-course g c = λ held is kept keeps more.
    let faults = told _ c.in-Fault.ensures.step held is in
    step_faults more held kept c.args.monitor.now c.step_to.new.self c.in-Fault.fault faults.0 c.in-Fault.ensures.next
    (record { used = refl; told = keeps })
    (subst
    (λ was. IsEnd (left c.step_to.new.self) (Script c.in-Fault.fault) c.stop_at.result was
    (g.K.Sink.written c.stop_at.new.out))
    faults.1 c.stop_at.ensures.course)

pub returns-in-Unread-clause-course : goal.returns-in-Unread-clause-course
returns-in-Unread-clause-course g c = λ held is kept keeps more.
    let unread = told _ c.in-Unread.ensures.step held is in
    step_unread more held kept c.args.monitor.now.state c.step_to.new.self.state unread.0 unread.1
    (record { used = refl; told = keeps })

pub returns-clause-course : goal.returns-clause-course
returns-clause-course g c = λ held is kept keeps more.
    let memory = told _ c.in-Memory.ensures.step held is in
    step_memory more held kept c.args.monitor.now.state c.step_to.new.self.state memory.0 memory.1
    (record { used = refl; told = keeps })
