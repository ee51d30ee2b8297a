use Rattle.std.proofs.Common.{◌∙◌, refl, sym, arith}
use Rattle.lab_io.proofs.Grown.{grown-nil}
use Rattle.lab_top.proofs.Courses.{course_none}
use Rattle.lab_top.proofs.Stores.{keep_done, keep_dry, keep_failed, keep_large, memory_alone}
use Rattle.lab_top.proofs.snapshots.keep.Goals as goal

pub returns-in_default-clause-stored : goal.returns-in_default-clause-stored
returns-in_default-clause-stored g c = λ kept keeps further place written asked.
    course_none _ refl refl (record { used = refl; told = keeps })

pub returns-then-len-gt-MOST_BYTES-clause-stored : goal.returns-then-len-gt-MOST_BYTES-clause-stored
returns-then-len-gt-MOST_BYTES-clause-stored g c = λ kept keeps further place written asked.
    let spelled = rw (c.lab.ensures.lab, c.lines.ensures) at c.in-Ok.ensures.spelled in
    rw (← spelled)
    (keep_large further kept c.args.name.now place c.args.monitor.now c.in-Ok.bytes.items (omega (arith, c.len.ensures))
    keeps)

pub returns-then-is_dry-clause-stored : goal.returns-then-is_dry-clause-stored
returns-then-is_dry-clause-stored g c = λ kept keeps further place written asked.
    let spelled = rw (c.lab.ensures.lab, c.lines.ensures) at c.in-Ok.ensures.spelled in
    rw (← spelled)
    (keep_dry further kept c.args.name.now place c.args.monitor.now c.in-Ok.bytes.items (omega (arith, c.len.ensures))
    (sym c.is_dry.ensures ∙ c.if-is_dry.true) keeps)

pub returns-in-Done-clause-stored : goal.returns-in-Done-clause-stored
returns-in-Done-clause-stored g c = λ kept keeps further place written asked.
    let spelled = rw (c.lab.ensures.lab, c.lines.ensures) at c.in-Ok.ensures.spelled in
    rw (← spelled)
    (keep_done further kept c.args.name.now place c.args.monitor.now c.in-Ok.bytes.items (omega (arith, c.len.ensures))
    (sym c.is_dry.ensures ∙ c.if-is_dry.false) refl refl (rw c.deref.ensures.value at c.in-Done.ensures.uses)
    (rw (keeps, c.deref.ensures.value) at c.in-Done.ensures.kept))

pub returns-in-Done-clause-store : goal.returns-in-Done-clause-store
returns-in-Done-clause-store g c = record { faults = c.put.ensures.faults; counted = λ failed. cc }

pub returns-in-Failed-clause-stored : goal.returns-in-Failed-clause-stored
returns-in-Failed-clause-stored g c = λ kept keeps further place written asked.
    let spelled = rw (c.lab.ensures.lab, c.lines.ensures) at c.in-Ok.ensures.spelled in
    rw (← spelled)
    (keep_failed further kept c.args.name.now place c.args.monitor.now.state c.in-Ok.bytes.items
    (omega (arith, c.len.ensures)) (sym c.is_dry.ensures ∙ c.if-is_dry.false) refl refl
    (rw c.deref.ensures.value at c.in-Failed.ensures.uses) (c.in-Failed.ensures.kept ∙ keeps))

pub returns-in-Failed-clause-store : goal.returns-in-Failed-clause-store
returns-in-Failed-clause-store g c =
    record { faults = c.put.ensures.faults; counted = λ failed. c.put.ensures.failed c.in-Failed.is }

pub returns-clause-stored : goal.returns-clause-stored
returns-clause-stored g c = λ kept keeps further place written asked.
    course_none _ refl refl
    (record { used = c.in-Memory.ensures.uses ∙ grown-nil _; told = c.in-Memory.ensures.kept ∙ keeps })

pub returns-clause-store : goal.returns-clause-store
returns-clause-store g c =
    record { faults = c.put.ensures.faults; counted = λ failed. absurd (memory_alone _ refl failed) }
