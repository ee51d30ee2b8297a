use Rattle.std.proofs.Common.{◌≡◌, ◌∙◌, true, false, refl, sym}
use Rattle.lab_io.proofs.Grown.{grown-nil}
use Rattle.lab_top.specs.Transcript.{is_occupied}
use Rattle.lab_top.proofs.Courses.{course_none}
use Rattle.lab_top.proofs.Stores.{memory_alone, take_failed, take_large, take_occupied, take_read}
use Rattle.lab_top.proofs.snapshots.fetch.Goals as goal

pub returns-then-is_occupied-clause-fetched : goal.returns-then-is_occupied-clause-fetched
returns-then-is_occupied-clause-fetched g c = λ kept keeps further place written asked.
    let there : is_occupied c.args.monitor.now.state.lab ≡ true =
    rw c.lab.ensures.lab at (sym c.is_occupied.ensures ∙ c.if-is_occupied.true) in
    take_occupied further kept c.args.name.now place c.args.monitor.now there keeps

pub returns-in-Done-clause-fetched : goal.returns-in-Done-clause-fetched
returns-in-Done-clause-fetched g c = λ kept keeps further place written asked restored is.
    let free : is_occupied c.args.monitor.now.state.lab ≡ false =
    rw c.lab.ensures.lab at (sym c.is_occupied.ensures ∙ c.if-is_occupied.false) in
    take_read _ _ further kept c.args.name.now place c.args.monitor.now c.get.new.into.items restored free
    (rw keeps at c.in-Done.ensures.bytes.1) c.in-Done.ensures.bytes.0 refl refl c.in-Done.ensures.uses
    (c.get.ensures.kept ∙ keeps) is

pub returns-in-Done-clause-free : goal.returns-in-Done-clause-free
returns-in-Done-clause-free g c = rw c.lab.ensures.lab at (sym c.is_occupied.ensures ∙ c.if-is_occupied.false)

pub returns-in-Done-clause-store : goal.returns-in-Done-clause-store
returns-in-Done-clause-store g c = record { faults = c.get.ensures.faults; counted = λ failed. cc }

pub returns-in-Failed-clause-fetched : goal.returns-in-Failed-clause-fetched
returns-in-Failed-clause-fetched g c = λ kept keeps further place written asked.
    let free : is_occupied c.args.monitor.now.state.lab ≡ false =
    rw c.lab.ensures.lab at (sym c.is_occupied.ensures ∙ c.if-is_occupied.false) in
    take_failed further kept c.args.name.now place c.args.monitor.now.state free refl refl c.in-Failed.ensures.uses
    (c.get.ensures.kept ∙ keeps)

pub returns-in-Failed-clause-store : goal.returns-in-Failed-clause-store
returns-in-Failed-clause-store g c =
    record { faults = c.get.ensures.faults; counted = λ failed. c.get.ensures.failed c.in-Failed.is }

pub returns-in-TooLarge-clause-fetched : goal.returns-in-TooLarge-clause-fetched
returns-in-TooLarge-clause-fetched g c = λ kept keeps further place written asked.
    let free : is_occupied c.args.monitor.now.state.lab ≡ false =
    rw c.lab.ensures.lab at (sym c.is_occupied.ensures ∙ c.if-is_occupied.false) in
    take_large further kept c.args.name.now place c.args.monitor.now free (rw keeps at c.in-TooLarge.ensures.bytes.1)
    refl refl c.in-TooLarge.ensures.uses (c.get.ensures.kept ∙ keeps)

pub returns-in-TooLarge-clause-store : goal.returns-in-TooLarge-clause-store
returns-in-TooLarge-clause-store g c = record { faults = c.get.ensures.faults; counted = λ failed. cc }

pub returns-in-Memory-clause-fetched : goal.returns-in-Memory-clause-fetched
returns-in-Memory-clause-fetched g c = λ kept keeps further place written asked.
    course_none _ refl refl
    (record { used = c.in-Memory.ensures.uses ∙ grown-nil _; told = c.get.ensures.kept ∙ keeps })

pub returns-in-Memory-clause-store : goal.returns-in-Memory-clause-store
returns-in-Memory-clause-store g c =
    record { faults = c.get.ensures.faults; counted = λ failed. absurd (memory_alone _ refl failed) }
