use Rattle.std.proofs.Common.{◌≡◌, ◌∷◌, ◌∙◌, ◌<◌, ◌-◌, length, Ok, Err, refl, sym, ap, inl, inr, arith}
use Rattle.std.specs.FinMap.{get}
use Rattle.std.specs.Vec.Iter.{into_iter_items}
use Rattle.std.proofs.lemmas.Bool.{and_parts}
use Rattle.std.proofs.lemmas.List.{nil_from_length}
use Rattle.repl_files.specs.declared.fault.FileCause.TheVariants.{Size}
use Rattle.repl_files.specs.Content.{content_of}
use Rattle.repl_files.specs.Loading.{Use, used, refused_at}
use Rattle.repl_files.proofs.Courses.{course_step, stopped_step, course_end}
use Rattle.lab_io.proofs.Frames.{reads_as, reads_none, reads_on}
use Rattle.repl_files.proofs.OneEntry.{one_used, one_kept}
use Rattle.repl_files.proofs.Uses.{use_refused, use_large, use_goes, file_goes, file_stopped}
use Rattle.repl_files.proofs.Wanting.{wanting, told_read}
use Rattle.repl_files.proofs.load.+joining.Goals.{join_file-then-room-eq0-via-then-room-eq0}
use Rattle.repl_files.proofs.load.+joining.Goals.{join_file-then-room-eq0-via-else-room-eq0+then-len-ge-MOST_FILES}
use Rattle.repl_files.proofs.load.+joining.Goals as goal

pub join_entries-returns-in-Err-clause-course : goal.join_entries-returns-in-Err-clause-course
join_entries-returns-in-Err-clause-course g t c = λ held is.
    let at = c.loop-entry in
    at.invariant.course held is (Err c.in-Err.fault) c.join_entry.new.all (g.F.Files.asked c.join_entry.new.files)
    (stopped_step (used c.args.room held) c.args.file.now c.args.number (length at.all.names.items)
    (into_iter_items at.entry-iterator) c.in-Some.entry (into_iter_items c.next.new.self) c.in-Err.fault
    (g.F.Files.asked at.files) (g.F.Files.asked c.join_entry.new.files)
    c.in-Some.ensures.steps.0 (c.in-Err.ensures.course held (at.invariant.files.held ∙ is)))

pub join_entries-loop-entry-preserved : goal.join_entries-loop-entry-preserved
join_entries-loop-entry-preserved g t c =
    let at = c.loop-entry in
    let steps : into_iter_items at.entry-iterator ≡ c.in-Some.entry ∷ into_iter_items c.next.new.self =
    c.in-Some.ensures.steps.0 in
    record {
      course = λ held is result new log course.
          at.invariant.course held is result new log
          (course_step (used c.args.room held) c.args.file.now c.args.number (into_iter_items at.entry-iterator)
          c.in-Some.entry (into_iter_items c.next.new.self) result at.all c.join_entry.new.all new
          (g.F.Files.asked at.files) (g.F.Files.asked c.join_entry.new.files) log steps
          (c.in_default.ensures.course held (at.invariant.files.held ∙ is)) course);
      left =
          let was = at.invariant.left in
          let gone = c.in-Some.ensures.steps.1 in
          let short = ap length steps in
          omega arith;
      few = c.join_entry.ensures.few;
      good = c.in_default.ensures.good;
      coming = (and_parts _ _ (rw steps at at.invariant.coming)).1;
      files = reads_on at.invariant.files (reads_as (λ none. absurd none) c.join_entry.ensures.files);
    }

pub join_entries-returns-clause-course : goal.join_entries-returns-clause-course
join_entries-returns-clause-course g t c = λ held is.
    let at = c.loop-entry in
    let none : length (into_iter_items at.entry-iterator) ≡ 0 = sym at.invariant.left ∙ c.in-None.ensures.steps.0 in
    at.invariant.course held is (Ok tt) at.all (g.F.Files.asked at.files)
    (course_end (used c.args.room held) c.args.file.now c.args.number (into_iter_items at.entry-iterator) at.all
    (g.F.Files.asked at.files) (nil_from_length _ none))

pub join_file-returns-then-room-eq0-clause-course : goal.join_file-returns-then-room-eq0-clause-course
join_file-returns-then-room-eq0-clause-course g t c = λ held is.
    let at : Use = record { file = c.args.file.now; line = c.args.line; name = c.args.name.now } in
    use_refused c.args.room held (length c.args.all.now.names.items) at c.fault_at.result
    (g.F.Files.asked c.args.files.now)
    (elim c.then-room-eq0.branch [
      | join_file-then-room-eq0-via-then-room-eq0 w ↦ inl w.if-room-eq0.true
      | join_file-then-room-eq0-via-else-room-eq0+then-len-ge-MOST_FILES w ↦
          inr (omega (arith, w.if-len-ge-MOST_FILES.true, w.len.ensures))
    ])
    c.fault_at.ensures

pub join_file-returns-in-Entries-clause-course : goal.join_file-returns-in-Entries-clause-course
join_file-returns-in-Entries-clause-course g t c = λ held is.
    let at : Use = record { file = c.args.file.now; line = c.args.line; name = c.args.name.now } in
    let opened = c.in-Entries.ensures.opened held is in
    let old = c.args.all.now in
    let some : 0 < c.args.room = omega arith in
    let few : length old.names.items < 64 = omega arith in
    let numbered : c.len-number.result ≡ length old.names.items = omega (arith, c.len-number.ensures) in
    use_goes c.args.room held at c.len-number.result c.join_entries.result old c.join_entries.new.all
    (g.F.Files.asked c.args.files.now) (g.F.Files.asked c.join_entries.new.files) some few numbered
    (file_goes (used (c.args.room - 1) held) (refused_at at Size) at.name c.len-number.result
    (content_of (get held at.name)) c.in-Entries.entries.items c.join_entries.result
    old c.note.new.all c.join_entries.new.all
    (g.F.Files.asked c.args.files.now) (g.F.Files.asked c.open.new.files) (g.F.Files.asked c.join_entries.new.files)
    opened.0 numbered c.in_default.ensures.names c.in_default.ensures.entries opened.1
    (c.join_entries.ensures.course held (c.open.ensures.files.held ∙ is)))

pub join_file-returns-in-TooLarge-clause-course : goal.join_file-returns-in-TooLarge-clause-course
join_file-returns-in-TooLarge-clause-course g t c = λ held is.
    let at : Use = record { file = c.args.file.now; line = c.args.line; name = c.args.name.now } in
    let opened = c.in-TooLarge.ensures.opened held is in
    let some : 0 < c.args.room = omega arith in
    let few : length c.args.all.now.names.items < 64 = omega arith in
    use_large c.args.room held (length c.args.all.now.names.items) at c.fault_at-in-TooLarge.result
    (g.F.Files.asked c.args.files.now) (g.F.Files.asked c.open.new.files) some few opened.0 opened.1
    c.fault_at-in-TooLarge.ensures

pub join_file-returns-in-Stopped-clause-course : goal.join_file-returns-in-Stopped-clause-course
join_file-returns-in-Stopped-clause-course g t c = λ held is.
    let at : Use = record { file = c.args.file.now; line = c.args.line; name = c.args.name.now } in
    let old = c.args.all.now in
    let some : 0 < c.args.room = omega arith in
    let few : length old.names.items < 64 = omega arith in
    use_goes c.args.room held at (length old.names.items) (Err c.in-Stopped.fault) old old
    (g.F.Files.asked c.args.files.now) (g.F.Files.asked c.open.new.files) some few refl
    (file_stopped (used (c.args.room - 1) held) (refused_at at Size) at.name (length old.names.items)
    (content_of (get held at.name)) c.in-Stopped.fault
    (g.F.Files.asked c.args.files.now) (g.F.Files.asked c.open.new.files) (c.in-Stopped.ensures.opened held is))

pub join_entries-returns-in-Err-clause-few : goal.join_entries-returns-in-Err-clause-few
join_entries-returns-in-Err-clause-few g t c = c.join_entry.ensures.few

pub join_entries-returns-clause-few : goal.join_entries-returns-clause-few
join_entries-returns-clause-few g t c = c.loop-entry.invariant.few

pub join_entries-returns-clause-good : goal.join_entries-returns-clause-good
join_entries-returns-clause-good g t c = c.loop-entry.invariant.good

pub join_entry-returns-in-Some-clause-course : goal.join_entry-returns-in-Some-clause-course
join_entry-returns-in-Some-clause-course g t c = λ held is.
    one_used (used c.args.room held) c.args.file.now c.args.number (length c.args.all.now.names.items) c.args.entry
    c.in-Some.name.now c.join_file.result c.args.all.now c.join_file.new.all (g.F.Files.asked c.args.files.now)
    (g.F.Files.asked c.join_file.new.files) c.in-Some.ensures (c.join_file.ensures.course held is)

pub join_entry-returns-in-Some-clause-few : goal.join_entry-returns-in-Some-clause-few
join_entry-returns-in-Some-clause-few g t c = c.join_file.ensures.few

pub join_entry-returns-in-Some-clause-good : goal.join_entry-returns-in-Some-clause-good
join_entry-returns-in-Some-clause-good g t c = c.join_file.ensures.good

pub join_entry-returns-in-None-clause-course : goal.join_entry-returns-in-None-clause-course
join_entry-returns-in-None-clause-course g t c = λ held is.
    one_kept (used c.args.room held) c.args.file.now c.args.number (length c.args.all.now.names.items) c.args.entry
    c.keep.result c.args.all.now c.keep.new.all (g.F.Files.asked c.args.files.now) c.in-None.ensures
    c.keep.ensures.ok c.keep.ensures.err c.keep.ensures.names

pub join_file-returns-in-Entries-clause-few : goal.join_file-returns-in-Entries-clause-few
join_file-returns-in-Entries-clause-few g t c = c.join_entries.ensures.few

pub join_file-returns-in-Entries-clause-good : goal.join_file-returns-in-Entries-clause-good
join_file-returns-in-Entries-clause-good g t c = c.join_entries.ensures.good

pub join_file-returns-in-Err-clause-course : goal.join_file-returns-in-Err-clause-course
join_file-returns-in-Err-clause-course g t c = λ held is. wanting _ _ _ c.in-Err.ensures.err

pub join_entries-returns-in-Err-clause-files : goal.join_entries-returns-in-Err-clause-files
join_entries-returns-in-Err-clause-files g t c =
    reads_on c.loop-entry.invariant.files c.in-Err.ensures.files

pub join_entries-returns-clause-files : goal.join_entries-returns-clause-files
join_entries-returns-clause-files g t c = reads_as (λ is. cc) c.loop-entry.invariant.files

pub join_entry-returns-in-Some-clause-files : goal.join_entry-returns-in-Some-clause-files
join_entry-returns-in-Some-clause-files g t c = c.join_file.ensures.files

pub join_file-returns-in-Entries-clause-files : goal.join_file-returns-in-Entries-clause-files
join_file-returns-in-Entries-clause-files g t c = reads_on c.open.ensures.files c.join_entries.ensures.files

pub join_file-returns-in-TooLarge-clause-files : goal.join_file-returns-in-TooLarge-clause-files
join_file-returns-in-TooLarge-clause-files g t c =
    reads_as (λ is. absurd (told_read _ _ _ refl c.fault_at-in-TooLarge.ensures is)) c.open.ensures.files

pub join_file-returns-then-room-eq0-clause-files : goal.join_file-returns-then-room-eq0-clause-files
join_file-returns-then-room-eq0-clause-files g t c =
    reads_none (λ is. told_read _ _ _ refl c.fault_at.ensures is)
