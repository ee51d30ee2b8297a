use Rattle.std.proofs.Common.{◌≡◌, ◌∙◌, length, Ok, Err, sym, ap}
use Rattle.std.specs.FinMap.{get}
use Rattle.repl_files.specs.declared.fault.LoadFault.TheVariants.{Unread}
use Rattle.repl_files.specs.declared.load.Loaded.{Loaded}
use Rattle.repl_files.specs.Content.{content_of}
use Rattle.repl_files.specs.Loading.{loaded, used, Oversized}
use Rattle.lab_io.proofs.Frames.{reads_as, reads_on}
use Rattle.repl_files.proofs.Uses.{file_stopped, file_goes, oversized, loaded_whole}
use Rattle.repl_files.proofs.Wanting.{wanting}
use Rattle.repl_files.proofs.load.load_file.Goals as goal

pub returns-in-Ok-clause-loaded : goal.returns-in-Ok-clause-loaded
returns-in-Ok-clause-loaded g c = λ held is.
    let opened = c.in-Entries.ensures.opened held is in
    let old : Loaded = record { names = c.new.result; entries = c.new-2.result } in
    loaded_whole (loaded held c.args.room c.args.name.now) old c.join_entries.new.all
    (g.F.Files.asked c.args.files.now) (g.F.Files.asked c.join_entries.new.files)
    c.new.ensures.items c.new-2.ensures.items
    (file_goes (used c.args.room held) Oversized c.args.name.now 0 (content_of (get held c.args.name.now))
    c.in-Entries.entries.items (Ok tt) old c.note.new.all c.join_entries.new.all
    (g.F.Files.asked c.args.files.now) (g.F.Files.asked c.open.new.files) (g.F.Files.asked c.join_entries.new.files)
    opened.0 (sym (ap length c.new.ensures.items)) c.in_default.ensures.names c.in_default.ensures.entries opened.1
    (c.in-Ok.ensures.course held (c.open.ensures.files.held ∙ is)))

pub returns-in-Err-join_entries-clause-loaded : goal.returns-in-Err-join_entries-clause-loaded
returns-in-Err-join_entries-clause-loaded g c = λ held is.
    let opened = c.in-Entries.ensures.opened held is in
    let old : Loaded = record { names = c.new.result; entries = c.new-2.result } in
    file_goes (used c.args.room held) Oversized c.args.name.now 0 (content_of (get held c.args.name.now))
    c.in-Entries.entries.items (Err c.in-Err-join_entries.fault) old c.note.new.all c.join_entries.new.all
    (g.F.Files.asked c.args.files.now) (g.F.Files.asked c.open.new.files) (g.F.Files.asked c.join_entries.new.files)
    opened.0 (sym (ap length c.new.ensures.items)) c.in_default.ensures.names c.in_default.ensures.entries opened.1
    (c.in-Err-join_entries.ensures.course held (c.open.ensures.files.held ∙ is))

pub returns-in-TooLarge-clause-loaded : goal.returns-in-TooLarge-clause-loaded
returns-in-TooLarge-clause-loaded g c = λ held is.
    let opened = c.in-TooLarge.ensures.opened held is in
    oversized (used c.args.room held) c.args.name.now 0 (content_of (get held c.args.name.now))
    (g.F.Files.asked c.args.files.now) (g.F.Files.asked c.open.new.files) opened.0 opened.1

pub returns-in-Stopped-clause-loaded : goal.returns-in-Stopped-clause-loaded
returns-in-Stopped-clause-loaded g c = λ held is.
    file_stopped (used c.args.room held) Oversized c.args.name.now 0 (content_of (get held c.args.name.now))
    c.in-Stopped.fault (g.F.Files.asked c.args.files.now) (g.F.Files.asked c.open.new.files)
    (c.in-Stopped.ensures.opened held is)

pub returns-in-Ok-clause-entries : goal.returns-in-Ok-clause-entries
returns-in-Ok-clause-entries g c = c.in-Ok.ensures.good

pub returns-in-Err-join_entries-clause-files : goal.returns-in-Err-join_entries-clause-files
returns-in-Err-join_entries-clause-files g c =
    reads_as (λ is. let same : c.in-Err-join_entries.fault ≡ Unread = cc in ap Err same)
    (reads_on c.open.ensures.files c.in-Err-join_entries.ensures.files)

pub returns-in-Err-clause-loaded : goal.returns-in-Err-clause-loaded
returns-in-Err-clause-loaded g c = λ held is. wanting _ _ _ c.in-Err.ensures.err
