-- What was lent has come back to where it was lent from.
use Rattle.std.proofs.Common.{◌≡◌, IfSome, map, string_bytes, subst, rules}
use Rattle.lab_io.specs.Frame.{OnlyReads, OnlyStores, OnlyWrites}
use Rattle.lab_top.specs.declared.status.Status.TheVariants.{Unread, Unwritten, Unstored}
use Rattle.lab_top.specs.Headline.{AsksPart, OnRefused, WritesUsage, outside}
use Rattle.lab_top.specs.Request.{request_of}
use Rattle.lab_top.specs.Transcript.{transcript}
use Rattle.lab_top.proofs.Headlines.{asks_told, course_there, course_told, part_told, whole_told}
use Rattle.lab_top.proofs.Lending.{told_there, uncut_there}
use Rattle.lab_top.proofs.run.run_lab.Goals as goal

pub returns-clause-outcome : goal.returns-clause-outcome
returns-clause-outcome g c =
    whole_told _ _ _ _ _ _
    (course_there _ c.run_words.ensures.course
    (told_there g.F.Files g.K.Sink g.S.Store c.run_words.new.outside (search rules) (search rules) (search rules)))

pub returns-clause-prefix : goal.returns-clause-prefix
returns-clause-prefix g c =
    part_told _ _ _ _ _ _
    (course_there _ c.run_words.ensures.course
    (told_there g.F.Files g.K.Sink g.S.Store c.run_words.new.outside (search rules) (search rules) (search rules)))

pub returns-clause-course : goal.returns-clause-course
returns-clause-course g c =
    course_told _ _ _ _ _ _
    (course_there _ c.run_words.ensures.course
    (told_there g.F.Files g.K.Sink g.S.Store c.run_words.new.outside (search rules) (search rules) (search rules)))

pub returns-clause-asked : goal.returns-clause-asked
returns-clause-asked g c =
    let asks = asks_told _ _ _ _ _ _ c.run_words.ensures.course in
    subst
    (λ files. IfSome (g.F.Files.held c.args.files.now) (λ held. IfSome (g.S.Store.kept c.args.store.now) (λ kept.
    AsksPart (transcript (map string_bytes c.args.words.now) held kept) (g.F.Files.asked c.args.files.now)
    (g.F.Files.asked files))))
    (search rules) asks

pub returns-clause-complete : goal.returns-clause-complete
returns-clause-complete g c =
    uncut_there c.run_words.ensures.outside (search rules) (search rules) (search rules)

pub returns-clause-refused : goal.returns-clause-refused
returns-clause-refused g c =
    let before = outside g.F.Files g.K.Sink g.S.Store c.args.files.now c.args.out.now c.args.store.now in
    subst
    (λ after. OnRefused (request_of (map string_bytes c.args.words.now)) (WritesUsage c.run_words.result before after))
    (told_there g.F.Files g.K.Sink g.S.Store c.run_words.new.outside (search rules) (search rules) (search rules))
    c.run_words.ensures.refused

pub returns-clause-files : goal.returns-clause-files
returns-clause-files g c =
    subst (λ files. OnlyReads g.F.Files (c.run_words.result ≡ Unread) c.args.files.now files) (search rules)
    c.run_words.ensures.outside.reads

pub returns-clause-output : goal.returns-clause-output
returns-clause-output g c =
    subst (λ out. OnlyWrites g.K.Sink (c.run_words.result ≡ Unwritten) c.args.out.now out) (search rules)
    c.run_words.ensures.outside.writes

pub returns-clause-store : goal.returns-clause-store
returns-clause-store g c =
    subst (λ store. OnlyStores g.S.Store (c.run_words.result ≡ Unstored) c.args.store.now store) (search rules)
    c.run_words.ensures.outside.stores
